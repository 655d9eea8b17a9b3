-- One of the two ranges of digits.
use borrow.Author.Tests.{lt-ltb, le-ltb}
use Rattle.lines.specs.Lines.{digit}
use Rattle.lines.proofs.numbers.digit_of.Goals as goal

pub returns-then-x-lt10 : goal.returns-then-x-lt10
unfolding digit
returns-then-x-lt10 c = simp (lt-ltb _ _ c.if-x-lt10.true)

pub returns : goal.returns
unfolding digit
returns c = simp (le-ltb _ _ c.if-x-lt10.false)
