-- The length itself, or 0 where it is above 128.
use mathlib.Core.Path.{sym}
use Rattle.quote.proofs.Quoted.{quoted_own, quoted_none}
use Rattle.quote.proofs.longest_quoted.Goals as goal

pub returns-then-bits-le-LONGEST_WORD : goal.returns-then-bits-le-LONGEST_WORD
returns-then-bits-le-LONGEST_WORD c = sym (quoted_own _ c.if-bits-le-LONGEST_WORD.true)

pub returns : goal.returns
returns c = sym (quoted_none _ c.if-bits-le-LONGEST_WORD.false)
