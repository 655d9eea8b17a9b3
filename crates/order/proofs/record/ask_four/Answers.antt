-- The first n of four.
use mathlib.Core.Path.{sym}
use lib.Seq.{length-take-le}
use borrow.Author.Rules.{rules}
use Rattle.order.proofs.record.ask_four.Goals as goal

pub slice_bounds-ask_generators-end : goal.slice_bounds-ask_generators-end
slice_bounds-ask_generators-end c = sym (length-take-le _ _ (search rules))

pub returns : goal.returns
returns c = (c.ask_generators.ensures, search rules)
