-- The invariant: the table and the counts are those of the weights so far (`Standing.antt`).
use lib.ListN.{length}
use Rattle.order.specs.Answers.{order_in}
use Rattle.filling.specs.Model.Filling.{ToFill}
use Rattle.filling.proofs.Standing.{Standing, ready}
use Rattle.filling.proofs.fill.Given as goal

abbrev pub invariant-loop-w : goal.invariant-loop-w
invariant-loop-w l = (asked : ToFill (order_in l.order) l.events l.fn.plain l.fn.work) → Standing (ready (length l.fn.paths) asked) l.w l.at l.paths l.plain l.work
