-- Before turn k, as `Collecting` says.
pub mod Collecting
use Rattle.std.proofs.Common.{◌-◌, ◌≡◌, length}
use Rattle.order.specs.Answers.{order_in}
use Rattle.collection.proofs.gather.Given as goal
use Rattle.collection.proofs.gather.Invariants.Collecting.{Before}

abbrev pub invariant-loop-k : goal.invariant-loop-k
invariant-loop-k l = Before (order_in l.link.order) (length l.fn.events) (length l.fn.work) l.k l.at l.events l.work
