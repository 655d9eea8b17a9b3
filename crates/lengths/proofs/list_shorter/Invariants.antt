-- The invariant: those that are passed, at the end of the lengths, are listed.
use Prim.Native.Nat.{◌-◌}
use lib.ListN.{length}
use Rattle.order.specs.Answers.{order_in}
use Rattle.lengths.proofs.Noting.{Stands}
use Rattle.lengths.proofs.list_shorter.Given as goal

abbrev pub invariant-loop-bits : goal.invariant-loop-bits
invariant-loop-bits l = Stands (order_in l.order) l.lengths l.initial.paths l.initial.work (length l.lengths - length l.yielded) l.firsts l.work
