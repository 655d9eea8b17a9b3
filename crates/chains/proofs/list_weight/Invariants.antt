-- The invariant: what the states left find, appended from here, gives the whole.
use Prim.Native.Nat.{◌-◌}
use Rattle.chains.specs.Model.Chaining.{ToListWeight}
use Rattle.chains.proofs.list_weight.Given as goal
use Rattle.chains.proofs.list_weight.Invariants.Turns.{Stands}
pub mod Turns

abbrev pub invariant-loop-i : goal.invariant-loop-i
invariant-loop-i l = (ask : ToListWeight l.events l.initial.work l.initial.paths l.at l.states l.first l.w) → Stands ask l.i l.next l.work l.paths
