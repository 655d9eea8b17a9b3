-- The invariant: the numbers of steps left, filled from here, give the whole, and sums are still small.
pub mod Turns
use Rattle.bounds.proofs.fill.Invariants.Turns.{Filling}
use Rattle.bounds.proofs.fill.Given as goal

abbrev pub invariant-loop-k : goal.invariant-loop-k
invariant-loop-k l = Filling l.initial.work l.bits l.work l.k
