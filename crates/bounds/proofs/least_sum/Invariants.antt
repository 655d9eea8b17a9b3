-- The invariant: the least weight of those that begin with a length below l.
pub mod Turns
use Prim.Native.Nat.{◌-◌}
use mathlib.Core.Path.{◌≡◌}
use Rattle.bounds.specs.Model.Tables.{least_sum}
use Rattle.bounds.proofs.least_sum.Given as goal

abbrev pub invariant-loop-l : goal.invariant-loop-l
invariant-loop-l l = l.least ≡ least_sum l.work l.k (l.l - 1)
