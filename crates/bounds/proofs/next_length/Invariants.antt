-- The invariant: what is found from length k on is what is looked for.
pub mod Turns
use Prim.Native.Nat.{◌+◌, ◌-◌}
use mathlib.Core.Path.{◌≡◌}
use Rattle.bounds.specs.Model.Tables.{next_in, next_length}
use Rattle.bounds.proofs.next_length.Given as goal

abbrev pub invariant-loop-k : goal.invariant-loop-k
invariant-loop-k l = next_in (l.left + 1 - l.k) l.work l.left l.budget l.k ≡ next_length l.work l.left l.budget l.l
