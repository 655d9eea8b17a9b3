-- The invariant: the lengths left, made ready from here, give the whole.
pub mod Turns
use Prim.Native.Nat.{◌-◌}
use mathlib.Core.Path.{◌≡◌}
use Rattle.bounds.specs.Model.Places.{length_count}
use Rattle.bounds.specs.Model.Tables.{reset_from}
use Rattle.bounds.proofs.open_state.Given as goal

abbrev pub invariant-loop-l : goal.invariant-loop-l
invariant-loop-l l = reset_from (length_count - l.l) l.l l.work ≡ reset_from length_count 0 l.initial.work
