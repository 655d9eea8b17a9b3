-- The invariant: what is left to store, stored from here, gives the whole.
use mathlib.Core.Path.{◌≡◌}
use Prim.Native.Nat.{◌-◌}
use Rattle.needed.specs.Model.Tables.{step_count, weights_from}
use Rattle.needed.proofs.tables.fill_weights.Given as goal

abbrev pub invariant-loop-x : goal.invariant-loop-x
invariant-loop-x l = weights_from l.generators (step_count - l.x) l.x l.work ≡ weights_from l.generators step_count 0 l.initial.work
