-- The invariant: the sum and what the generators left add is the whole.
use mathlib.Core.Path.{◌≡◌}
use mathlib.Core.List.{List}
use Prim.Native.Nat.{ℕ, ◌+◌, ◌/◌, ◌%◌, ◌≤◌}
use lib.ListN.{drop}
use Rattle.code.specs.Trellis.{step_weight}
use Rattle.code.proofs.encoder.step_weight.Given as goal

pub record Summing (generators : List ℕ) (x sum i : ℕ) : Type 0 where
  pub small : sum ≤ i
  pub adds : sum + step_weight (drop i generators) (x / 2) (x % 2) ≡ step_weight generators (x / 2) (x % 2)

abbrev pub invariant-loop-g : goal.invariant-loop-g
invariant-loop-g l = Summing l.generators l.x l.sum l.g-index
