-- The invariant: the first i generators have been stored.
use mathlib.Core.Path.{◌≡◌}
use mathlib.Core.List.{List, map}
use Prim.Native.Nat.{ℕ}
use lib.ListN.{length, take}
use lib.Seq.{sets}
use Rattle.code.specs.Trellis.{tapped}
use Rattle.code.proofs.encoder.put_step.Given as goal

pub record Storing (output₀ : List ℕ) (at : ℕ) (gs : List ℕ) (inputs : ℕ) (output : List ℕ) (i : ℕ) : Type 0 where
  pub same_size : length output ≡ length output₀
  pub stored : output ≡ sets output₀ at (map (tapped inputs) (take i gs))

abbrev pub invariant-loop-i : goal.invariant-loop-i
invariant-loop-i l = Storing l.initial.output l.at l.generators l.inputs l.output l.i
