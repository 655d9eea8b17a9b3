-- What a whole word of a state weighs at least, once it is kept: the index of the states, the number of steps and the least weights of steps stay.
-- Assumes nothing.
use Prim.Native.Nat.{ℕ, ◌+◌, ◌≤◌, ◌<◌}
use native.Mathlib.Omega.{arith}
use mathlib.Core.Path.{◌≡◌}
use mathlib.Core.Logic.{◌≢◌, inl}
use mathlib.Core.List.{List, [], ◌∷◌}
use lib.ListN.{length}
use lib.Seq.{get_or-set_same, get_or-set_other}
use Rattle.code.specs.Model.Steps.{most_steps}
use Rattle.bounds.specs.Model.Places.{state_count, whole_place, area_size, firsts, fills, bits_cell, wholes}
use Rattle.bounds.specs.Model.Tables.{first_of, fill_at, bits_at, whole_at, whole_kept}
use Rattle.bounds.proofs.Regions.{Keeps, keeps_set, kept}

module _ (work : List ℕ) (i : ℕ) (inside : i < state_count) where
  keeps : Keeps (wholes ∷ []) work (whole_kept i work)
  unfolding whole_kept
  keeps = keeps_set work (whole_place + i) (fill_at work (bits_at work)) (inl (omega arith, omega arith))

  pub length_kept : length (whole_kept i work) ≡ length work
  length_kept = keeps.size

  pub bits_kept : bits_at (whole_kept i work) ≡ bits_at work
  bits_kept = kept keeps bits_cell tt 0 (omega arith)

  pub first_kept : (j : ℕ) → j ≤ state_count → first_of (whole_kept i work) j ≡ first_of work j
  first_kept j h = kept keeps firsts tt j (omega arith)

  pub fill_kept : (k : ℕ) → k ≤ most_steps → fill_at (whole_kept i work) k ≡ fill_at work k
  fill_kept k h = kept keeps fills tt k (omega arith)

  pub whole_same : area_size ≤ length work → whole_at (whole_kept i work) i ≡ fill_at work (bits_at work)
  unfolding whole_kept
  whole_same h = get_or-set_same work (whole_place + i) (fill_at work (bits_at work)) 0 (omega arith)

  pub whole_other : (j : ℕ) → j ≢ i → whole_at (whole_kept i work) j ≡ whole_at work j
  unfolding whole_kept
  whole_other j n = get_or-set_other work (whole_place + i) (whole_place + j) (fill_at work (bits_at work)) 0 (λ e. n (same j i e))
    where
      same : (x y : ℕ) → whole_place + x ≡ whole_place + y → x ≡ y
      same x y e = omega arith
