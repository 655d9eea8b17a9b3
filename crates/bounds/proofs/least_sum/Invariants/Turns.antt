-- What `least_sum` comes to at first, with one turn more, and at the end.
-- Assumes nothing.
use Prim.Native.Nat.{ℕ, suc, ◌+◌, ◌-◌, ◌≤◌, min}
use native.Mathlib.Omega.{arith}
use mathlib.Core.Path.{◌≡◌, refl, ap, ◌∙◌}
use mathlib.Core.List.{List}
use Rattle.bounds.specs.Model.Places.{too_heavy}
use Rattle.bounds.specs.Model.Tables.{least_at, fill_at, least_sum}

pub sum_begin : (work : List ℕ) (k : ℕ) → too_heavy ≡ least_sum work k (1 - 1)
unfolding least_sum
sum_begin work k = refl

pub sum_again : (work : List ℕ) (k l least r : ℕ) → 1 ≤ l → least ≡ least_sum work k (l - 1)
    → r ≡ min least (least_at work l + fill_at work (k - l))
    → r ≡ least_sum work k (l + 1 - 1)
unfolding least_sum
sum_again work k l least r h e is =
    is ∙ ap (λ (x : ℕ). min x (least_at work l + fill_at work (k - l))) e
    ∙ ap (λ (x : ℕ). min (least_sum work k (l - 1)) (least_at work x + fill_at work (k - x))) before ∙ ap (least_sum work k) after
  where
    before : l ≡ suc (l - 1)
    before = omega arith

    after : suc (l - 1) ≡ l + 1 - 1
    after = omega arith
