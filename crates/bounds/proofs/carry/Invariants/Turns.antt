-- What `carried` comes to at first, with one turn more, and at the end.
-- Assumes nothing.
use Prim.Native.Nat.{ℕ, suc, ◌+◌, ◌-◌, ◌<◌, max}
use native.Mathlib.Omega.{arith}
use mathlib.Core.Path.{◌≡◌, sym, ap, ap₂, ◌∙◌}
use mathlib.Core.List.{List}
use lib.ListN.{get_or, set}
use Rattle.bounds.specs.Model.Tables.{carried}

module _ (ends starts n : ℕ) where
  pub carry_again : (j at next : ℕ) (work goal : List ℕ) → j < n → next ≡ max at (get_or work (ends + j) 0)
      → carried (ends + j) (starts + j) (n - j) at work ≡ goal → carried (ends + (j + 1)) (starts + (j + 1))
      (n - (j + 1)) next (set work (starts + j) at) ≡ goal
  unfolding carried
  carry_again j at next work goal h e inv =
      ap (λ (x : ℕ). carried (ends + (j + 1)) (starts + (j + 1)) (n - (j + 1)) x (set work (starts + j) at)) e
      ∙ ap₂ (λ (x y : ℕ). carried x y (n - (j + 1)) (max at (get_or work (ends + j) 0)) (set work (starts + j) at)) (one_more ends)
      (one_more starts)
      ∙ ap (λ (x : ℕ). carried (ends + j) (starts + j) x at work) more ∙ inv
    where
      one_more : (x : ℕ) → x + (j + 1) ≡ x + j + 1
      one_more x = omega arith

      more : suc (n - (j + 1)) ≡ n - j
      more = omega arith

  pub carry_end : (j at : ℕ) (work goal : List ℕ) → j ≡ n
      → carried (ends + j) (starts + j) (n - j) at work ≡ goal → set work (starts + n) at ≡ goal
  unfolding carried
  carry_end j at work goal h inv =
      ap (λ (x : ℕ). set work (starts + x) at) (sym h) ∙ ap (λ (x : ℕ). carried (ends + j) (starts + j) x at work) none ∙ inv
    where
      none : 0 ≡ n - j
      none = omega arith
