-- What `next_length` comes to at first, where a length fits, with one turn more, and at the end.
-- Assumes nothing.
use Prim.Native.Nat.{ℕ, suc, ◌+◌, ◌-◌, ◌≤◌, ◌<◌}
use native.Mathlib.Omega.{arith}
use mathlib.Core.Path.{◌≡◌, refl, sym, ap, ◌∙◌}
use mathlib.Core.Bool.{not}
use mathlib.Core.List.{List}
use lib.Dec.{T, leb, leb→le, le→leb, not_T}
use Rattle.lists.proofs.Choices.{cond_true, cond_false}
use Rattle.bounds.specs.Model.Tables.{least_at, start_at, fill_at, end_at, next_in, next_length}

module _ (work : List ℕ) (left budget : ℕ) where
  pub next_begin : (l : ℕ) → next_in (left + 1 - l) work left budget l ≡ next_length work left budget l
  unfolding next_length
  next_begin l = refl

  pub next-found : (k goal : ℕ) → k ≤ left → least_at work k + fill_at work (left - k) ≤ budget
      → next_in (left + 1 - k) work left budget k ≡ goal
      → start_at work k ≡ goal
  unfolding next_in
  next-found k goal h fits inv =
      sym (cond_true (leb (least_at work k + fill_at work (left - k)) budget) (start_at work k)
      (next_in (left - k) work left budget (k + 1)) (le→leb _ budget fits))
      ∙ ap (λ (n : ℕ). next_in n work left budget k) more ∙ inv
    where
      more : suc (left - k) ≡ left + 1 - k
      more = omega arith

  pub next_again : (k goal : ℕ) → k ≤ left → budget < least_at work k + fill_at work (left - k)
      → next_in (left + 1 - k) work left budget k ≡ goal
      → next_in (left + 1 - (k + 1)) work left budget (k + 1) ≡ goal
  unfolding next_in
  next_again k goal h over inv =
      ap (λ (n : ℕ). next_in n work left budget (k + 1)) fewer
      ∙ sym (cond_false (leb (least_at work k + fill_at work (left - k)) budget) (start_at work k)
      (next_in (left - k) work left budget (k + 1)) (fails _ budget over))
      ∙ ap (λ (n : ℕ). next_in n work left budget k) more ∙ inv
    where
      fewer : left + 1 - (k + 1) ≡ left - k
      fewer = omega arith

      more : suc (left - k) ≡ left + 1 - k
      more = omega arith

      fails : (x y : ℕ) → y < x → T (not (leb x y))
      fails x y g = not_T (leb x y) (λ t. let l = leb→le x y t in absurd (omega arith))

  pub next_end : (k goal : ℕ) → left < k → next_in (left + 1 - k) work left budget k ≡ goal → end_at work ≡ goal
  unfolding next_in
  next_end k goal h inv = ap (λ (n : ℕ). next_in n work left budget k) none ∙ inv
    where
      none : 0 ≡ left + 1 - k
      none = omega arith
