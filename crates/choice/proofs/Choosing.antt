-- From the flags to the outcome: how many are left, the first of them, and its counts in the undetected list.
-- Assumes nothing.
use Prim.Native.Nat.{ℕ, ◌+◌, ◌-◌, ◌*◌, ◌^◌, ◌<◌}
use native.Mathlib.Omega.{arith}
use mathlib.Core.Path.{◌≡◌, refl, sym, ap, ◌∙◌, subst}
use mathlib.Core.Bool.{Bool, true, false}
use mathlib.Core.List.Memᴰ
use mathlib.Core.List.{List, [], ◌∷◌, map, Memᴰ}
use lib.ListN.{length, get_or, take, length-map}
use Rattle.undetected.specs.Model.Steps.{divided_counts, counted_from}
use Rattle.undetected.proofs.Counts.{length-divided_counts}
use Rattle.choice.specs.Choice.{first_of}
use Rattle.choice.specs.Model.Steps.{alive_below, offered_by, left_over, laid}
use Rattle.choice.proofs.Best.{best_nonempty}
use Rattle.choice.proofs.Offered.{of_alive, first_is_up, offered_member}
use Rattle.choice.proofs.Weighed.{counted-laid, take-laid, laid_again}

first_of-map : (g : ℕ → ℕ) {k : ℕ} (l : List ℕ) → Memᴰ k l → first_of (map g l) ≡ g (first_of l)
unfolding first_of
first_of-map g [] member = absurd (Memᴰ.not-nil member)
first_of-map g (k ∷ l) member = refl

module _ (m entries : ℕ) (table plain : List ℕ) where
  abbrev counts : ℕ → List ℕ
  counts p = divided_counts m table plain entries p

  counts_length : (p : ℕ) → length (counts p) ≡ entries
  counts_length p = length-divided_counts m p table plain entries

  -- ---- before the comparison

  pub first_counted : (p q : ℕ) (before after : List ℕ) → p ≡ q → after ≡ counted_from m p table plain 0 entries before
      → take entries after ≡ counts q
  first_counted p q before after same e =
      ap (take entries) (e ∙ counted-laid m p table plain entries before) ∙ take-laid entries (counts p) before (counts_length p) ∙ ap counts same

  pub left_listed : (p q : ℕ) (before between after : List ℕ) → between ≡ counted_from m p table plain 0 entries before
      → after ≡ laid (counts q) between → after ≡ laid (counts q) before
  left_listed p q before between after e f =
      f ∙ ap (laid (counts q)) (e ∙ counted-laid m p table plain entries before) ∙ laid_again entries (counts p) (counts q) before (counts_length p) (counts_length q)

  -- ---- after it

  module _ (n : ℕ) (flags alive : List Bool) (all : n ≡ 2 ^ (m - 1)) (some : (k : ℕ) × (k < 2 ^ (m - 1)) × (get_or flags k false ≡ true))
      (left : offered_by m alive ≡ left_over m (offered_by m flags) table plain entries) where
    left_is_alive : left_over m (offered_by m flags) table plain entries ≡ map (λ k. 2 ^ m + 2 * k + 1) (alive_below alive n)
    unfolding offered_by
    left_is_alive = sym left ∙ ap (λ (i : ℕ). map (λ k. 2 ^ m + 2 * k + 1) (alive_below alive i)) (sym all)

    pub left_counted : (shared : ℕ) → shared ≡ length (alive_below alive n) → shared ≡ length (left_over m (offered_by m flags) table plain entries)
    left_counted shared e = e ∙ sym (ap length left_is_alive ∙ length-map (alive_below alive n) (λ k. 2 ^ m + 2 * k + 1))

    pub some_left : (k : ℕ) × Memᴰ k (alive_below alive n)
    unfolding left_over
    some_left =
        let b = best_nonempty counts (offered_by m flags) (offered_member m flags (some.1, some.2)) in
        let h = Memᴰ.of_map (λ k. 2 ^ m + 2 * k + 1) (alive_below alive n) (subst (Memᴰ b.0) left_is_alive b.1) in
        (h.0, h.1)

    pub first_below : (first : ℕ) → first ≡ first_of (alive_below alive n) → first < 2 ^ (m - 1)
    first_below first e = omega (arith, all, (first_is_up alive n (of_alive alive n some_left.1) e).0)

    pub left_first : (first p : ℕ) → first ≡ first_of (alive_below alive n) → p ≡ 2 ^ m + 2 * first + 1
        → p ≡ first_of (left_over m (offered_by m flags) table plain entries)
    left_first first p e named =
        let g : ℕ → ℕ = λ k. 2 ^ m + 2 * k + 1 in
        named ∙ ap g e ∙ sym (ap first_of left_is_alive ∙ first_of-map g (alive_below alive n) some_left.1)
