-- The checks one row after another: an odd row decides, and after an even one those from the next row on do; and four rows at once.
-- Assumes nothing.
use mathlib.Core.Path.{◌≡◌, refl, sym, ap, ◌∙◌, subst⁻¹}
use mathlib.Core.Bool.{Bool, true, false, ◌&&◌}
use mathlib.Core.List.{List}
use Prim.Native.Nat.{ℕ, zero, suc, ◌+◌, ◌≤◌, ◌<◌}
use native.Mathlib.Nat.{zero-add}
use native.Mathlib.Decide.{ℕ_discrete}
use native.Mathlib.Omega.{arith}
use borrow.Author.Tests.{eq-eqb, ne_eqb}
use lib.ListN.{length, get_or}
use Rattle.std.specs.List.{list_all, range_with_len}
use Rattle.lists.specs.Lists.{up_from}
use Rattle.lists.proofs.Lengths.{length-up_from, get_or-up_from}
use Rattle.lists.proofs.Scan.{all-next, all_fails, all_goes_on, all_end}
use Rattle.parity.specs.Model.Parity.{oddness, odd_of_four, even, even_from, all_even}

module _ (rows : List ℕ) (m low high : ℕ) where
  pub rows_all : even_from rows m 0 low high ≡ all_even rows m low high
  unfolding even_from all_even
  rows_all = refl

  module _ (i : ℕ) where
    before_length : i < m → i < length (up_from 0 m)
    before_length h = subst⁻¹ (λ (n : ℕ). i < n) (length-up_from 0 m) h

    row_at : i < m → even rows low high (get_or (up_from 0 m) i 0) ≡ even rows low high i
    row_at h = ap (even rows low high) (get_or-up_from 0 m i h ∙ zero-add i)

    pub row_odd : i < m → (oddness rows low high i ≡ 0 → ⊥) → even_from rows m i low high ≡ false
    unfolding even_from even
    row_odd h odd = all_fails (even rows low high) (up_from 0 m) 0 i (before_length h) (row_at h ∙ ne_eqb (oddness rows low high i) 0 odd)

    pub row-even : i < m → oddness rows low high i ≡ 0 → even_from rows m i low high ≡ even_from rows m (i + 1) low high
    unfolding even_from even
    row-even h none = all_goes_on (even rows low high) (up_from 0 m) 0 i (before_length h) (row_at h ∙ eq-eqb (oddness rows low high i) 0 none)

    pub rows_end : m ≤ i → even_from rows m i low high ≡ true
    unfolding even_from
    rows_end h = all_end (even rows low high) (up_from 0 m) 0 i (subst⁻¹ (λ (n : ℕ). n ≤ i) (length-up_from 0 m) h)

  -- the rows from row i on, as `all` over a range asks them
  pub rows_asked : (k i : ℕ) → i + k ≡ m → list_all (even rows low high) (range_with_len i k) ≡ even_from rows m i low high
  unfolding even_from
  rows_asked zero i e = sym (rows_end i (omega arith))
  rows_asked (suc k) i e =
      let h : i < m = omega arith in
      ap (λ (b : Bool). even rows low high i && b) (rows_asked k (i + 1) (omega arith))
      ∙ sym (all-next (even rows low high) (up_from 0 m) 0 i (before_length i h) ∙ ap (λ (b : Bool). b && even_from rows m (i + 1) low high) (row_at i h))

  -- ---- four rows

  -- row i + k, by one step more
  next_row : (i j : ℕ) → i < m → oddness rows low high i ≡ 0 → i + 1 ≡ j → even_from rows m i low high ≡ even_from rows m j low high
  next_row i j h none e = row-even i h none ∙ ap (λ (k : ℕ). even_from rows m k low high) e

  module _ (i : ℕ) (h : i + 4 ≤ m) where
    abbrev odd : ℕ → ℕ
    odd k = oddness rows low high (i + k)

    pub four_even : odd_of_four rows low high i ≡ 0 → even_from rows m i low high ≡ even_from rows m (i + 4) low high
    unfolding odd_of_four
    four_even none =
        let a : oddness rows low high i ≡ 0 = omega arith in
        let b : odd 1 ≡ 0 = omega arith in
        let c : odd 2 ≡ 0 = omega arith in
        let d : odd 3 ≡ 0 = omega arith in
        next_row i (i + 1) (omega arith) a (omega arith) ∙ next_row (i + 1) (i + 2) (omega arith) b (omega arith)
        ∙ next_row (i + 2) (i + 3) (omega arith) c (omega arith) ∙ next_row (i + 3) (i + 4) (omega arith) d (omega arith)

    pub four_odd : (odd_of_four rows low high i ≡ 0 → ⊥) → even_from rows m i low high ≡ false
    unfolding odd_of_four
    four_odd some = first (ℕ_discrete (oddness rows low high i) 0)
      where
        fourth : oddness rows low high i ≡ 0 → odd 1 ≡ 0 → odd 2 ≡ 0 → even_from rows m (i + 3) low high ≡ false
        fourth a b c = row_odd (i + 3) (omega arith) (λ d. some (omega arith))

        third : oddness rows low high i ≡ 0 → odd 1 ≡ 0 → Dec (odd 2 ≡ 0) → even_from rows m (i + 2) low high ≡ false
        third a b (no n) = row_odd (i + 2) (omega arith) n
        third a b (yes c) = next_row (i + 2) (i + 3) (omega arith) c (omega arith) ∙ fourth a b c

        second : oddness rows low high i ≡ 0 → Dec (odd 1 ≡ 0) → even_from rows m (i + 1) low high ≡ false
        second a (no n) = row_odd (i + 1) (omega arith) n
        second a (yes b) = next_row (i + 1) (i + 2) (omega arith) b (omega arith) ∙ third a b (ℕ_discrete (odd 2) 0)

        first : Dec (oddness rows low high i ≡ 0) → even_from rows m i low high ≡ false
        first (no n) = row_odd i (omega arith) n
        first (yes a) = next_row i (i + 1) (omega arith) a (omega arith) ∙ second a (ℕ_discrete (odd 1) 0)
