-- Horner's scheme over a number's binary digits: its equation, with no count of digits, and that it is linear where its step is.
-- Assumes nothing.
use mathlib.Core.Path.{◌≡◌, refl, sym, ap, ap₂, ◌∙◌}
use Prim.Native.Nat.{ℕ, zero, suc, ◌/◌, ◌%◌, ◌≤◌, ◌<◌}
use native.Mathlib.Nat.{not-suc-le-zero, le_refl}
use native.Mathlib.Decide.{le_ind}
use lib.Arith.{bin_ind, half_le}
use lib.Bits.{differ}
use Rattle.poly.specs.Poly.{◌⊕◌, digits_through, horner}
use Rattle.poly.proofs.Sum.{mod2_lt, half_⊕, mod2_⊕, ⊕_zero_l}

-- ---- digits beyond the number's own change nothing, where the step takes a 0 at 0 to 0

module _ (step : ℕ → ℕ → ℕ) (rest : step 0 0 ≡ 0) where
  one_more : (d n : ℕ) → n ≤ d → digits_through step (suc d) n ≡ digits_through step d n
  unfolding digits_through
  one_more zero zero h = rest
  one_more zero (suc n) h = absurd (not-suc-le-zero h)
  one_more (suc d) n h = ap (λ (x : ℕ). step x (n % 2)) (one_more d (n / 2) (half_le h))

  enough : (d n : ℕ) → n ≤ d → digits_through step d n ≡ horner step n
  unfolding horner
  enough d n h = le_ind (λ (k : ℕ). digits_through step k n ≡ digits_through step n n) refl (λ k l e. one_more k n l ∙ e) d h

  -- all digits but the lowest first, then the lowest
  pub horner_step : (u : ℕ) → horner step u ≡ step (horner step (u / 2)) (u % 2)
  unfolding horner digits_through
  horner_step zero = sym rest
  horner_step (suc u) = ap (λ (x : ℕ). step x (suc u % 2)) (enough u (suc u / 2) (half_le (le_refl (suc u))))

pub horner_zero : (step : ℕ → ℕ → ℕ) → horner step 0 ≡ 0
unfolding horner digits_through
horner_zero step = refl

-- ---- linearity

-- the step of a sum is the sum of the steps
abbrev pub LinearStep : (ℕ → ℕ → ℕ) → Type 0
LinearStep step = (r s b c : ℕ) → b < 2 → c < 2 → step (r ⊕ s) (differ b c) ≡ step r b ⊕ step s c

pub horner_⊕ : (step : ℕ → ℕ → ℕ) → step 0 0 ≡ 0 → LinearStep step → (a b : ℕ) → horner step (a ⊕ b) ≡ horner step a ⊕ horner step b
horner_⊕ step rest linear =
    bin_ind (λ (n : ℕ). (b : ℕ) → horner step (n ⊕ b) ≡ horner step n ⊕ horner step b)
    (λ b. ap (horner step) (⊕_zero_l b) ∙ sym (ap (λ (x : ℕ). x ⊕ horner step b) (horner_zero step) ∙ ⊕_zero_l (horner step b)))
    (λ n ih b.
    horner_step step rest (n ⊕ b)
    ∙ ap₂ step (ap (horner step) (half_⊕ n b) ∙ ih (b / 2)) (mod2_⊕ n b)
    ∙ linear (horner step (n / 2)) (horner step (b / 2)) (n % 2) (b % 2) (mod2_lt n) (mod2_lt b)
    ∙ sym (ap₂ (λ (x y : ℕ). x ⊕ y) (horner_step step rest n) (horner_step step rest b)))
