-- The two states before a state: s / 2, and s / 2 with the register's highest bit set. Numbers alone: `half` is 2 ^ (v - 1), and `whole` is 2 ^ v.
-- Assumes nothing.
use Prim.Native.Nat.{ℕ, zero, suc, ◌+◌, ◌-◌, ◌*◌, ◌/◌, ◌%◌, ◌^◌, ◌≤◌, ◌<◌}
use native.Mathlib.Nat.{mod-eq_of_lt, add-mod_right, pow-succ'}
use native.Mathlib.Decide.{dec_lt}
use native.Mathlib.Omega.{arith}
use mathlib.Core.Path.{◌≡◌, sym, ap, ◌∙◌}
use mathlib.Core.Logic.{◌⊎◌, inl, inr}

pub twice_half : (v : ℕ) → 1 ≤ v → 2 ^ v ≡ 2 * 2 ^ (v - 1)
twice_half zero h = absurd (omega arith)
twice_half (suc v) h = pow-succ' 2 v ∙ ap (λ (x : ℕ). 2 * 2 ^ x) (less_one v)
  where
    less_one : (x : ℕ) → x ≡ suc x - 1
    less_one x = omega arith

halves : (s : ℕ) → 2 * (s / 2) + s % 2 ≡ s
halves s = omega arith

halves_and : (s half : ℕ) → 2 * (s / 2 + half) + s % 2 ≡ s + 2 * half
halves_and s half = omega arith

module _ (whole half : ℕ) (twice : whole ≡ 2 * half) where
  pub step_low : (s : ℕ) → s < whole → (2 * (s / 2) + s % 2) % whole ≡ s
  step_low s h = ap (λ (x : ℕ). x % whole) (halves s) ∙ mod-eq_of_lt h

  pub step_high : (s : ℕ) → s < whole → (2 * (s / 2 + half) + s % 2) % whole ≡ s
  step_high s h =
      ap (λ (x : ℕ). x % whole) (halves_and s half ∙ ap (λ (x : ℕ). s + x) (sym twice)) ∙ add-mod_right s whole ∙ mod-eq_of_lt h

  pub before_fits : (s : ℕ) → s < whole → (s / 2 < half) × (s / 2 + half < whole)
  before_fits s h = (omega arith, omega arith)

  -- the state before is one of the two
  pub before_is : (p b s : ℕ) → p < whole → b < 2 → s ≡ (2 * p + b) % whole
      → ((p ≡ s / 2) × (b ≡ s % 2)) ⊎ ((p ≡ s / 2 + half) × (b ≡ s % 2))
  before_is p b s hp hb e = elim (dec_lt p half) [
    | yes g ↦ inl (low_case (e ∙ mod-eq_of_lt (omega arith)))
    | no g ↦
        let moved : 2 * p + b ≡ (2 * (p - half) + b) + whole = omega arith in
        inr (high_case (omega arith) (e ∙ ap (λ (x : ℕ). x % whole) moved ∙ add-mod_right (2 * (p - half) + b) whole ∙ mod-eq_of_lt (omega arith)))
  ]
    where
      low_case : s ≡ 2 * p + b → (p ≡ s / 2) × (b ≡ s % 2)
      low_case q = (omega arith, omega arith)

      high_case : half ≤ p → s ≡ 2 * (p - half) + b → (p ≡ s / 2 + half) × (b ≡ s % 2)
      high_case g q = (omega arith, omega arith)
