-- A number with another set above it, a + x * 2^p where a < 2^p, in two halves of 64 bits as the code computes it: no sum of halves overflows.
-- Assumes nothing.
use Prim.Native.Nat.{ℕ, ◌+◌, ◌-◌, ◌*◌, ◌/◌, ◌%◌, ◌^◌, ◌≤◌, ◌<◌}
use native.Mathlib.Nat.{zero-add, add-zero, zero-mul, one-mul, mul_assoc, mod-eq_of_lt, lt_of_mul-lt-mul_right, mul-le-mul_left, sub-add_cancel}
use native.Mathlib.Decide.{dec_lt}
use native.Mathlib.Omega.{arith}
use mathlib.Core.Path.{◌≡◌, sym, ap, ap₂, ◌∙◌, subst}
use lib.Arith.{lt-one}
use lib.Pow.{pow_pos, pow-add, pow-lt, pow_mono}
use Rattle.poly.proofs.Shifts.{beside_fits, up_halves}

-- ---- places 1 to 63

module _ (h l g m p : ℕ) (s : p < 64) (small : g * 2 ^ 64 + m < 2 ^ p) where
  no_high : g ≡ 0
  no_high = let top : 2 ^ p < 2 ^ 64 = pow-lt s in omega arith

  low_lt : m < 2 ^ p
  low_lt = omega arith

  pub low_fits : m + l * 2 ^ p % 2 ^ 64 < 2 ^ 64
  low_fits = beside_fits m l p s low_lt

  pub joined_low : (h * 2 ^ 64 + l) * 2 ^ p < 2 ^ 128
      → (h * 2 ^ p % 2 ^ 64 + l / 2 ^ (64 - p)) * 2 ^ 64 + (m + l * 2 ^ p % 2 ^ 64) ≡ g * 2 ^ 64 + m + (h * 2 ^ 64 + l) * 2 ^ p
  joined_low fit =
      regroup (h * 2 ^ p % 2 ^ 64 + l / 2 ^ (64 - p)) m (l * 2 ^ p % 2 ^ 64) ∙ ap₂ (λ (x y : ℕ). x + y) (lows g m no_high) (up_halves h l p s fit)
    where
      regroup : (x y z : ℕ) → x * 2 ^ 64 + (y + z) ≡ y + (x * 2 ^ 64 + z)
      regroup x y z = omega arith

      lows : (x y : ℕ) → x ≡ 0 → y ≡ x * 2 ^ 64 + y
      lows x y e = omega arith

-- ---- places 64 to 127

module _ (h l g m p : ℕ) (many : 64 ≤ p) (s : p < 128) (fit : (h * 2 ^ 64 + l) * 2 ^ p < 2 ^ 128) where
  high_power : 2 ^ p ≡ 2 ^ (p - 64) * 2 ^ 64
  high_power = ap (λ (x : ℕ). 2 ^ x) (sym (sub-add_cancel many)) ∙ pow-add 2 (p - 64) 64

  -- the whole number, shifted by the part of p above 64
  shifted : (h * 2 ^ 64 + l) * 2 ^ (p - 64) < 2 ^ 64
  shifted =
      lt_of_mul-lt-mul_right (2 ^ 64)
      (subst (λ (x : ℕ). x < 2 ^ 64 * 2 ^ 64) (ap (λ (x : ℕ). (h * 2 ^ 64 + l) * x) high_power ∙ sym (mul_assoc (h * 2 ^ 64 + l) (2 ^ (p - 64)) (2 ^ 64))) fit)

  none : h ≡ 0
  none =
      let pos : 0 < 2 ^ (p - 64) = pow_pos (p - 64) in
      let least : (h * 2 ^ 64 + l) * 1 ≤ (h * 2 ^ 64 + l) * 2 ^ (p - 64) = mul-le-mul_left (h * 2 ^ 64 + l) pos in
      zero_high h l ((h * 2 ^ 64 + l) * 2 ^ (p - 64)) least shifted
    where
      zero_high : (x y z : ℕ) → (x * 2 ^ 64 + y) * 1 ≤ z → z < 2 ^ 64 → x ≡ 0
      zero_high x y z a b = omega arith

  pub only_low_lem : h * 2 ^ 64 + l ≡ l
  only_low_lem = ap (λ (x : ℕ). x * 2 ^ 64 + l) none ∙ zero-add l

  whole : l * 2 ^ (p - 64) % 2 ^ 64 ≡ l * 2 ^ (p - 64)
  whole = mod-eq_of_lt (subst (λ (x : ℕ). x * 2 ^ (p - 64) < 2 ^ 64) only_low_lem shifted)

  high_fits : g * 2 ^ 64 + m < 2 ^ p → g + l * 2 ^ (p - 64) % 2 ^ 64 < 2 ^ 64
  high_fits small = beside_fits g l (p - 64) (omega arith) (high_lt g m (2 ^ p) (2 ^ (p - 64)) small high_power)
    where
      high_lt : (x y z w : ℕ) → x * 2 ^ 64 + y < z → z ≡ w * 2 ^ 64 → x < w
      high_lt x y z w a b = omega arith

  joined_high : (g + l * 2 ^ (p - 64) % 2 ^ 64) * 2 ^ 64 + m ≡ g * 2 ^ 64 + m + (h * 2 ^ 64 + l) * 2 ^ p
  joined_high =
      regroup g (l * 2 ^ (p - 64) % 2 ^ 64) m
      ∙ ap (λ (x : ℕ). g * 2 ^ 64 + m + x)
      (ap (λ (x : ℕ). x * 2 ^ 64) whole
      ∙ mul_assoc l (2 ^ (p - 64)) (2 ^ 64)
      ∙ ap₂ (λ (x y : ℕ). x * y) (sym only_low_lem) (sym high_power))
    where
      regroup : (x y z : ℕ) → (x + y) * 2 ^ 64 + z ≡ x * 2 ^ 64 + z + y * 2 ^ 64
      regroup x y z = omega arith

-- ---- places from 128 on: only 0 is set there

module _ (h l g m p : ℕ) (far : 128 ≤ p) (fit : (h * 2 ^ 64 + l) * 2 ^ p < 2 ^ 128) where
  nothing : h * 2 ^ 64 + l ≡ 0
  nothing =
      let most : 2 ^ 128 ≤ 2 ^ p = pow_mono far in
      lt-one (lt_of_mul-lt-mul_right (2 ^ p) (subst (λ (x : ℕ). (h * 2 ^ 64 + l) * 2 ^ p < x) (sym (one-mul (2 ^ p))) (below ((h * 2 ^ 64 + l) * 2 ^ p) (2 ^ 128) (2 ^ p) fit most)))
    where
      below : (x y z : ℕ) → x < y → y ≤ z → x < z
      below x y z a b = omega arith

  -- however it is shifted
  nothing_shifted : (k : ℕ) → l * 2 ^ k % 2 ^ 64 ≡ 0
  nothing_shifted k = let e : l ≡ 0 = omega (arith, nothing) in ap (λ (x : ℕ). x * 2 ^ k % 2 ^ 64) e ∙ ap (λ (x : ℕ). x % 2 ^ 64) (zero-mul (2 ^ k))

  joined_none : (k : ℕ) → (g + l * 2 ^ k % 2 ^ 64) * 2 ^ 64 + m ≡ g * 2 ^ 64 + m + (h * 2 ^ 64 + l) * 2 ^ p
  joined_none k =
      ap (λ (x : ℕ). (g + x) * 2 ^ 64 + m) (nothing_shifted k) ∙ ap (λ (x : ℕ). x * 2 ^ 64 + m) (add-zero g)
      ∙ sym (ap (λ (x : ℕ). g * 2 ^ 64 + m + x * 2 ^ p) nothing ∙ ap (λ (x : ℕ). g * 2 ^ 64 + m + x) (zero-mul (2 ^ p)) ∙ add-zero (g * 2 ^ 64 + m))

-- ---- places from 64 on, shifted by the place without its 64s

module _ (h l g m p : ℕ) (many : 64 ≤ p) (fit : (h * 2 ^ 64 + l) * 2 ^ p < 2 ^ 128) where
  pub above_fits : g < 2 ^ 64 → g * 2 ^ 64 + m < 2 ^ p → g + l * 2 ^ (p % 64) % 2 ^ 64 < 2 ^ 64
  above_fits wide small = elim (dec_lt p 128) [
    | yes s ↦
        let k : p - 64 ≡ p % 64 = omega arith in
        subst (λ (x : ℕ). g + l * 2 ^ x % 2 ^ 64 < 2 ^ 64) k (high_fits h l g m p many s fit small)
    | no n ↦ let z = nothing_shifted h l g m p (omega arith) fit (p % 64) in omega arith
  ]

  pub joined_above : (g + l * 2 ^ (p % 64) % 2 ^ 64) * 2 ^ 64 + m ≡ g * 2 ^ 64 + m + (h * 2 ^ 64 + l) * 2 ^ p
  joined_above = elim (dec_lt p 128) [
    | yes s ↦
        let k : p - 64 ≡ p % 64 = omega arith in
        sym (ap (λ (x : ℕ). (g + l * 2 ^ x % 2 ^ 64) * 2 ^ 64 + m) k) ∙ joined_high h l g m p many s fit
    | no n ↦ joined_none h l g m p (omega arith) fit (p % 64)
  ]
