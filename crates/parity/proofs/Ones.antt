-- Laws of the number of ones: of a sum of polynomials, of the common ones of two numbers, and its parity.
-- Assumes nothing.
use mathlib.Core.Path.{◌≡◌, refl, ap, ap₂, ◌∙◌}
use Prim.Native.Nat.{ℕ, ◌+◌, ◌*◌, ◌/◌, ◌%◌, ◌^◌, ◌<◌, min}
use native.Mathlib.Omega.{arith}
use lib.Arith.{bin_ind, digits_div, digits_mod}
use lib.Bits.{differ, bit_and, and_step, and_zero_l, and_lt, and_block}
use lib.Count.{ones, ones_in, ones_step, ones_cat}
use lib.Dec.{lit<}
use Rattle.poly.specs.Poly.{◌⊕◌}
use Rattle.poly.proofs.Sum.{for_bits, mod2_lt, mod2_⊕, half_⊕, ⊕_zero_l}

ones_zero : ones 0 ≡ 0
unfolding ones ones_in
ones_zero = refl

ones_push : (q c : ℕ) → c < 2 → ones (q * 2 + c) ≡ c + ones q
ones_push q c h = ones_step (q * 2 + c) ∙ ap₂ (λ (x y : ℕ). x + ones y) (digits_mod q h) (digits_div q h)

digit-sum : (x y : ℕ) → x < 2 → y < 2 → differ x y + 2 * min x y ≡ x + y
digit-sum x y hx hy =
    for_bits (λ (a : ℕ). differ a y + 2 * min a y ≡ a + y) (for_bits (λ (b : ℕ). differ 0 b + 2 * min 0 b ≡ 0 + b) refl refl y hy)
    (for_bits (λ (b : ℕ). differ 1 b + 2 * min 1 b ≡ 1 + b) refl refl y hy) x hx

min_lt : (x y : ℕ) → x < 2 → y < 2 → min x y < 2
min_lt x y hx hy =
    for_bits (λ (a : ℕ). min a y < 2) (for_bits (λ (b : ℕ). min 0 b < 2) (lit< tt) (lit< tt) y hy)
    (for_bits (λ (b : ℕ). min 1 b < 2) (lit< tt) (lit< tt) y hy) x hx

-- the ones that two numbers have in common fall out of their sum
ones_sum_and : (a b : ℕ) → ones (a ⊕ b) + 2 * ones (bit_and a b) ≡ ones a + ones b
ones_sum_and =
    bin_ind (λ (a : ℕ). (b : ℕ) → ones (a ⊕ b) + 2 * ones (bit_and a b) ≡ ones a + ones b)
    (λ b. let s : ones (0 ⊕ b) ≡ ones b = ap ones (⊕_zero_l b) in
    let t : ones (bit_and 0 b) ≡ 0 = ap ones (and_zero_l b) ∙ ones_zero in
    omega (arith, ones_zero))
    (λ n ih b.
    let rest : ones ((n / 2) ⊕ (b / 2)) + 2 * ones (bit_and (n / 2) (b / 2)) ≡ ones (n / 2) + ones (b / 2) = ih (b / 2) in
    let s : ones (n ⊕ b) ≡ differ (n % 2) (b % 2) + ones ((n / 2) ⊕ (b / 2)) =
    ones_step (n ⊕ b) ∙ ap₂ (λ (x y : ℕ). x + ones y) (mod2_⊕ n b) (half_⊕ n b) in
    let t : ones (bit_and n b) ≡ min (n % 2) (b % 2) + ones (bit_and (n / 2) (b / 2)) =
    ap ones (and_step n b) ∙ ones_push (bit_and (n / 2) (b / 2)) (min (n % 2) (b % 2)) (min_lt (n % 2) (b % 2) (mod2_lt n) (mod2_lt b)) in
    let d : differ (n % 2) (b % 2) + 2 * min (n % 2) (b % 2) ≡ n % 2 + b % 2 = digit-sum (n % 2) (b % 2) (mod2_lt n) (mod2_lt b) in
    omega (arith, ones_step n, ones_step b))

pub ones_⊕ : (a b : ℕ) → ones (a ⊕ b) % 2 ≡ (ones a + ones b) % 2
ones_⊕ a b = parity (ones (a ⊕ b)) (ones (bit_and a b)) (ones a + ones b) (ones_sum_and a b)
  where
    parity : (x y z : ℕ) → x + 2 * y ≡ z → x % 2 ≡ z % 2
    parity x y z e = omega arith

-- the common ones above place k and those below are counted apart
pub ones_and_block : (k a b r s : ℕ) → r < 2 ^ k → s < 2 ^ k → ones (bit_and (a * 2 ^ k + r) (b * 2 ^ k + s)) ≡ ones (bit_and a b) + ones (bit_and r s)
ones_and_block k a b r s p q = ap ones (and_block k a b r s p q) ∙ ones_cat k (bit_and a b) (bit_and r s) (and_lt k r s p q)

pub ones_and_digits : (x y : ℕ) → x < 2 → y < 2 → ones (bit_and x y) ≡ x * y
unfolding ones ones_in
ones_and_digits x y hx hy =
    for_bits (λ (a : ℕ). ones (bit_and a y) ≡ a * y) (for_bits (λ (b : ℕ). ones (bit_and 0 b) ≡ 0 * b) refl refl y hy)
    (for_bits (λ (b : ℕ). ones (bit_and 1 b) ≡ 1 * b) refl refl y hy) x hx

-- a number without ones has none in common
pub ones_and_none : (b : ℕ) → ones (bit_and 0 b) ≡ 0
ones_and_none b = ap ones (and_zero_l b) ∙ ones_zero
