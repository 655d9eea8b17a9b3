-- Laws of the sum of polynomials, and of their coefficients.
-- Assumes nothing.
use mathlib.Core.Path.{◌≡◌, refl, sym, ap, ap₂, ◌∙◌, subst}
use Prim.Native.Nat.{ℕ, zero, suc, ◌+◌, ◌*◌, ◌/◌, ◌%◌, ◌^◌, ◌<◌, zero-le}
use native.Mathlib.Nat.{not-suc-le-zero, le_of_suc-le-suc, lt_of_le_of_lt, mod-lt, one-mul, zero-mul, mul_comm, div-add-mod, div-add-mod', add-zero}
use lib.Dec.{lit<}
use lib.Arith.{digits_div, digits_mod, bin_ind}
use lib.Bits.{differ, bit_xor, xor_step, xor_shr, xor_comm, xor_zero_l, xor_zero_r, xor_self, xor_lt, xor_shifted, xor_block}
use Rattle.poly.specs.Poly.{bit, ◌⊕◌}

-- ---- a binary digit is 0 or 1

pub for_bits {ℓ} : (P : ℕ → Type ℓ) → P 0 → P 1 → (x : ℕ) → x < 2 → P x
for_bits P p0 p1 zero h = p0
for_bits P p0 p1 (suc zero) h = p1
for_bits P p0 p1 (suc (suc x)) h = absurd (not-suc-le-zero (le_of_suc-le-suc (le_of_suc-le-suc h)))

pub mod2_lt : (a : ℕ) → a % 2 < 2
mod2_lt a = mod-lt a (lit< tt)

pub bit_lt : (j a : ℕ) → bit j a < 2
unfolding bit
bit_lt j a = mod2_lt (a / 2 ^ j)

pub differ_lt : (x y : ℕ) → x < 2 → y < 2 → differ x y < 2
differ_lt x y hx hy =
    for_bits (λ (a : ℕ). differ a y < 2) hy (for_bits (λ (b : ℕ). differ 1 b < 2) (lit< tt) (lit< tt) y hy) x hx

pub differ_zero_r : (x : ℕ) → differ x 0 ≡ x
differ_zero_r zero = refl
differ_zero_r (suc x) = refl

pub differ_assoc : (x y z : ℕ) → x < 2 → y < 2 → z < 2 → differ (differ x y) z ≡ differ x (differ y z)
differ_assoc x y z hx hy hz =
    for_bits (λ (a : ℕ). differ (differ a y) z ≡ differ a (differ y z)) refl
    (for_bits (λ (b : ℕ). differ (differ 1 b) z ≡ differ 1 (differ b z)) refl
    (for_bits (λ (c : ℕ). differ 0 c ≡ differ 1 (differ 1 c)) refl refl z hz) y hy) x hx

-- ---- the lowest digit and the rest

pub half_push : (q c : ℕ) → c < 2 → (2 * q + c) / 2 ≡ q
half_push q c h = ap (λ (x : ℕ). (x + c) / 2) (mul_comm 2 q) ∙ digits_div q h

pub mod2_push : (q c : ℕ) → c < 2 → (2 * q + c) % 2 ≡ c
mod2_push q c h = ap (λ (x : ℕ). (x + c) % 2) (mul_comm 2 q) ∙ digits_mod q h

pub half_⊕ : (a b : ℕ) → (a ⊕ b) / 2 ≡ (a / 2) ⊕ (b / 2)
unfolding ◌⊕◌
half_⊕ a b = xor_shr a b 1

pub mod2_⊕ : (a b : ℕ) → (a ⊕ b) % 2 ≡ differ (a % 2) (b % 2)
unfolding ◌⊕◌
mod2_⊕ a b =
    ap (λ (x : ℕ). x % 2) (xor_step a b)
    ∙ digits_mod (bit_xor (a / 2) (b / 2)) (differ_lt (a % 2) (b % 2) (mod2_lt a) (mod2_lt b))

pub bit_⊕ : (j a b : ℕ) → bit j (a ⊕ b) ≡ differ (bit j a) (bit j b)
unfolding bit ◌⊕◌
bit_⊕ j a b = ap (λ (x : ℕ). x % 2) (xor_shr a b j) ∙ unfold ◌⊕◌ in mod2_⊕ (a / 2 ^ j) (b / 2 ^ j)

-- two numbers are equal when their halves and their lowest digits are
pub by_halves : (a b : ℕ) → a / 2 ≡ b / 2 → a % 2 ≡ b % 2 → a ≡ b
by_halves a b h l = sym (div-add-mod' a 2) ∙ ap₂ (λ (x y : ℕ). x * 2 + y) h l ∙ div-add-mod' b 2

-- ---- an abelian group of exponent 2

pub ⊕_comm : (a b : ℕ) → a ⊕ b ≡ b ⊕ a
unfolding ◌⊕◌
⊕_comm = xor_comm

pub ⊕_zero_l : (a : ℕ) → 0 ⊕ a ≡ a
unfolding ◌⊕◌
⊕_zero_l = xor_zero_l

pub ⊕_zero_r : (a : ℕ) → a ⊕ 0 ≡ a
unfolding ◌⊕◌
⊕_zero_r = xor_zero_r

pub ⊕_self : (a : ℕ) → a ⊕ a ≡ 0
unfolding ◌⊕◌
⊕_self = xor_self

pub ⊕_assoc : (a b c : ℕ) → a ⊕ b ⊕ c ≡ a ⊕ (b ⊕ c)
⊕_assoc a =
    bin_ind (λ (n : ℕ). (b c : ℕ) → n ⊕ b ⊕ c ≡ n ⊕ (b ⊕ c))
    (λ b c. ap (λ (x : ℕ). x ⊕ c) (⊕_zero_l b) ∙ sym (⊕_zero_l (b ⊕ c)))
    (λ n ih b c.
    by_halves (n ⊕ b ⊕ c) (n ⊕ (b ⊕ c))
    (half_⊕ (n ⊕ b) c ∙ ap (λ (x : ℕ). x ⊕ (c / 2)) (half_⊕ n b) ∙ ih (b / 2) (c / 2)
    ∙ ap (λ (x : ℕ). (n / 2) ⊕ x) (sym (half_⊕ b c)) ∙ sym (half_⊕ n (b ⊕ c)))
    (mod2_⊕ (n ⊕ b) c ∙ ap (λ (x : ℕ). differ x (c % 2)) (mod2_⊕ n b)
    ∙ differ_assoc (n % 2) (b % 2) (c % 2) (mod2_lt n) (mod2_lt b) (mod2_lt c)
    ∙ ap (λ (x : ℕ). differ (n % 2) x) (sym (mod2_⊕ b c)) ∙ sym (mod2_⊕ n (b ⊕ c)))) a

-- the middle two change places
pub ⊕_interchange : (a b c d : ℕ) → (a ⊕ b) ⊕ (c ⊕ d) ≡ (a ⊕ c) ⊕ (b ⊕ d)
⊕_interchange a b c d =
    ⊕_assoc a b (c ⊕ d)
    ∙ ap (λ (x : ℕ). a ⊕ x) (sym (⊕_assoc b c d) ∙ ap (λ (x : ℕ). x ⊕ d) (⊕_comm b c) ∙ ⊕_assoc c b d)
    ∙ sym (⊕_assoc a c (b ⊕ d))

pub ⊕_cancel_r : (a b : ℕ) → a ⊕ b ⊕ b ≡ a
⊕_cancel_r a b = ⊕_assoc a b b ∙ ap (λ (x : ℕ). a ⊕ x) (⊕_self b) ∙ ⊕_zero_r a

pub eq_of_⊕_zero : (a b : ℕ) → a ⊕ b ≡ 0 → a ≡ b
eq_of_⊕_zero a b e = sym (⊕_cancel_r a b) ∙ ap (λ (x : ℕ). x ⊕ b) e ∙ ⊕_zero_l b

pub ⊕_lt : (k a b : ℕ) → a < 2 ^ k → b < 2 ^ k → a ⊕ b < 2 ^ k
unfolding ◌⊕◌
⊕_lt = xor_lt

-- ---- shifted numbers, and numbers times a digit

-- high digits and low ones do not meet
pub ⊕_shifted : (a k b : ℕ) → b < 2 ^ k → (a * 2 ^ k) ⊕ b ≡ a * 2 ^ k + b
unfolding ◌⊕◌
⊕_shifted = xor_shifted

-- the digits above place k and those below are added apart
pub ⊕_block : (k a b r s : ℕ) → r < 2 ^ k → s < 2 ^ k → (a * 2 ^ k + r) ⊕ (b * 2 ^ k + s) ≡ (a ⊕ b) * 2 ^ k + (r ⊕ s)
unfolding ◌⊕◌
⊕_block = xor_block

pub ⊕_shr : (k a b : ℕ) → (a ⊕ b) / 2 ^ k ≡ (a / 2 ^ k) ⊕ (b / 2 ^ k)
unfolding ◌⊕◌
⊕_shr k a b = xor_shr a b k

bits_⊕ : (x y : ℕ) → x < 2 → y < 2 → x ⊕ y ≡ differ x y
unfolding ◌⊕◌
bits_⊕ x y hx hy =
    for_bits (λ (a : ℕ). a ⊕ y ≡ differ a y) (⊕_zero_l y) (for_bits (λ (b : ℕ). 1 ⊕ b ≡ differ 1 b) refl refl y hy) x hx

-- a digit shifted in, on both sides
pub ⊕_push : (a b x y : ℕ) → x < 2 → y < 2 → (2 * a + x) ⊕ (2 * b + y) ≡ 2 * (a ⊕ b) + differ x y
⊕_push a b x y hx hy =
    ap₂ (λ (p q : ℕ). (p + x) ⊕ (q + y)) (mul_comm 2 a) (mul_comm 2 b)
    ∙ ⊕_block 1 a b x y hx hy
    ∙ ap₂ (λ (p q : ℕ). p + q) (mul_comm (a ⊕ b) 2) (bits_⊕ x y hx hy)

pub double_⊕ : (a b : ℕ) → 2 * (a ⊕ b) ≡ (2 * a) ⊕ (2 * b)
double_⊕ a b =
    sym (ap₂ (λ (p q : ℕ). p ⊕ q) (sym (add-zero (2 * a))) (sym (add-zero (2 * b))) ∙ ⊕_push a b 0 0 (lit< tt) (lit< tt) ∙ add-zero (2 * (a ⊕ b)))

pub push_⊕ : (a x : ℕ) → x < 2 → 2 * a + x ≡ (2 * a) ⊕ x
push_⊕ a x h = sym (ap (λ (p : ℕ). p ⊕ x) (mul_comm 2 a) ∙ ⊕_shifted a 1 x h ∙ ap (λ (p : ℕ). p + x) (mul_comm a 2))

-- a number is its lowest digit and the rest
pub halves_⊕ : (n : ℕ) → (2 * (n / 2)) ⊕ (n % 2) ≡ n
halves_⊕ n = sym (push_⊕ (n / 2) (n % 2) (mod2_lt n)) ∙ div-add-mod n 2

pub digit_times_⊕ : (x a b : ℕ) → x < 2 → x * (a ⊕ b) ≡ (x * a) ⊕ (x * b)
digit_times_⊕ x a b h =
    for_bits (λ (c : ℕ). c * (a ⊕ b) ≡ (c * a) ⊕ (c * b)) (simp (zero-mul, ⊕_zero_l)) (simp one-mul) x h

pub digit_times_lt : (x a k : ℕ) → x < 2 → a < k → x * a < k
digit_times_lt x a k hx h =
    for_bits (λ (c : ℕ). c * a < k) (subst (λ (y : ℕ). y < k) (sym (zero-mul a)) (lt_of_le_of_lt zero-le h))
    (subst (λ (y : ℕ). y < k) (sym (one-mul a)) h) x hx

pub differ_times : (x y a : ℕ) → x < 2 → y < 2 → differ x y * a ≡ (x * a) ⊕ (y * a)
differ_times x y a hx hy =
    for_bits (λ (c : ℕ). differ c y * a ≡ (c * a) ⊕ (y * a)) (simp (zero-mul, ⊕_zero_l))
    (for_bits (λ (c : ℕ). differ 1 c * a ≡ (1 * a) ⊕ (c * a)) (simp (zero-mul, ⊕_zero_r)) (simp (zero-mul, ⊕_self)) y hy) x hx
