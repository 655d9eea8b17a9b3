-- Laws of the product of polynomials: its equation a digit at a time, that it is a commutative product that distributes over the sum, and how many
-- coefficients it has.
-- Assumes nothing.
use mathlib.Core.Path.{◌≡◌, sym, ap, ap₂, ◌∙◌, subst}
use Prim.Native.Nat.{ℕ, zero, suc, ◌+◌, ◌*◌, ◌/◌, ◌%◌, ◌^◌, ◌≤◌, ◌<◌}
use native.Mathlib.Nat.{zero-mul, mul-zero, one-mul, mul-one, mul_left_comm, add-zero, add-suc, div-eq_of_lt, pow-succ'}
use native.Mathlib.Omega.{arith}
use lib.Arith.{bin_ind}
use lib.Dec.{lit<}
use lib.Pow.{pow_pos, pow_mono}
use Rattle.poly.specs.Poly.{◌⊕◌, ◌⊗◌}
use Rattle.poly.proofs.Sum.{mod2_lt, for_bits, half_push, mod2_push, ⊕_zero_l, ⊕_zero_r, ⊕_interchange, double_⊕, halves_⊕, digit_times_⊕, differ_times, digit_times_lt, ⊕_lt}
use Rattle.poly.proofs.Bits.{half_lt}
use Rattle.poly.proofs.Horner.{horner_step, horner_zero, horner_⊕, LinearStep}

-- the product's step, by a
abbrev times : ℕ → ℕ → ℕ → ℕ
times a r c = (2 * r) ⊕ (c * a)

times_rest : (a : ℕ) → times a 0 0 ≡ 0
times_rest a = simp (zero-mul, ⊕_zero_l)

times_linear : (a : ℕ) → LinearStep (times a)
times_linear a r s b c hb hc =
    ap₂ (λ (x y : ℕ). x ⊕ y) (double_⊕ r s) (differ_times b c a hb hc)
    ∙ ⊕_interchange (2 * r) (2 * s) (b * a) (c * a)

-- ---- the equation a digit at a time

pub ⊗_zero : (a : ℕ) → a ⊗ 0 ≡ 0
unfolding ◌⊗◌
⊗_zero a = horner_zero (times a)

-- a · b = x·(a · (b without its lowest coefficient)) + that coefficient·a
pub ⊗_step : (a b : ℕ) → a ⊗ b ≡ (2 * (a ⊗ (b / 2))) ⊕ (b % 2 * a)
unfolding ◌⊗◌
⊗_step a b = horner_step (times a) (times_rest a) b

-- the same, read the other way: a · (x·q + c) = x·(a·q) + c·a
pub ⊗_push : (a q c : ℕ) → c < 2 → a ⊗ (2 * q + c) ≡ (2 * (a ⊗ q)) ⊕ (c * a)
⊗_push a q c h =
    ⊗_step a (2 * q + c)
    ∙ ap₂ (λ (x y : ℕ). (2 * (a ⊗ x)) ⊕ (y * a)) (half_push q c h) (mod2_push q c h)

pub ⊗_double : (a q : ℕ) → a ⊗ (2 * q) ≡ 2 * (a ⊗ q)
⊗_double a q =
    ap (λ (x : ℕ). a ⊗ x) (sym (add-zero (2 * q))) ∙ ⊗_push a q 0 (lit< tt) ∙ ap (λ (x : ℕ). (2 * (a ⊗ q)) ⊕ x) (zero-mul a) ∙ ⊕_zero_r (2 * (a ⊗ q))

-- ---- it distributes over the sum, on either side

pub ⊗_⊕_r : (a b c : ℕ) → a ⊗ (b ⊕ c) ≡ a ⊗ b ⊕ a ⊗ c
unfolding ◌⊗◌
⊗_⊕_r a = horner_⊕ (times a) (times_rest a) (times_linear a)

pub ⊗_⊕_l : (a b c : ℕ) → (a ⊕ b) ⊗ c ≡ a ⊗ c ⊕ b ⊗ c
⊗_⊕_l a b =
    bin_ind (λ (n : ℕ). (a ⊕ b) ⊗ n ≡ a ⊗ n ⊕ b ⊗ n)
    (simp (⊗_zero, ⊕_zero_l))
    (λ n ih.
    ⊗_step (a ⊕ b) n
    ∙ ap₂ (λ (x y : ℕ). x ⊕ y) (ap (λ (x : ℕ). 2 * x) ih ∙ double_⊕ (a ⊗ (n / 2)) (b ⊗ (n / 2))) (digit_times_⊕ (n % 2) a b (mod2_lt n))
    ∙ ⊕_interchange (2 * (a ⊗ (n / 2))) (2 * (b ⊗ (n / 2))) (n % 2 * a) (n % 2 * b)
    ∙ sym (ap₂ (λ (x y : ℕ). x ⊕ y) (⊗_step a n) (⊗_step b n)))

-- ---- it is commutative

pub zero_⊗ : (b : ℕ) → 0 ⊗ b ≡ 0
zero_⊗ =
    bin_ind (λ (n : ℕ). 0 ⊗ n ≡ 0) (⊗_zero 0)
    (λ n ih. ⊗_step 0 n ∙ ap (λ (x : ℕ). (2 * x) ⊕ (n % 2 * 0)) ih ∙ simp (mul-zero, ⊕_zero_l))

double_⊗ : (a b : ℕ) → (2 * a) ⊗ b ≡ 2 * (a ⊗ b)
double_⊗ a =
    bin_ind (λ (n : ℕ). (2 * a) ⊗ n ≡ 2 * (a ⊗ n)) (simp (⊗_zero))
    (λ n ih.
    ⊗_step (2 * a) n
    ∙ ap₂ (λ (x y : ℕ). (2 * x) ⊕ y) ih (mul_left_comm (n % 2) 2 a)
    ∙ sym (ap (λ (x : ℕ). 2 * x) (⊗_step a n) ∙ double_⊕ (2 * (a ⊗ (n / 2))) (n % 2 * a)))

one_⊗ : (b : ℕ) → 1 ⊗ b ≡ b
one_⊗ =
    bin_ind (λ (n : ℕ). 1 ⊗ n ≡ n) (⊗_zero 1)
    (λ n ih.
    ⊗_step 1 n
    ∙ ap (λ (x : ℕ). (2 * x) ⊕ (n % 2 * 1)) ih
    ∙ ap (λ (x : ℕ). (2 * (n / 2)) ⊕ x) (mul-one (n % 2)) ∙ halves_⊕ n)

digit_⊗ : (c b : ℕ) → c < 2 → c ⊗ b ≡ c * b
digit_⊗ c b h = for_bits (λ (x : ℕ). x ⊗ b ≡ x * b) (zero_⊗ b ∙ sym (zero-mul b)) (one_⊗ b ∙ sym (one-mul b)) c h

pub ⊗_comm : (a b : ℕ) → a ⊗ b ≡ b ⊗ a
⊗_comm a b =
    bin_ind (λ (n : ℕ). a ⊗ n ≡ n ⊗ a) (⊗_zero a ∙ sym (zero_⊗ a))
    (λ n ih.
    ⊗_step a n
    ∙ ap₂ (λ (x y : ℕ). x ⊕ y) (ap (λ (x : ℕ). 2 * x) ih ∙ sym (double_⊗ (n / 2) a)) (sym (digit_⊗ (n % 2) a (mod2_lt n)))
    ∙ sym (⊗_⊕_l (2 * (n / 2)) (n % 2) a)
    ∙ ap (λ (x : ℕ). x ⊗ a) (halves_⊕ n)) b

pub ⊗_one : (a : ℕ) → a ⊗ 1 ≡ a
⊗_one a = ⊗_comm a 1 ∙ one_⊗ a

-- ---- how many coefficients it has

pub ⊗_lt : (i j a b : ℕ) → a < 2 ^ i → b < 2 ^ suc j → a ⊗ b < 2 ^ (i + j)
⊗_lt i zero a b h g =
    subst (λ (x : ℕ). x < 2 ^ (i + 0)) (sym (⊗_step a b))
    (⊕_lt (i + 0) (2 * (a ⊗ (b / 2))) (b % 2 * a) (subst (λ (x : ℕ). 2 * x < 2 ^ (i + 0)) (sym (none b g)) (pow_pos (i + 0)))
    (digit_times_lt (b % 2) a (2 ^ (i + 0)) (mod2_lt b) (subst (λ (x : ℕ). a < 2 ^ x) (sym (add-zero i)) h)))
  where
    none : (x : ℕ) → x < 2 → a ⊗ (x / 2) ≡ 0
    none x l = ap (λ (y : ℕ). a ⊗ y) (div-eq_of_lt l) ∙ ⊗_zero a
⊗_lt i (suc j) a b h g =
    let rest = ⊗_lt i j a (b / 2) h (half_lt (suc j) b g) in
    let twice = pow-succ' 2 (i + j) in
    let more = ap (λ (x : ℕ). 2 ^ x) (add-suc i j) in
    let wide : 2 ^ i ≤ 2 ^ (i + suc j) = pow_mono (omega arith) in
    subst (λ (x : ℕ). x < 2 ^ (i + suc j)) (sym (⊗_step a b))
    (⊕_lt (i + suc j) (2 * (a ⊗ (b / 2))) (b % 2 * a) (omega arith) (digit_times_lt (b % 2) a (2 ^ (i + suc j)) (mod2_lt b) (omega arith)))
