-- Laws of the remainder: its equation a digit at a time (the register's), that it is linear, below 2^m and the only one, and that p divides u
-- exactly when the remainder of u is 0.
-- Assumes nothing.
use mathlib.Core.Path.{◌≡◌, sym, ap, ap₂, ◌∙◌, subst}
use mathlib.Core.Logic.{◌↔◌}
use Prim.Native.Nat.{ℕ, suc, ◌+◌, ◌*◌, ◌/◌, ◌%◌, ◌^◌, ◌≤◌, ◌<◌}
use native.Mathlib.Nat.{zero-mul, one-mul, zero-div, add-zero, div-add-mod, mod-eq_of_lt, le_refl, div-le_self, lt_of_le_of_lt, pow-succ', div-lt_iff_lt-mul, le_of_eq}
use native.Mathlib.Omega.{arith}
use lib.Dec.{lit<}
use lib.Arith.{bin_ind}
use lib.Pow.{pow_pos}
use Rattle.poly.specs.Poly.{bit, ◌⊕◌, ◌⊗◌, HasDegree, register, remainder, Divides}
use Rattle.poly.proofs.Sum.{mod2_lt, bit_lt, for_bits, bit_⊕, half_push, mod2_push, ⊕_zero_l, ⊕_zero_r, ⊕_self, ⊕_assoc, ⊕_interchange, ⊕_push, ⊕_shr, eq_of_⊕_zero, double_⊕, push_⊕, halves_⊕, differ_times}
use Rattle.poly.proofs.Bits.{bit_zero, bit_above, half_lt}
use Rattle.poly.proofs.Horner.{horner_step, horner_zero, horner_⊕, LinearStep}
use Rattle.poly.proofs.Product.{⊗_zero, ⊗_step, ⊗_push}

-- ---- the register

register_rest : (m p : ℕ) → register m p 0 0 ≡ 0
unfolding register
register_rest m p = ⊕_zero_l (bit m 0 * p) ∙ ap (λ (x : ℕ). x * p) (bit_zero m) ∙ zero-mul p

register_linear : (m p : ℕ) → LinearStep (register m p)
unfolding register
register_linear m p r s b c hb hc =
    ap (λ (x : ℕ). x ⊕ (bit m x * p)) (sym (⊕_push r s b c hb hc))
    ∙ ap (λ (x : ℕ). (2 * r + b) ⊕ (2 * s + c) ⊕ x)
    (ap (λ (x : ℕ). x * p) (bit_⊕ m (2 * r + b) (2 * s + c))
    ∙ differ_times (bit m (2 * r + b)) (bit m (2 * s + c)) p (bit_lt m (2 * r + b)) (bit_lt m (2 * s + c)))
    ∙ ⊕_interchange (2 * r + b) (2 * s + c) (bit m (2 * r + b) * p) (bit m (2 * s + c) * p)

-- ---- the equation a digit at a time

pub remainder_zero : (m p : ℕ) → remainder m p 0 ≡ 0
unfolding remainder
remainder_zero m p = horner_zero (register m p)

pub remainder_step : (m p u : ℕ) → remainder m p u ≡ register m p (remainder m p (u / 2)) (u % 2)
unfolding remainder
remainder_step m p u = horner_step (register m p) (register_rest m p) u

pub remainder_push : (m p u b : ℕ) → b < 2 → remainder m p (2 * u + b) ≡ register m p (remainder m p u) b
remainder_push m p u b h =
    remainder_step m p (2 * u + b)
    ∙ ap₂ (λ (x y : ℕ). register m p (remainder m p x) y) (half_push u b h) (mod2_push u b h)

-- ---- it is linear

pub remainder_⊕ : (m p a b : ℕ) → remainder m p (a ⊕ b) ≡ remainder m p a ⊕ remainder m p b
unfolding remainder
remainder_⊕ m p = horner_⊕ (register m p) (register_rest m p) (register_linear m p)

pub remainder_double : (m p u : ℕ) → remainder m p (2 * u) ≡ register m p (remainder m p u) 0
remainder_double m p u = ap (remainder m p) (sym (add-zero (2 * u))) ∙ remainder_push m p u 0 (lit< tt)

-- ---- below 2^m, and the number itself where that is below 2^m

register_stays : (m p n : ℕ) → n < 2 ^ m → register m p (n / 2) (n % 2) ≡ n
unfolding register
register_stays m p n h =
    ap (λ (x : ℕ). x ⊕ (bit m x * p)) (div-add-mod n 2)
    ∙ ap (λ (x : ℕ). n ⊕ (x * p)) (bit_above m m n h (le_refl m)) ∙ ap (λ (x : ℕ). n ⊕ x) (zero-mul p) ∙ ⊕_zero_r n

pub remainder_small : (m p u : ℕ) → u < 2 ^ m → remainder m p u ≡ u
remainder_small m p =
    bin_ind (λ (n : ℕ). n < 2 ^ m → remainder m p n ≡ n) (λ _. remainder_zero m p)
    (λ n ih h.
    remainder_step m p n
    ∙ ap (λ (x : ℕ). register m p x (n % 2)) (ih (lt_of_le_of_lt (div-le_self n 2) h))
    ∙ register_stays m p n h)

-- two numbers of m + 1 digits with the same digit at m: their sum has m digits
pub same_top_lt : (m a b : ℕ) → a / 2 ^ m ≡ b / 2 ^ m → a ⊕ b < 2 ^ m
same_top_lt m a b e =
    subst (λ (x : ℕ). a ⊕ b < x) (one-mul (2 ^ m))
    ((div-lt_iff_lt-mul (pow_pos m)).0 (le_of_eq (ap suc (⊕_shr m a b ∙ ap (λ (x : ℕ). (a / 2 ^ m) ⊕ x) (sym e) ∙ ⊕_self (a / 2 ^ m)))))

-- a digit times p has that digit at m
digit_top : (m p x : ℕ) → HasDegree m p → x < 2 → x * p / 2 ^ m ≡ x
digit_top m p x d h =
    for_bits (λ (c : ℕ). c * p / 2 ^ m ≡ c) (ap (λ (y : ℕ). y / 2 ^ m) (zero-mul p) ∙ zero-div (2 ^ m))
    (ap (λ (y : ℕ). y / 2 ^ m) (one-mul p) ∙ d) x h

-- a remainder and one digit more: what stands from bit m on is one digit
pub push_top : (m r b : ℕ) → r < 2 ^ m → b < 2 → (2 * r + b) / 2 ^ m < 2
push_top m r b hr hb = (div-lt_iff_lt-mul (pow_pos m)).1 (omega arith)

pub register_lt : (m p r b : ℕ) → HasDegree m p → r < 2 ^ m → b < 2 → register m p r b < 2 ^ m
unfolding register bit
register_lt m p r b d hr hb =
    same_top_lt m (2 * r + b) (bit m (2 * r + b) * p)
    (sym (digit_top m p (bit m (2 * r + b)) d (bit_lt m (2 * r + b)) ∙ mod-eq_of_lt (push_top m r b hr hb)))

pub remainder_lt : (m p u : ℕ) → HasDegree m p → remainder m p u < 2 ^ m
remainder_lt m p u d =
    bin_ind (λ (n : ℕ). remainder m p n < 2 ^ m) (subst (λ (x : ℕ). x < 2 ^ m) (sym (remainder_zero m p)) (pow_pos m))
    (λ n ih. subst (λ (x : ℕ). x < 2 ^ m) (sym (remainder_step m p n)) (register_lt m p (remainder m p (n / 2)) (n % 2) d ih (mod2_lt n))) u

-- ---- division

-- the quotient and the remainder so far, with one digit more
division_step : (m p q n : ℕ) → n / 2 ≡ p ⊗ q ⊕ remainder m p (n / 2)
    → n ≡ p ⊗ (2 * q + bit m (2 * remainder m p (n / 2) + n % 2)) ⊕ remainder m p n
unfolding register
division_step m p q n e =
    let r : ℕ = remainder m p (n / 2) in
    let s : ℕ = 2 * r + n % 2 in
    let t : ℕ = bit m s * p in
    sym (ap₂ (λ (x y : ℕ). x ⊕ y) (⊗_push p q (bit m s) (bit_lt m s)) (remainder_step m p n)
    ∙ ⊕_interchange (2 * (p ⊗ q)) t s t
    ∙ ap (λ (x : ℕ). (2 * (p ⊗ q)) ⊕ s ⊕ x) (⊕_self t)
    ∙ ⊕_zero_r ((2 * (p ⊗ q)) ⊕ s)
    ∙ ap (λ (x : ℕ). (2 * (p ⊗ q)) ⊕ x) (push_⊕ r (n % 2) (mod2_lt n))
    ∙ sym (⊕_assoc (2 * (p ⊗ q)) (2 * r) (n % 2))
    ∙ ap (λ (x : ℕ). x ⊕ (n % 2)) (sym (double_⊕ (p ⊗ q) r) ∙ ap (λ (x : ℕ). 2 * x) (sym e))
    ∙ halves_⊕ n)

-- u = p·q + the remainder, for some q
pub division : (m p u : ℕ) → (q : ℕ) × (u ≡ p ⊗ q ⊕ remainder m p u)
division m p =
    bin_ind (λ (n : ℕ). (q : ℕ) × (n ≡ p ⊗ q ⊕ remainder m p n))
    (0, sym (ap₂ (λ (x y : ℕ). x ⊕ y) (⊗_zero p) (remainder_zero m p) ∙ ⊕_zero_l 0))
    (λ n ih. (2 * ih.0 + bit m (2 * remainder m p (n / 2) + n % 2), division_step m p ih.0 n ih.1))

-- what a degree says of the number
pub degree_bounds : (m p : ℕ) → HasDegree m p → (2 ^ m ≤ p) × (p < 2 ^ suc m)
degree_bounds m p d =
    let high : p < 2 * 2 ^ m = (div-lt_iff_lt-mul (pow_pos m)).0 (le_of_eq (ap suc d)) in
    let low : ¬ (p < 1 * 2 ^ m) = λ h. let z = (div-lt_iff_lt-mul (pow_pos m)).1 h in omega arith in
    let same = one-mul (2 ^ m) in
    let twice = pow-succ' 2 m in
    (omega arith, omega arith)

degree_half_lt : (m p : ℕ) → HasDegree m p → p / 2 < 2 ^ m
degree_half_lt m p d = half_lt m p (degree_bounds m p d).1

remainder_self : (m p : ℕ) → HasDegree m p → remainder m p p ≡ 0
unfolding register bit
remainder_self m p d =
    remainder_step m p p
    ∙ ap (λ (x : ℕ). register m p x (p % 2)) (remainder_small m p (p / 2) (degree_half_lt m p d))
    ∙ ap (λ (x : ℕ). x ⊕ (bit m x * p)) (div-add-mod p 2)
    ∙ ap (λ (x : ℕ). p ⊕ (x % 2 * p)) d ∙ ap (λ (x : ℕ). p ⊕ x) (one-mul p) ∙ ⊕_self p

remainder-digit_times : (m p x : ℕ) → HasDegree m p → x < 2 → remainder m p (x * p) ≡ 0
remainder-digit_times m p x d h =
    for_bits (λ (c : ℕ). remainder m p (c * p) ≡ 0) (ap (remainder m p) (zero-mul p) ∙ remainder_zero m p)
    (ap (remainder m p) (one-mul p) ∙ remainder_self m p d) x h

pub remainder_product : (m p q : ℕ) → HasDegree m p → remainder m p (p ⊗ q) ≡ 0
remainder_product m p q d =
    bin_ind (λ (n : ℕ). remainder m p (p ⊗ n) ≡ 0) (ap (remainder m p) (⊗_zero p) ∙ remainder_zero m p)
    (λ n ih.
    ap (remainder m p) (⊗_step p n)
    ∙ remainder_⊕ m p (2 * (p ⊗ (n / 2))) (n % 2 * p)
    ∙ ap₂ (λ (x y : ℕ). x ⊕ y)
    (remainder_double m p (p ⊗ (n / 2)) ∙ ap (λ (x : ℕ). register m p x 0) ih ∙ register_rest m p)
    (remainder-digit_times m p (n % 2) d (mod2_lt n))
    ∙ ⊕_zero_l 0) q

-- ---- divides

pub divides⇒remainder_zero : (m p u : ℕ) → HasDegree m p → Divides p u → remainder m p u ≡ 0
divides⇒remainder_zero m p u d (q, e) = ap (remainder m p) (sym e) ∙ remainder_product m p q d

pub remainder_zero⇒divides : (m p u : ℕ) → remainder m p u ≡ 0 → Divides p u
remainder_zero⇒divides m p u e =
    ((division m p u).0, sym ((division m p u).1 ∙ ap (λ (x : ℕ). p ⊗ (division m p u).0 ⊕ x) e ∙ ⊕_zero_r (p ⊗ (division m p u).0)))

pub divides⇔remainder_zero : (m p u : ℕ) → HasDegree m p → Divides p u ↔ (remainder m p u ≡ 0)
divides⇔remainder_zero m p u d = (divides⇒remainder_zero m p u d, remainder_zero⇒divides m p u)

-- what is below 2^m and leaves a multiple of p when taken off u is the remainder of u
pub remainder_unique : (m p u r : ℕ) → HasDegree m p → r < 2 ^ m → Divides p (u ⊕ r) → r ≡ remainder m p u
remainder_unique m p u r d h dv =
    sym (eq_of_⊕_zero (remainder m p u) r
    (ap (λ (x : ℕ). remainder m p u ⊕ x) (sym (remainder_small m p r h)) ∙ sym (remainder_⊕ m p u r) ∙ divides⇒remainder_zero m p (u ⊕ r) d dv))
