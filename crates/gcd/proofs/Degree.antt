-- The degree of a polynomial other than 0, and of a product; so a factor is never a larger number than the product, and 1 has no factor but 1.
-- Assumes nothing.
use mathlib.Core.Path.{◌≡◌, sym, ap, ap₂, ◌∙◌, subst}
use mathlib.Core.Logic.{⊎_elim}
use Prim.Native.Nat.{ℕ, zero, suc, ◌+◌, ◌*◌, ◌/◌, ◌%◌, ◌^◌, ◌≤◌, ◌<◌}
use native.Mathlib.Nat.{div-one, div-eq_of_lt, pow-succ', div-div-eq-div-mul, add-zero, add-suc, le_of_eq}
use native.Mathlib.Omega.{arith}
use lib.Dec.{ltb, ltb→lt, nltb→le}
use lib.Pow.{pow_pos, pow_mono}
use Rattle.lists.proofs.Tests.{passes_or_fails, lt_or_ge}
use Rattle.lists.proofs.Choices.{cond_true, cond_false}
use Rattle.poly.specs.Poly.{◌⊕◌, ◌⊗◌, HasDegree, Divides}
use Rattle.poly.proofs.Sum.{mod2_lt, ⊕_shr, ⊕_zero_r, digit_times_lt}
use Rattle.poly.proofs.Remainder.{degree_bounds}
use Rattle.poly.proofs.Product.{zero_⊗, ⊗_zero, ⊗_one, ⊗_step, ⊗_comm}
use Rattle.gcd.specs.Model.Gcd.{halvings, degree}

halvings-degree : (most a : ℕ) → a ≤ most → 1 ≤ a → HasDegree (halvings most a) a
unfolding halvings
halvings-degree zero a h g = absurd (omega arith)
halvings-degree (suc most) a h g =
    ⊎_elim
    (λ t.
    let small = ltb→lt a 2 t in
    let one : a ≡ 1 = omega arith in
    ap (λ (k : ℕ). a / 2 ^ k) (cond_true (ltb a 2) 0 (suc (halvings most (a / 2))) t) ∙ div-one a ∙ one)
    (λ t.
    let large = nltb→le a 2 t in
    ap (λ (k : ℕ). a / 2 ^ k) (cond_false (ltb a 2) 0 (suc (halvings most (a / 2))) t)
    ∙ ap (λ (x : ℕ). a / x) (pow-succ' 2 (halvings most (a / 2))) ∙ sym (div-div-eq-div-mul a 2 (2 ^ halvings most (a / 2)))
    ∙ halvings-degree most (a / 2) (omega arith) (omega arith))
    (passes_or_fails (ltb a 2))

pub degree_of : (a : ℕ) → 1 ≤ a → HasDegree (degree a) a
unfolding degree
degree_of a = halvings-degree a a (omega arith)

-- a number from 2^m to below 2^(m + 1) has no other degree
pub degree_only : (m a : ℕ) → 2 ^ m ≤ a → a < 2 ^ suc m → degree a ≡ m
degree_only m a low high =
    let some = pow_pos m in
    let by = degree_bounds (degree a) a (degree_of a (omega arith)) in
    ⊎_elim (λ h. absurd (let wide : 2 ^ suc (degree a) ≤ 2 ^ m = pow_mono h in omega arith))
    (λ h. ⊎_elim (λ k. absurd (let wide : 2 ^ suc m ≤ 2 ^ degree a = pow_mono k in omega arith)) (λ k. omega arith) (lt_or_ge m (degree a)))
    (lt_or_ge (degree a) m)

-- ---- the degree of a product is the sum of the degrees

pub ⊗_degree : (m k a b : ℕ) → HasDegree m a → HasDegree k b → HasDegree (m + k) (a ⊗ b)
⊗_degree m zero a b d e =
    let one : b ≡ 1 = sym (div-one b) ∙ e in
    ap₂ (λ (x y : ℕ). (a ⊗ x) / 2 ^ y) one (add-zero m) ∙ ap (λ (x : ℕ). x / 2 ^ m) (⊗_one a) ∙ d
⊗_degree m (suc k) a b d e =
    let half : HasDegree k (b / 2) = div-div-eq-div-mul b 2 (2 ^ k) ∙ ap (λ (x : ℕ). b / x) (sym (pow-succ' 2 k)) ∙ e in
    let rest = ⊗_degree m k a (b / 2) d half in
    let low = (degree_bounds m a d).1 in
    let wide : 2 ^ suc m ≤ 2 ^ suc (m + k) = pow_mono (omega arith) in
    ap (λ (x : ℕ). (a ⊗ b) / 2 ^ x) (add-suc m k)
    ∙ ap (λ (x : ℕ). x / 2 ^ suc (m + k)) (⊗_step a b)
    ∙ ⊕_shr (suc (m + k)) (2 * (a ⊗ (b / 2))) (b % 2 * a)
    ∙ ap₂ (λ (x y : ℕ). x ⊕ y)
    (ap (λ (x : ℕ). 2 * (a ⊗ (b / 2)) / x) (pow-succ' 2 (m + k)) ∙ sym (div-div-eq-div-mul (2 * (a ⊗ (b / 2))) 2 (2 ^ (m + k)))
    ∙ ap (λ (x : ℕ). x / 2 ^ (m + k)) (half_double (a ⊗ (b / 2))) ∙ rest)
    (div-eq_of_lt (digit_times_lt (b % 2) a (2 ^ suc (m + k)) (mod2_lt b) (omega arith)))
    ∙ ⊕_zero_r 1
  where
    half_double : (x : ℕ) → 2 * x / 2 ≡ x
    half_double x = omega arith

-- ---- factors as numbers

-- a factor is at most the product, where that is not 0
pub factor_le : (c q : ℕ) → 1 ≤ c ⊗ q → c ≤ c ⊗ q
factor_le zero q h = omega arith
factor_le (suc c) zero h = absurd (let none = ⊗_zero (suc c) in omega arith)
factor_le (suc c) (suc zero) h = le_of_eq (sym (⊗_one (suc c)))
factor_le (suc c) (suc (suc q)) h =
    let m : ℕ = degree (suc c) in
    let k : ℕ = degree (suc (suc q)) in
    let dc = degree_of (suc c) (omega arith) in
    let dq = degree_of (suc (suc q)) (omega arith) in
    let above = (degree_bounds m (suc c) dc).1 in
    let high = (degree_bounds k (suc (suc q)) dq).1 in
    let some : 1 ≤ k = ⊎_elim (λ z. absurd (let small : 2 ^ suc k ≤ 2 ^ 1 = pow_mono z in omega arith)) (λ g. g) (lt_or_ge k 1) in
    let wide : 2 ^ suc m ≤ 2 ^ (m + k) = pow_mono (omega arith) in
    let low = (degree_bounds (m + k) (suc c ⊗ suc (suc q)) (⊗_degree m k (suc c) (suc (suc q)) dc dq)).0 in
    omega arith

pub quotient_le : (c q : ℕ) → 1 ≤ c ⊗ q → q ≤ c ⊗ q
quotient_le c q h = subst (λ (x : ℕ). q ≤ x) (⊗_comm q c) (factor_le q c (subst (λ (x : ℕ). 1 ≤ x) (⊗_comm c q) h))

pub divides_one : (c : ℕ) → Divides c 1 → c ≡ 1
divides_one zero (q, e) = absurd (let z = sym (zero_⊗ q) ∙ e in omega arith)
divides_one (suc c) (q, e) =
    let low : suc c ≤ 1 = subst (λ (x : ℕ). suc c ≤ x) e (factor_le (suc c) q (subst (λ (x : ℕ). 1 ≤ x) (sym e) (omega arith))) in
    omega arith
