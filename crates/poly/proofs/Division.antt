-- Division a bit at a time, from the highest: the remainder of the word without its i lowest bits, and then without i - 1 of them.
-- Assumes nothing.
use mathlib.Core.Path.{◌≡◌, sym, ap, ◌∙◌}
use Prim.Native.Nat.{ℕ, zero, suc, ◌+◌, ◌-◌, ◌*◌, ◌/◌, ◌%◌, ◌^◌, ◌≤◌, ◌<◌}
use native.Mathlib.Nat.{mod-eq_of_lt, not-suc-le-zero, div-eq_of_lt, div-one, div-div-eq-div-mul, pow-suc}
use native.Mathlib.Numerals.{sub-one}
use native.Mathlib.Omega.{arith}
use lib.Pow.{pow_mono}
use Rattle.poly.specs.Poly.{bit, ◌⊕◌, HasDegree, register, remainder}
use Rattle.poly.specs.Model.Asked.{Modulus}
use Rattle.poly.proofs.Remainder.{degree_bounds, push_top, remainder_zero, remainder_step, remainder_lt}

-- no bits yet
pub divided_none : (m p u n : ℕ) → u < 2 ^ n → 0 ≡ remainder m p (u / 2 ^ n)
divided_none m p u n h = sym (ap (remainder m p) (div-eq_of_lt h) ∙ remainder_zero m p)

-- all bits
pub divided_all : (m p u : ℕ) → remainder m p (u / 2 ^ 0) ≡ remainder m p u
divided_all m p u = ap (remainder m p) (div-one u)

-- one bit more
pub divided_more : (m p u i : ℕ) → 0 < i → register m p (remainder m p (u / 2 ^ i)) (bit (i - 1) u) ≡ remainder m p (u / 2 ^ (i - 1))
unfolding bit
divided_more m p u zero h = absurd (not-suc-le-zero h)
divided_more m p u (suc i) h =
    ap (λ (x : ℕ). register m p (remainder m p (u / 2 ^ suc i)) (u / 2 ^ x % 2)) (sub-one (suc i))
    ∙ ap (λ (x : ℕ). register m p (remainder m p x) (u / 2 ^ i % 2)) (ap (λ (x : ℕ). u / x) (pow-suc 2 i) ∙ sym (div-div-eq-div-mul u (2 ^ i) 2))
    ∙ sym (remainder_step m p (u / 2 ^ i))
    ∙ ap (λ (x : ℕ). remainder m p (u / 2 ^ x)) (sym (sub-one (suc i)))

-- what stands from bit m on is one digit, so the register's step needs no test of it
pub register_of_remainder : (m p r b : ℕ) → r < 2 ^ m → b < 2 → (2 * r + b) ⊕ ((2 * r + b) / 2 ^ m * p) ≡ register m p r b
unfolding register bit
register_of_remainder m p r b h d = ap (λ (x : ℕ). (2 * r + b) ⊕ (x * p)) (sym (mod-eq_of_lt (push_top m r b h d)))

-- the register's numbers stay small: degree at most 12
pub polynomial_small : {m p : ℕ} → Modulus m p → p < 2 ^ 32
polynomial_small {m} {p} by =
    let q = (degree_bounds m p by.degree).1 in
    let few = by.at_most_12 in
    let least : suc m ≤ 13 = omega arith in
    let s : 2 ^ suc m ≤ 2 ^ 13 = pow_mono least in
    omega arith

-- the same of a register's fields
pub remainder_in : (m p u d v : ℕ) → HasDegree m p → d ≡ m → v ≡ remainder m p u → v < 2 ^ d
remainder_in m p u d v h ed ev = rw (ev, ed) (remainder_lt m p u h)

pub divided_by : (m p u i d q v b : ℕ) → d ≡ m → q ≡ p → v ≡ remainder m p (u / 2 ^ i) → b ≡ bit (i - 1) u → 0 < i
    → register d q v b ≡ remainder m p (u / 2 ^ (i - 1))
divided_by m p u i d q v b ed eq ev eb h = cc (divided_more m p u i h)

pub divided_end : (m p u i v : ℕ) → i ≡ 0 → v ≡ remainder m p (u / 2 ^ i) → v ≡ remainder m p u
divided_end m p u i v e ev = ev ∙ ap (λ (x : ℕ). remainder m p (u / 2 ^ x)) e ∙ divided_all m p u
