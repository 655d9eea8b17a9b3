-- Appending the check remainder and stripping it undo each other, and a word is stripped exactly when the polynomial divides it.
-- Assumes nothing.
use mathlib.Core.Path.{◌≡◌, refl, sym, ap, ap₂, ◌∙◌, subst}
use mathlib.Core.Logic.{◌↔◌}
use Prim.Native.Nat.{ℕ, zero, suc, ◌+◌, ◌*◌, ◌/◌, ◌%◌, ◌^◌, ◌<◌}
use native.Mathlib.Nat.{mod-lt, suc-ne-zero, div-eq_of_lt, div-lt_iff_lt-mul}
use borrow.Author.Tests.{ne_eqb}
use lib.Dec.{eqb}
use lib.Pow.{pow_pos, pow-add, split, shl-shr}
use Rattle.poly.specs.Poly.{◌⊕◌, HasDegree, remainder, Divides}
use Rattle.crc.specs.Answers.{divisibility}
use Rattle.crc.specs.Check.{append, message, damaged, divisible, indivisible, stripped, strip, tested, test}
use Rattle.poly.proofs.Sum.{⊕_self, ⊕_shifted, ⊕_shr, ⊕_zero_r, eq_of_⊕_zero}
use Rattle.poly.proofs.Remainder.{remainder_⊕, remainder_small, remainder_lt, divides⇒remainder_zero, remainder_zero⇒divides}

pub append-remainder : (m p f : ℕ) → HasDegree m p → remainder m p (append m p f) ≡ 0
unfolding append
append-remainder m p f d =
    let r : ℕ = remainder m p (f * 2 ^ m) in
    remainder_⊕ m p (f * 2 ^ m) r
    ∙ ap (λ (x : ℕ). r ⊕ x) (remainder_small m p r (remainder_lt m p (f * 2 ^ m) d)) ∙ ⊕_self r

pub append_high : (m p f : ℕ) → HasDegree m p → append m p f / 2 ^ m ≡ f
unfolding append
append_high m p f d =
    ⊕_shr m (f * 2 ^ m) (remainder m p (f * 2 ^ m))
    ∙ ap₂ (λ (x y : ℕ). x ⊕ y) (shl-shr f m) (div-eq_of_lt (remainder_lt m p (f * 2 ^ m) d)) ∙ ⊕_zero_r f

-- what was appended is stripped again
pub strip-append : (m p f : ℕ) → HasDegree m p → strip m p (append m p f) ≡ message f
unfolding strip stripped
strip-append m p f d = ap₂ stripped (append_high m p f d) (append-remainder m p f d)

-- a message of k bits becomes a word of k + m
pub append_lt : (m p f k : ℕ) → HasDegree m p → f < 2 ^ k → append m p f < 2 ^ (k + m)
append_lt m p f k d h =
    subst (λ (x : ℕ). append m p f < x) (sym (pow-add 2 k m))
    ((div-lt_iff_lt-mul (pow_pos m)).0 (subst (λ (x : ℕ). x < 2 ^ k) (sym (append_high m p f d)) h))

-- a word with remainder 0 is its message with the remainder appended
append_message : (m p u : ℕ) → remainder m p u ≡ 0 → append m p (u / 2 ^ m) ≡ u
unfolding append
append_message m p u e =
    ap (λ (x : ℕ). (u / 2 ^ m * 2 ^ m) ⊕ x) low ∙ parts
  where
    parts : (u / 2 ^ m * 2 ^ m) ⊕ (u % 2 ^ m) ≡ u
    parts = ⊕_shifted (u / 2 ^ m) m (u % 2 ^ m) (mod-lt u (pow_pos m)) ∙ split u m

    low : remainder m p (u / 2 ^ m * 2 ^ m) ≡ u % 2 ^ m
    low =
        eq_of_⊕_zero (remainder m p (u / 2 ^ m * 2 ^ m)) (u % 2 ^ m)
        (ap (λ (x : ℕ). remainder m p (u / 2 ^ m * 2 ^ m) ⊕ x) (sym (remainder_small m p (u % 2 ^ m) (mod-lt u (pow_pos m))))
        ∙ sym (remainder_⊕ m p (u / 2 ^ m * 2 ^ m) (u % 2 ^ m)) ∙ ap (remainder m p) parts ∙ e)

stripped_message : (m p u r f : ℕ) → remainder m p u ≡ r → stripped (u / 2 ^ m) r ≡ message f → append m p f ≡ u
unfolding stripped
stripped_message m p u zero f e s =
    let same : u / 2 ^ m ≡ f = cc in
    ap (append m p) (sym same) ∙ append_message m p u e
stripped_message m p u (suc r) f e s = let never : ◌≡◌ {A = ℕ} 0 1 = cc in absurd (suc-ne-zero 0 (sym never))

-- what was stripped is appended again
pub append-strip : (m p u f : ℕ) → strip m p u ≡ message f → append m p f ≡ u
unfolding strip
append-strip m p u f s = stripped_message m p u (remainder m p u) f refl s

-- a word is stripped exactly when p divides it
pub strip_message⇔divides : (m p u : ℕ) → HasDegree m p → ((f : ℕ) × (strip m p u ≡ message f)) ↔ Divides p u
unfolding strip stripped
strip_message⇔divides m p u d = (
  (λ (f, s). remainder_zero⇒divides m p u (subst (λ (x : ℕ). remainder m p x ≡ 0) (append-strip m p u f s) (append-remainder m p f d))),
  (λ dv. (u / 2 ^ m, ap (stripped (u / 2 ^ m)) (divides⇒remainder_zero m p u d dv))),
)

-- ---- the remainder decides

pub strip_zero : (m p u x : ℕ) → x ≡ remainder m p u → x ≡ 0 → strip m p u ≡ message (u / 2 ^ m)
unfolding strip stripped
strip_zero m p u x e z = ap (stripped (u / 2 ^ m)) (sym e ∙ z)

pub strip_nonzero : (m p u x : ℕ) → x ≡ remainder m p u → (x ≡ 0 → ⊥) → strip m p u ≡ damaged x
unfolding strip stripped
strip_nonzero m p u zero e n = absurd (n refl)
strip_nonzero m p u (suc x) e n = ap (stripped (u / 2 ^ m)) (sym e)

pub test_zero : (m p u x : ℕ) → x ≡ remainder m p u → x ≡ 0 → test m p u ≡ divisible
unfolding test tested
test_zero m p u x e z = ap tested (sym e ∙ z)

pub test_nonzero : (m p u x : ℕ) → x ≡ remainder m p u → (x ≡ 0 → ⊥) → test m p u ≡ indivisible
unfolding test tested
test_nonzero m p u zero e n = absurd (n refl)
test_nonzero m p u (suc x) e n = ap tested (sym e)

pub test_told : (m p u x : ℕ) → x ≡ remainder m p u → divisibility (eqb x 0) ≡ test m p u
unfolding test tested
test_told m p u zero e = ap tested e
test_told m p u (suc x) e = ap divisibility (ne_eqb (suc x) 0 (suc-ne-zero x)) ∙ ap tested e

tested_divisible : (r : ℕ) → tested r ≡ divisible → r ≡ 0
unfolding tested
tested_divisible zero e = refl
tested_divisible (suc r) e = let never : ◌≡◌ {A = ℕ} 0 1 = cc in absurd (suc-ne-zero 0 (sym never))

-- a word tests divisible exactly when p divides it
pub test_divisible⇔divides : (m p u : ℕ) → HasDegree m p → (test m p u ≡ divisible) ↔ Divides p u
unfolding test
test_divisible⇔divides m p u d = (
  (λ e. remainder_zero⇒divides m p u (tested_divisible (remainder m p u) e)),
  (λ dv. test_zero m p u 0 (sym (divides⇒remainder_zero m p u d dv)) refl),
)
