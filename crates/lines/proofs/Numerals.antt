-- The numeral of a number digit by digit, and how long it is.
-- Assumes nothing.
use Prim.Native.Nat.{ℕ, zero, suc, ◌/◌, ◌%◌, ◌^◌, ◌≤◌, ◌<◌}
use native.Mathlib.Nat.{div-lt_self, div-lt_iff_lt-mul, lt_of_lt_of_le, mul-le-mul_left, pow-suc}
use native.Mathlib.Omega.{arith}
use mathlib.Core.Path.{◌≡◌, refl, sym, ap, ◌∙◌, subst}
use mathlib.Core.Bool.{Bool, true, false, cond}
use mathlib.Core.List.{List, [], ◌∷◌, ◌++◌}
use borrow.Author.Tests.{lt-ltb, le-ltb, ltb-true, ltb-false}
use lib.Dec.{ltb}
use lib.ListN.{length, length-append}
use Rattle.lines.specs.Lines.{digit, digits, numeral}

digits_none : (base n : ℕ) → digits zero base n ≡ []
unfolding digits
digits_none base n = refl

-- a number of one digit, and of more
pub digits_one : (most base n : ℕ) → n < base → digits (suc most) base n ≡ digit n ∷ []
unfolding digits
digits_one most base n h = ap (λ (b : Bool). cond b (digit n ∷ []) (digits most base (n / base) ++ (digit (n % base) ∷ []))) (lt-ltb n base h)

pub digits_more : (most base n : ℕ) → base ≤ n → digits (suc most) base n ≡ digits most base (n / base) ++ (digit (n % base) ∷ [])
unfolding digits
digits_more most base n h = ap (λ (b : Bool). cond b (digit n ∷ []) (digits most base (n / base) ++ (digit (n % base) ∷ []))) (le-ltb n base h)

-- any bound above n gives all its digits
digits_enough : (a b base n : ℕ) → 2 ≤ base → n < a → n < b → digits a base n ≡ digits b base n
digits_enough zero b base n g h k = absurd (omega arith)
digits_enough (suc a) zero base n g h k = absurd (omega arith)
digits_enough (suc a) (suc b) base n g h k = by (digits_enough a b base (n / base) g) (ltb n base) refl
  where
    by : (n / base < a → n / base < b → digits a base (n / base) ≡ digits b base (n / base)) → (t : Bool) → ltb n base ≡ t → digits (suc a) base n ≡ digits (suc b) base n
    by before true e = digits_one a base n (ltb-true n base e) ∙ sym (digits_one b base n (ltb-true n base e))
    by before false e =
        let big = ltb-false n base e in
        let less = div-lt_self {n = n} {k = base} (omega arith) (omega arith) in
        digits_more a base n big ∙ ap (λ (l : List ℕ). l ++ (digit (n % base) ∷ [])) (before (omega arith) (omega arith)) ∙ sym (digits_more b base n big)

pub numeral_one : (base n : ℕ) → n < base → numeral base n ≡ digit n ∷ []
unfolding numeral
numeral_one base n h = digits_one n base n h

pub numeral_more : (base n : ℕ) → 2 ≤ base → base ≤ n → numeral base n ≡ numeral base (n / base) ++ (digit (n % base) ∷ [])
unfolding numeral
numeral_more base n g h =
    let less = div-lt_self {n = n} {k = base} (omega arith) (omega arith) in
    digits_more n base n h
    ∙ ap (λ (l : List ℕ). l ++ (digit (n % base) ∷ [])) (digits_enough n (suc (n / base)) base (n / base) g (omega arith) (omega arith))

-- below 8 ^ k: no more than k digits, in base 8 or above
digits_short : (k most base n : ℕ) → 8 ≤ base → n < 8 ^ suc k → length (digits most base n) ≤ suc k
digits_short k zero base n g h = omega (arith, ap length (digits_none base n))
digits_short k (suc most) base n g h = by k h (λ j. digits_short j most base (n / base) g) (ltb n base) refl
  where
    by : (k : ℕ) → n < 8 ^ suc k → ((j : ℕ) → n / base < 8 ^ suc j → length (digits most base (n / base)) ≤ suc j) → (t : Bool) → ltb n base ≡ t
        → length (digits (suc most) base n) ≤ suc k
    by k h before true e = omega (arith, ap length (digits_one most base n (ltb-true n base e)))
    by zero h before false e = absurd (omega (arith, ltb-false n base e, pow-suc 8 0))
    by (suc k) h before false e =
        let less : n / base < 8 ^ suc k =
        (div-lt_iff_lt-mul {k = base} (omega arith)).1 (lt_of_lt_of_le (subst (λ (x : ℕ). n < x) (pow-suc 8 (suc k)) h) (mul-le-mul_left (8 ^ suc k) g)) in
        omega (arith, ap length (digits_more most base n (ltb-false n base e)), length-append (digits most base (n / base)) (digit (n % base) ∷ []), before k less)

pub numeral_short : (k base n : ℕ) → 8 ≤ base → n < 8 ^ suc k → length (numeral base n) ≤ suc k
unfolding numeral
numeral_short k base n g h = digits_short k (suc n) base n g h
