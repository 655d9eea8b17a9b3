-- The first question that says no: asked in two parts, and what follows where none says no: each said yes, by its number (`asked`).
-- Assumes nothing.
use mathlib.Core.Path.{◌≡◌, refl, sym, ap, ◌∙◌, subst}
use mathlib.Core.Bool.{Bool, true, false, not, cond, ◌&&◌}
use mathlib.Core.List.{List, [], ◌∷◌, ◌++◌}
use mathlib.Core.Logic.{◌↔◌}
use Prim.Native.Nat.{ℕ, zero, suc}
use native.Mathlib.Nat.{suc-ne-zero}
use native.Mathlib.Omega.{arith}
use lib.Dec.{T, T_not, ltb, eqb}
use Rattle.lists.proofs.Tests.{T_and}
use Rattle.lists.proofs.Choices.{eqb_passes}
use Rattle.order.specs.Questions.{Question, first_no}
use Rattle.order.specs.Answer.{Answer, accepted, refused, unless, unless_refused}

-- the first number, or where it is 0 the second
abbrev pub or_else : ℕ → ℕ → ℕ
or_else zero y = y
or_else (suc x) y = suc x

-- every question has a number that is not 0: `tt`, for a list that is written out
abbrev has_numbers : List Question → Bool
has_numbers [] = true
has_numbers (q ∷ qs) = ltb 0 q.0 && has_numbers qs

abbrev pub Numbered : List Question → Type 0
Numbered qs = T (has_numbers qs)

-- what the first question of number k says; yes where there is none
abbrev pub answer_to : ℕ → List Question → Bool
answer_to k [] = true
answer_to k (q ∷ qs) = cond (eqb k q.0) q.1 (answer_to k qs)

numbered_or : (n y : ℕ) → T (ltb 0 n) → n ≡ or_else n y
numbered_or zero y t = absurd t
numbered_or (suc n) y t = refl

-- no question, and one
pub first_no_none : first_no [] ≡ 0
unfolding first_no
first_no_none = refl

pub first_no_yes : (q : Question) (qs : List Question) → q.1 ≡ true → first_no (q ∷ qs) ≡ first_no qs
unfolding first_no
first_no_yes q qs e = ap (λ (b : Bool). cond b (first_no qs) q.0) e

pub first_no_no : (q : Question) (qs : List Question) → q.1 ≡ false → first_no (q ∷ qs) ≡ q.0
unfolding first_no
first_no_no q qs e = ap (λ (b : Bool). cond b (first_no qs) q.0) e

-- what is left to ask
pub first_no_++ : (qs rest : List Question) → Numbered qs → first_no (qs ++ rest) ≡ or_else (first_no qs) (first_no rest)
unfolding first_no
first_no_++ [] rest n = refl
first_no_++ (q ∷ qs) rest n = by (first_no_++ qs rest numbers.1) q.1
  where
    numbers : T (ltb 0 q.0) × Numbered qs
    numbers = (T_and (ltb 0 q.0) (has_numbers qs)).0 n

    by : first_no (qs ++ rest) ≡ or_else (first_no qs) (first_no rest) → (b : Bool)
        → cond b (first_no (qs ++ rest)) q.0 ≡ or_else (cond b (first_no qs) q.0) (first_no rest)
    by later true = later
    by later false = numbered_or q.0 (first_no rest) numbers.0

-- a first part that refuses, and one that does not
pub refused_first : (qs rest : List Question) (r : ℕ) → Numbered qs → r ≡ first_no qs → (r ≡ 0 → ⊥) → r ≡ first_no (qs ++ rest)
refused_first qs rest r n e nz = e ∙ by (first_no qs) (λ z. nz (e ∙ z)) ∙ sym (first_no_++ qs rest n)
  where
    by : (k : ℕ) → (k ≡ 0 → ⊥) → k ≡ or_else k (first_no rest)
    by zero h = absurd (h refl)
    by (suc k) h = refl

pub refused_later : (qs rest : List Question) (r x : ℕ) → Numbered qs → r ≡ first_no qs → r ≡ 0 → x ≡ first_no rest → x ≡ first_no (qs ++ rest)
refused_later qs rest r x n e z ex = ex ∙ ap (λ (k : ℕ). or_else k (first_no rest)) (sym z ∙ e) ∙ sym (first_no_++ qs rest n)

-- ---- a call's answer

module _ {A : Type 0} (answer : Answer A) where
  pub is_refused : (r n : ℕ) → r ≡ n → (r ≡ 0 → ⊥) → refused r ≡ unless n answer
  unfolding unless
  is_refused zero n e nz = absurd (nz refl)
  is_refused (suc r) n e nz = ap (λ (k : ℕ). unless k answer) e

  pub is_answered : (n : ℕ) → 0 ≡ n → answer ≡ unless n answer
  unfolding unless
  is_answered n e = ap (λ (k : ℕ). unless k answer) e

module _ {A L : Type 0} (lent : L) (outcome : Answer A × L) where
  pub leaves_refused : (r n : ℕ) → r ≡ n → (r ≡ 0 → ⊥) → ◌≡◌ {A = Answer A × L} (refused r, lent) (unless_refused n lent outcome)
  unfolding unless_refused
  leaves_refused zero n e nz = absurd (nz refl)
  leaves_refused (suc r) n e nz = ap (λ (k : ℕ). unless_refused k lent outcome) e

  pub leaves_answered : (n : ℕ) → 0 ≡ n → outcome ≡ unless_refused n lent outcome
  unfolding unless_refused
  leaves_answered n e = ap (λ (k : ℕ). unless_refused k lent outcome) e

-- a refusal is no other answer
pub refused_not_accepted : {A : Type 0} (r : ℕ) (x : A) → refused r ≡ accepted x → ⊥
refused_not_accepted r x same = let z : ◌≡◌ {A = ℕ} 0 1 = cc in omega arith

-- ---- no refusal: every question says yes

not_zero : (k : ℕ) → T (ltb 0 k) → k ≡ 0 → ⊥
not_zero zero t e = t
not_zero (suc k) t e = suc-ne-zero k e

-- a question with a number that is not 0, and those after it
pub first_yes : (q : Question) (qs : List Question) → T (ltb 0 q.0) → first_no (q ∷ qs) ≡ 0 → (q.1 ≡ true) × (first_no qs ≡ 0)
unfolding first_no
first_yes q qs n e = by q.1 refl e
  where
    by : (b : Bool) → q.1 ≡ b → cond b (first_no qs) q.0 ≡ 0 → (q.1 ≡ true) × (first_no qs ≡ 0)
    by true eb e' = (eb, e')
    by false eb e' = absurd (not_zero q.0 n e')

-- question k said yes, asked for by its number
pub asked : (k : ℕ) (qs : List Question) → Numbered qs → first_no qs ≡ 0 → answer_to k qs ≡ true
asked k [] n e = refl
asked k (q ∷ qs) n e =
    let numbers = (T_and (ltb 0 q.0) (has_numbers qs)).0 n in
    let here = first_yes q qs numbers.0 e in
    by (asked k qs numbers.1 here.1) here.0 (eqb k q.0)
  where
    by : answer_to k qs ≡ true → q.1 ≡ true → (b : Bool) → cond b q.1 (answer_to k qs) ≡ true
    by later here true = here
    by later here false = later

-- two parts of which none refuses
pub none_in_parts : (qs rest : List Question) → Numbered qs → first_no (qs ++ rest) ≡ 0 → (first_no qs ≡ 0) × (first_no rest ≡ 0)
none_in_parts [] rest n e = (first_no_none, e)
none_in_parts (q ∷ qs) rest n e =
    let numbers = (T_and (ltb 0 q.0) (has_numbers qs)).0 n in
    let here = first_yes q (qs ++ rest) numbers.0 e in
    let later = none_in_parts qs rest numbers.1 here.1 in
    (first_no_yes q qs here.0 ∙ later.0, later.1)

-- ---- the last question of a list

-- no question has the number k: `tt`, for a list that is written out
abbrev pub has_not : ℕ → List Question → Bool
has_not k [] = true
has_not k (q ∷ qs) = not (eqb q.0 k) && has_not k qs

-- it refuses exactly where none before it does, and it says no
pub last_refuses : (k : ℕ) (b : Bool) (qs : List Question) → T (ltb 0 k) → Numbered qs → T (has_not k qs)
    → (first_no (qs ++ ((k, b) ∷ [])) ≡ k) ↔ ((first_no qs ≡ 0) × (b ≡ false))
unfolding first_no
last_refuses k true [] nk n t = (λ e. absurd (not_zero k nk (sym e)), λ e. absurd (subst T e.1 tt))
last_refuses k false [] nk n t = (λ e. (refl, refl), λ e. refl)
last_refuses k b (q ∷ qs) nk n t = by q.1 (last_refuses k b qs nk numbers.1 other.1)
  where
    numbers : T (ltb 0 q.0) × Numbered qs
    numbers = (T_and (ltb 0 q.0) (has_numbers qs)).0 n

    other : T (not (eqb q.0 k)) × T (has_not k qs)
    other = (T_and (not (eqb q.0 k)) (has_not k qs)).0 t

    by : (y : Bool) → (first_no (qs ++ ((k, b) ∷ [])) ≡ k) ↔ ((first_no qs ≡ 0) × (b ≡ false))
        → (cond y (first_no (qs ++ ((k, b) ∷ []))) q.0 ≡ k) ↔ ((cond y (first_no qs) q.0 ≡ 0) × (b ≡ false))
    by true later = later
    by false later = (λ e. absurd (T_not (eqb q.0 k) other.0 (eqb_passes q.0 k e)), λ e. absurd (not_zero q.0 numbers.0 e.0))
