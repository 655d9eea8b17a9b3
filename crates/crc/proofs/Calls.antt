-- What follows from the questions of append, strip and test: the refusals in their order, and what an accepted call may use.
-- Assumes nothing.
use mathlib.Core.Path.{◌≡◌, sym, ap, ap₂, ◌∙◌, subst}
use mathlib.Core.Bool.{true, false}
use mathlib.Core.List.{[], ◌∷◌}
use Prim.Native.Nat.{ℕ, ◌+◌, ◌-◌, ◌*◌, ◌/◌, ◌^◌, ◌≤◌, ◌<◌}
use native.Mathlib.Nat.{sub-add_cancel, le_of_lt, lt_of_lt_of_le, zero-add}
use borrow.Author.Tests.{ltb-true, eqb-true}
use lib.Dec.{ltb, eqb}
use lib.Pow.{shl_lt, pow_mono}
use Rattle.lists.proofs.Tests.{both}
use Rattle.order.proofs.Answers.{range}
use Rattle.poly.specs.Poly.{bit, ◌⊕◌, HasDegree, remainder}
use Rattle.order.specs.Questions.{first_no, from_to, below}
use Rattle.order.proofs.FirstNo.{Numbered, first_no_none, first_no_yes, first_no_no, refused_first, refused_later, none_in_parts, asked}
use Rattle.crc.specs.Check.{append, polynomial_questions, word_questions}

-- what questions 5, 6 and 11 let a call assume
pub record AcceptedPolynomial (N m p : ℕ) : Type 0 where
  pub some_bit : 1 ≤ N
  pub at_most_128 : N ≤ 128
  pub some_degree : 1 ≤ m
  pub at_most_12 : m ≤ 12
  pub degree-below : m < N
  pub degree : HasDegree m p

pub accepted_polynomial : (N m p : ℕ) → first_no (polynomial_questions N m p) ≡ 0 → AcceptedPolynomial N m p
unfolding polynomial_questions
accepted_polynomial N m p e =
    let five = range 1 128 N (asked 5 _ tt e) in
    let six = both (from_to 1 12 m) (ltb m N) (asked 6 _ tt e) in
    let degree-from-to = range 1 12 m six.0 in
    let eleven = both (eqb (p / 2 ^ m) 1) (eqb (bit 0 p) 1) (asked 11 _ tt e) in
    record {
      some_bit = five.0;
      at_most_128 = five.1;
      some_degree = degree-from-to.0;
      at_most_12 = degree-from-to.1;
      degree-below = ltb-true m N six.1;
      degree = eqb-true (p / 2 ^ m) 1 eleven.0;
    }

pub numbered : (N m p : ℕ) → Numbered (polynomial_questions N m p)
unfolding polynomial_questions
numbered N m p = tt

-- questions 5, 6 and 11 pass, and 12 of a word of k bits
pub record Passed (N m p k u : ℕ) : Type 0 where
  pub polynomial : first_no (polynomial_questions N m p) ≡ 0
  pub small : u < 2 ^ k

pub passed : (N m p k u : ℕ) → first_no (word_questions N m p k u) ≡ 0 → Passed N m p k u
unfolding word_questions
passed N m p k u e =
    let parts = none_in_parts (polynomial_questions N m p) (below k u ∷ []) (numbered N m p) e in
    record { polynomial = parts.0; small = ltb-true u (2 ^ k) (asked 12 (below k u ∷ []) tt parts.1) }

-- a refusal by questions 5, 6 and 11, one by 12, and none
module _ (N m p k u r : ℕ) (e : r ≡ first_no (polynomial_questions N m p)) where
  pub refused_early : (r ≡ 0 → ⊥) → r ≡ first_no (word_questions N m p k u)
  unfolding word_questions
  refused_early n = refused_first (polynomial_questions N m p) (below k u ∷ []) r (numbered N m p) e n

  module _ (z : r ≡ 0) where
    pub refused_late : ltb u (2 ^ k) ≡ false → 12 ≡ first_no (word_questions N m p k u)
    unfolding word_questions
    refused_late b = refused_later (polynomial_questions N m p) (below k u ∷ []) r 12 (numbered N m p) e z (sym (first_no_no (below k u) [] b))

    pub answered : ltb u (2 ^ k) ≡ true → 0 ≡ first_no (word_questions N m p k u)
    unfolding word_questions
    answered b = refused_later (polynomial_questions N m p) (below k u ∷ []) r 0 (numbered N m p) e z (sym (first_no_yes (below k u) [] b ∙ first_no_none))

-- a message has N - m bits
pub of_message : (N m p k u : ℕ) {r : ℕ} → k ≡ N - m → r ≡ first_no (word_questions N m p k u) → r ≡ first_no (word_questions N m p (N - m) u)
of_message N m p k u same e = e ∙ ap (λ (x : ℕ). first_no (word_questions N m p x u)) same

-- ---- what append computes

pub shifted_lt : (N m f : ℕ) → m < N → f < 2 ^ (N - m) → f * 2 ^ m < 2 ^ N
shifted_lt N m f h l = subst (λ (x : ℕ). f * 2 ^ m < 2 ^ x) (sub-add_cancel (le_of_lt h)) (shl_lt (N - m) m l)

pub shifted_fits : (N m f : ℕ) → N ≤ 128 → m < N → f < 2 ^ (N - m) → f * 2 ^ m < 2 ^ 128
shifted_fits N m f q h l = lt_of_lt_of_le (shifted_lt N m f h l) (pow_mono q)

pub append_parts : (m p f s r x y : ℕ) → s ≡ f * 2 ^ m → r ≡ remainder m p s → x ≡ 0 + r → y ≡ s ⊕ x → y ≡ append m p f
unfolding append
append_parts m p f s r x y es er ex ey =
    ey ∙ ap₂ (λ (i j : ℕ). i ⊕ j) es (ex ∙ zero-add r ∙ er ∙ ap (remainder m p) es)
