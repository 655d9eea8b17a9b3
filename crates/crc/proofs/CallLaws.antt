-- The laws of appending and stripping, said of the calls, with N and every question: appending and stripping undo each other, and a word that no
-- question refuses is stripped, and tests divisible, exactly when the polynomial divides it.
-- Assumes nothing.
use mathlib.Core.Path.{◌≡◌, refl, sym, ap, ◌∙◌}
use mathlib.Core.List.{[], ◌∷◌}
use mathlib.Core.Logic.{◌↔◌}
use Prim.Native.Nat.{ℕ, zero, suc, ◌+◌, ◌-◌, ◌/◌, ◌^◌, ◌<◌}
use native.Mathlib.Nat.{sub-add_cancel, le_of_lt, div-lt_iff_lt-mul}
use borrow.Author.Tests.{lt-ltb}
use lib.Pow.{pow_pos, pow-add}
use Rattle.poly.specs.Poly.{HasDegree, Divides}
use Rattle.order.specs.Questions.{first_no, below}
use Rattle.order.specs.Answer.{Answer, accepted, unless}
use Rattle.order.proofs.FirstNo.{first_no_none, first_no_yes, is_answered, refused_later}
use Rattle.crc.specs.Check.{append, message, strip, divisible, test, polynomial_questions, word_questions, append_call, strip_call, test_call}
use Rattle.crc.proofs.Laws.{append_high, append_lt, strip-append, append-strip, strip_message⇔divides, test_divisible⇔divides}
use Rattle.crc.proofs.Calls.{accepted_polynomial, numbered, passed}

-- an accepted answer was refused by no question
not_refused : {A : Type 0} (k : ℕ) (answer : Answer A) (x : A) → unless k answer ≡ accepted x → (k ≡ 0) × (answer ≡ accepted x)
unfolding unless
not_refused zero answer x e = (refl, e)
not_refused (suc k) answer x e = (cc, cc)

module _ (N m p : ℕ) where
  passes : (k u : ℕ) → first_no (polynomial_questions N m p) ≡ 0 → u < 2 ^ k → first_no (word_questions N m p k u) ≡ 0
  unfolding word_questions
  passes k u e h =
      sym (refused_later (polynomial_questions N m p) (below k u ∷ []) 0 0 (numbered N m p) (sym e) refl (sym (first_no_yes (below k u) [] (lt-ltb u (2 ^ k) h) ∙ first_no_none)))

  -- what is appended is stripped again, and the other way round
  pub append_call⇔strip_call : (f u : ℕ) → (append_call N m p f ≡ accepted u) ↔ (strip_call N m p u ≡ accepted (message f))
  unfolding append_call strip_call
  append_call⇔strip_call f u = (to, back)
    where
      to : unless (first_no (word_questions N m p (N - m) f)) (accepted (append m p f)) ≡ accepted u → unless (first_no (word_questions N m p N u)) (accepted (strip m p u)) ≡ accepted (message f)
      to e =
          let got = not_refused _ _ u e in
          let ok = passed N m p (N - m) f got.0 in
          let acc = accepted_polynomial N m p ok.polynomial in
          let same : append m p f ≡ u = cc got.1 in
          let wide : append m p f < 2 ^ N = rw (sub-add_cancel (le_of_lt acc.degree-below)) at (append_lt m p f (N - m) acc.degree ok.small) in
          let stripped : strip m p u ≡ message f = rw (← same) (strip-append m p f acc.degree) in
          sym (is_answered (accepted (strip m p u)) _ (sym (passes N u ok.polynomial (rw (← same) wide)))) ∙ ap accepted stripped

      back : unless (first_no (word_questions N m p N u)) (accepted (strip m p u)) ≡ accepted (message f) → unless (first_no (word_questions N m p (N - m) f)) (accepted (append m p f)) ≡ accepted u
      back e =
          let got = not_refused _ _ (message f) e in
          let ok = passed N m p N u got.0 in
          let acc = accepted_polynomial N m p ok.polynomial in
          let stripped : strip m p u ≡ message f = cc got.1 in
          let same : append m p f ≡ u = append-strip m p u f stripped in
          let high : u / 2 ^ m ≡ f = rw (← same) (append_high m p f acc.degree) in
          let word : u < 2 ^ (N - m + m) = rw (sub-add_cancel (le_of_lt acc.degree-below)) ok.small in
          let small : f < 2 ^ (N - m) = rw (← high) ((div-lt_iff_lt-mul (pow_pos m)).1 (rw (pow-add 2 (N - m) m) at word)) in
          sym (is_answered (accepted (append m p f)) _ (sym (passes (N - m) f ok.polynomial small))) ∙ ap accepted same

  -- of a word that no question refuses
  module _ (u : ℕ) (none : first_no (word_questions N m p N u) ≡ 0) where
    degree : HasDegree m p
    degree = (accepted_polynomial N m p (passed N m p N u none).polynomial).degree

    pub strip_call_message⇔divides : ((f : ℕ) × (strip_call N m p u ≡ accepted (message f))) ↔ Divides p u
    unfolding strip_call
    strip_call_message⇔divides = (
      (λ (f, e). (strip_message⇔divides m p u degree).0 (f, cc (not_refused _ _ (message f) e).1)),
      (λ dv. let found = (strip_message⇔divides m p u degree).1 dv in (found.0, sym (is_answered (accepted (strip m p u)) _ (sym none)) ∙ ap accepted found.1)),
    )

    pub test_call_divisible⇔divides : (test_call N m p u ≡ accepted divisible) ↔ Divides p u
    unfolding test_call
    test_call_divisible⇔divides = (
      (λ e. (test_divisible⇔divides m p u degree).0 (cc (not_refused _ _ divisible e).1)),
      (λ dv. sym (is_answered (accepted (test m p u)) _ (sym none)) ∙ ap accepted ((test_divisible⇔divides m p u degree).1 dv)),
    )
