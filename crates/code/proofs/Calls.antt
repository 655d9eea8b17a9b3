-- What follows from the questions of the encoder and the weight: the refusals in their order, and what an accepted call may use.
-- Assumes nothing.
use mathlib.Core.Path.{◌≡◌, sym, ◌∙◌, subst}
use mathlib.Core.Bool.{true, false}
use mathlib.Core.List.{List, [], ◌∷◌}
use Prim.Native.Nat.{ℕ, ◌*◌, ◌^◌, ◌≤◌, ◌<◌}
use native.Mathlib.Nat.{suc-ne-zero, mul-le-mul}
use native.Mathlib.Numerals.{add-one}
use borrow.Author.Tests.{lt-leb, le-leb}
use lib.Dec.{T, ltb}
use lib.ListN.{length}
use Rattle.lists.specs.Lists.{padded}
use Rattle.lists.proofs.Tests.{true_of_T}
use Rattle.lists.proofs.Member.{of_all}
use Rattle.order.specs.Questions.{first_no, in_range, room, below}
use Rattle.order.specs.Order.{Order, the_code, order_questions}
use Rattle.order.specs.Answer.{Answer, accepted, refused}
use Rattle.order.specs.Model.Accepted.{AcceptedCode}
use Rattle.order.proofs.Answers.{below_of_range}
use Rattle.order.proofs.Asked.{numbered_order, accepted_code}
use Rattle.order.proofs.FirstNo.{first_no_none, first_no_yes, first_no_no, refused_first, refused_later, is_refused, is_answered, leaves_refused, leaves_answered}
use Rattle.code.specs.Links.{steps_of}
use Rattle.code.specs.Weight.{weight, codeword}
use Rattle.code.specs.Calls.{weigh_questions, weigh_call, encode_questions, encode_call}
use Rattle.code.specs.Model.Steps.{most_steps}
use Rattle.code.proofs.Steps.{Fit}

-- generators in range have at most v + 1 coefficients
pub fit_of_code : (o : Order) → AcceptedCode o → Fit o.v o.generators
fit_of_code o acc g m =
    let v : ℕ = o.v in
    subst (λ (k : ℕ). g < 2 ^ k) (add-one v) (below_of_range v g (true_of_T (in_range v g) (of_all (in_range v) o.generators (subst T (sym acc.is_in_range) tt) g m)))

module _ (o : Order) (r : ℕ) (e : r ≡ first_no (order_questions the_code o)) where
  pub code_accepted : r ≡ 0 → AcceptedCode o
  code_accepted z = accepted_code o (sym e ∙ z)

  -- ---- the weight of a word

  module _ (u : ℕ) where
    pub weigh_refused_early : (r ≡ 0 → ⊥) → refused r ≡ weigh_call o u
    unfolding weigh_call weigh_questions
    weigh_refused_early n = is_refused _ r _ (refused_first (order_questions the_code o) (below o.N u ∷ []) r (numbered_order the_code o) e n) n

    module _ (z : r ≡ 0) where
      later_weigh : (x : ℕ) → x ≡ first_no (below o.N u ∷ []) → x ≡ first_no (weigh_questions o u)
      unfolding weigh_questions
      later_weigh x ex = refused_later (order_questions the_code o) (below o.N u ∷ []) r x (numbered_order the_code o) e z ex

      pub weigh_refused_late : ltb u (2 ^ o.N) ≡ false → refused 12 ≡ weigh_call o u
      unfolding weigh_call
      weigh_refused_late b = is_refused _ 12 _ (later_weigh 12 (sym (first_no_no (below o.N u) [] b))) (suc-ne-zero 11)

      pub weigh_answered : ltb u (2 ^ o.N) ≡ true → accepted (weight o u) ≡ weigh_call o u
      unfolding weigh_call
      weigh_answered b = is_answered _ _ (later_weigh 0 (sym (first_no_yes (below o.N u) [] b ∙ first_no_none)))

  -- ---- the encoder

  module _ (u : ℕ) (out : List ℕ) where
    abbrev Outcome : Type 0
    Outcome = Answer (Unit {0}) × List ℕ

    abbrev needed : ℕ
    needed = length o.generators * steps_of o

    pub encode_refused_early : (r ≡ 0 → ⊥) → ◌≡◌ {A = Outcome} (refused r, out) (encode_call o u out)
    unfolding encode_call encode_questions
    encode_refused_early n =
        leaves_refused out _ r _ (refused_first (order_questions the_code o) (room needed (length out) ∷ below o.N u ∷ []) r (numbered_order the_code o) e n) n

    module _ (z : r ≡ 0) where
      later_encode : (x : ℕ) → x ≡ first_no (room needed (length out) ∷ below o.N u ∷ []) → x ≡ first_no (encode_questions o u (length out))
      unfolding encode_questions
      later_encode x ex = refused_later (order_questions the_code o) (room needed (length out) ∷ below o.N u ∷ []) r x (numbered_order the_code o) e z ex

      pub encode_no_room : length out < needed → ◌≡◌ {A = Outcome} (refused 10, out) (encode_call o u out)
      unfolding encode_call
      encode_no_room h =
          leaves_refused out _ 10 _ (later_encode 10 (sym (first_no_no (room needed (length out)) (below o.N u ∷ []) (lt-leb needed (length out) h)))) (suc-ne-zero 9)

      module _ (fits : needed ≤ length out) where
        roomy : first_no (room needed (length out) ∷ below o.N u ∷ []) ≡ first_no (below o.N u ∷ [])
        roomy = first_no_yes (room needed (length out)) (below o.N u ∷ []) (le-leb needed (length out) fits)

        pub encode_refused_late : ltb u (2 ^ o.N) ≡ false → ◌≡◌ {A = Outcome} (refused 12, out) (encode_call o u out)
        unfolding encode_call
        encode_refused_late b = leaves_refused out _ 12 _ (later_encode 12 (sym (roomy ∙ first_no_no (below o.N u) [] b))) (suc-ne-zero 11)

        pub encode_answered : ltb u (2 ^ o.N) ≡ true → ◌≡◌ {A = Outcome} (accepted tt, padded (length out) 0 (codeword o u)) (encode_call o u out)
        unfolding encode_call
        encode_answered b = leaves_answered out _ _ (later_encode 0 (sym (roomy ∙ first_no_yes (below o.N u) [] b ∙ first_no_none)))

-- n times the steps is a small number
pub product_small : (n steps : ℕ) → n ≤ 4 → steps ≤ most_steps → n * steps ≤ 544
product_small n steps h q = mul-le-mul h q
