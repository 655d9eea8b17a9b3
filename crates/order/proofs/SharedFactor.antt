-- What question 16 says, in the words of `SharesFactor`: it refuses exactly where no question before it does and a polynomial other than 1 divides
-- every generator; and of an accepted order's generators none does.
-- Assumes nothing.
use mathlib.Core.Path.{◌≡◌, sym, ap, subst}
use mathlib.Core.Bool.{Bool, true, false, not}
use mathlib.Core.List.{List, [], ◌∷◌, ◌++◌}
use mathlib.Core.Logic.{◌↔◌}
use Prim.Native.Nat.{ℕ}
use borrow.Author.Tests.{not-false}
use lib.Dec.{T}
use lib.ListN.{length}
use Rattle.lists.proofs.Tests.{true_of_T}
use Rattle.gcd.specs.SharedFactor.{SharesFactor, share_factor}
use Rattle.gcd.proofs.SharedFactor.{share_factor⇔SharesFactor}
use Rattle.order.specs.Questions.{Question, first_no, shape_questions, generator_range, generator_ends, no_shared_factor, generator_questions}
use Rattle.order.specs.Order.{Order, if_taken, number_questions, order_questions}
use Rattle.order.specs.Model.Accepted.{AcceptedCode}
use Rattle.order.specs.declared.questions.Takes.{Takes}
use Rattle.order.proofs.FirstNo.{Numbered, has_not, last_refuses}

-- the questions about an order that stand before 16
abbrev before16 : Takes → Order → List Question
before16 takes o =
    shape_questions takes.versions takes.longest o.version (length o.generators) o.v o.N
    ++ (number_questions takes o ++ (generator_range o.v o.generators ∷ generator_ends o.v o.generators ∷ []))

-- the test says no exactly where a factor is shared
says_no : (gs : List ℕ) → (not (share_factor gs) ≡ false) ↔ SharesFactor gs
says_no gs =
    let law = share_factor⇔SharesFactor gs in
    (λ e. law.0 (subst T (sym (not-false (share_factor gs) e)) tt), λ s. ap not (true_of_T (share_factor gs) (law.1 s)))

-- it refuses exactly where no question before it does and the generators share a factor
pub refused_16⇔SharesFactor : (takes : Takes) (o : Order)
    → (first_no (order_questions takes o) ≡ 16) ↔ ((first_no (before16 takes o) ≡ 0) × SharesFactor o.generators)
unfolding order_questions shape_questions if_taken number_questions generator_questions
refused_16⇔SharesFactor takes o = by takes.degree takes.threshold
  where
    last : (qs : List Question) → Numbered qs → T (has_not 16 qs)
        → (first_no (qs ++ (no_shared_factor o.generators ∷ [])) ≡ 16) ↔ ((first_no qs ≡ 0) × SharesFactor o.generators)
    last qs n t =
        let l = last_refuses 16 (not (share_factor o.generators)) qs tt n t in
        let s = says_no o.generators in
        (λ e. let h = l.0 e in (h.0, s.0 h.1), λ h. l.1 (h.0, s.1 h.1))

    with_numbers : (degree threshold : Bool) → Takes
    with_numbers degree threshold = record { versions = takes.versions; longest = takes.longest; degree = degree; threshold = threshold }

    by : (degree threshold : Bool)
        → (first_no (order_questions (with_numbers degree threshold) o) ≡ 16) ↔ ((first_no (before16 (with_numbers degree threshold) o) ≡ 0) × SharesFactor o.generators)
    by true true = last (before16 (with_numbers true true) o) tt tt
    by true false = last (before16 (with_numbers true false) o) tt tt
    by false true = last (before16 (with_numbers false true) o) tt tt
    by false false = last (before16 (with_numbers false false) o) tt tt

-- the generators of an accepted order share none
pub accepted_shares_none : (o : Order) → AcceptedCode o → SharesFactor o.generators → ⊥
accepted_shares_none o acc s = subst T acc.shares_no_factor ((share_factor⇔SharesFactor o.generators).1 s)
