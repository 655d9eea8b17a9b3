-- The first of four tests that fails, or none.
use mathlib.Core.Path.{sym, ◌∙◌}
use Rattle.order.proofs.FirstNo.{first_no_none, first_no_yes, first_no_no}
use Rattle.order.specs.Questions.{shape_questions}
use Rattle.order.proofs.questions.ask_shape.Goals as goal

pub returns-then-not-from_to : goal.returns-then-not-from_to
unfolding shape_questions
returns-then-not-from_to c = sym (first_no_no _ _ (sym c.from_to.ensures ∙ c.if-not-from_to.true))

pub returns-then-not-from_to-2 : goal.returns-then-not-from_to-2
unfolding shape_questions
returns-then-not-from_to-2 c =
    let first = c in
    sym (first_no_yes _ _ (sym first.from_to.ensures ∙ first.if-not-from_to.false)
    ∙ first_no_no _ _ (sym c.from_to-2.ensures ∙ c.if-not-from_to-2.true))

pub returns-then-not-from_to-3 : goal.returns-then-not-from_to-3
unfolding shape_questions
returns-then-not-from_to-3 c =
    let second = c in
    let first = second in
    sym (first_no_yes _ _ (sym first.from_to.ensures ∙ first.if-not-from_to.false)
    ∙ first_no_yes _ _ (sym second.from_to-2.ensures ∙ second.if-not-from_to-2.false)
    ∙ first_no_no _ _ (sym c.from_to-3.ensures ∙ c.if-not-from_to-3.true))

pub returns-then-not-from_to-4 : goal.returns-then-not-from_to-4
unfolding shape_questions
returns-then-not-from_to-4 c =
    let third = c in
    let second = third in
    let first = second in
    sym (first_no_yes _ _ (sym first.from_to.ensures ∙ first.if-not-from_to.false)
    ∙ first_no_yes _ _ (sym second.from_to-2.ensures ∙ second.if-not-from_to-2.false)
    ∙ first_no_yes _ _ (sym third.from_to-3.ensures ∙ third.if-not-from_to-3.false)
    ∙ first_no_no _ _ (sym c.from_to-4.ensures ∙ c.if-not-from_to-4.true))

pub returns : goal.returns
unfolding shape_questions
returns c =
    let third = c in
    let second = third in
    let first = second in
    sym (first_no_yes _ _ (sym first.from_to.ensures ∙ first.if-not-from_to.false)
    ∙ first_no_yes _ _ (sym second.from_to-2.ensures ∙ second.if-not-from_to-2.false)
    ∙ first_no_yes _ _ (sym third.from_to-3.ensures ∙ third.if-not-from_to-3.false)
    ∙ first_no_yes _ _ (sym c.from_to-4.ensures ∙ c.if-not-from_to-4.false)
    ∙ first_no_none)
