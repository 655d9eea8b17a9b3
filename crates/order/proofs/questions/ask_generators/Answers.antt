-- The first of three tests that fails, or none.
use mathlib.Core.Path.{sym, ap, ◌∙◌}
use mathlib.Core.Bool.{not}
use Rattle.order.proofs.FirstNo.{first_no_none, first_no_yes, first_no_no}
use Rattle.order.specs.Questions.{generator_questions}
use Rattle.order.proofs.questions.ask_generators.Goals as goal

pub returns-then-not-all_in_range : goal.returns-then-not-all_in_range
unfolding generator_questions
returns-then-not-all_in_range c = sym (first_no_no _ _ (sym c.all_in_range.ensures ∙ c.if-not-all_in_range.true))

pub returns-then-not-ends_reached : goal.returns-then-not-ends_reached
unfolding generator_questions
returns-then-not-ends_reached c =
    let eight = sym c.all_in_range.ensures ∙ c.if-not-all_in_range.false in
    sym (first_no_yes _ _ eight ∙ first_no_no _ _ (sym c.ends_reached.ensures ∙ c.if-not-ends_reached.true))

pub returns-then-share_factor : goal.returns-then-share_factor
unfolding generator_questions
returns-then-share_factor c =
    let nine-asked = c in
    let eight = sym nine-asked.all_in_range.ensures ∙ nine-asked.if-not-all_in_range.false in
    let nine = sym nine-asked.ends_reached.ensures ∙ c.if-not-ends_reached.false in
    sym (first_no_yes _ _ eight ∙ first_no_yes _ _ nine ∙ first_no_no _ _ (ap not (sym c.share_factor.ensures ∙ c.if-share_factor.true)))

pub returns : goal.returns
unfolding generator_questions
returns c =
    let nine-asked = c in
    let eight = sym nine-asked.all_in_range.ensures ∙ nine-asked.if-not-all_in_range.false in
    let nine = sym nine-asked.ends_reached.ensures ∙ c.if-not-ends_reached.false in
    let sixteen = ap not (sym c.share_factor.ensures ∙ c.if-share_factor.false) in
    sym (first_no_yes _ _ eight ∙ first_no_yes _ _ nine ∙ first_no_yes _ _ sixteen ∙ first_no_none)
