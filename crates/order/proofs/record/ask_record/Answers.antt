-- The first of three tests that fails, or none.
use mathlib.Core.Path.{sym, ◌∙◌}
use Rattle.order.proofs.FirstNo.{first_no_none, first_no_yes, first_no_no}
use Rattle.order.specs.Order.{record_questions}
use Rattle.order.proofs.record.ask_record.Goals as goal

pub returns-then-not-length_right : goal.returns-then-not-length_right
unfolding record_questions
returns-then-not-length_right c = sym (first_no_no _ _ (sym c.length_right.ensures ∙ c.if-not-length_right.true))

pub returns-then-not-version_right : goal.returns-then-not-version_right
unfolding record_questions
returns-then-not-version_right c = sym (first_no_yes _ _ (sym c.length_right.ensures ∙ c.if-not-length_right.false) ∙ first_no_no _ _ (sym c.version_right.ensures ∙ c.if-not-version_right.true))

pub returns-then-not-count_right : goal.returns-then-not-count_right
unfolding record_questions
returns-then-not-count_right c =
    let past = c in
    sym (first_no_yes _ _ (sym past.length_right.ensures ∙ past.if-not-length_right.false)
    ∙ first_no_yes _ _ (sym past.version_right.ensures ∙ past.if-not-version_right.false)
    ∙ first_no_no _ _ (sym c.count_right.ensures ∙ c.if-not-count_right.true))

pub returns : goal.returns
unfolding record_questions
returns c =
    let past = c in
    sym (first_no_yes _ _ (sym past.length_right.ensures ∙ past.if-not-length_right.false)
    ∙ first_no_yes _ _ (sym past.version_right.ensures ∙ past.if-not-version_right.false)
    ∙ first_no_yes _ _ (sym c.count_right.ensures ∙ c.if-not-count_right.false)
    ∙ first_no_none)
