-- The first of three tests that fails, or none.
use mathlib.Core.Path.{sym, ◌∙◌}
use Rattle.order.proofs.FirstNo.{first_no_none, first_no_yes, first_no_no}
use Rattle.crc.specs.Check.{polynomial_questions}
use Rattle.crc.proofs.ask_polynomial.Goals as goal

pub returns-then-not-from_to : goal.returns-then-not-from_to
unfolding polynomial_questions
returns-then-not-from_to c = sym (first_no_no _ _ (sym c.from_to.ensures ∙ c.if-not-from_to.true))

pub returns-then-not-degree_fits : goal.returns-then-not-degree_fits
unfolding polynomial_questions
returns-then-not-degree_fits c = sym (first_no_yes _ _ (sym c.from_to.ensures ∙ c.if-not-from_to.false) ∙ first_no_no _ _ (sym c.degree_fits.ensures ∙ c.if-not-degree_fits.true))

pub returns-then-not-is_check_polynomial : goal.returns-then-not-is_check_polynomial
unfolding polynomial_questions
returns-then-not-is_check_polynomial c =
    let past = c in
    sym (first_no_yes _ _ (sym past.from_to.ensures ∙ past.if-not-from_to.false)
    ∙ first_no_yes _ _ (sym past.degree_fits.ensures ∙ past.if-not-degree_fits.false)
    ∙ first_no_no _ _ (sym c.is_check_polynomial.ensures ∙ c.if-not-is_check_polynomial.true))

pub returns : goal.returns
unfolding polynomial_questions
returns c =
    let past = c in
    sym (first_no_yes _ _ (sym past.from_to.ensures ∙ past.if-not-from_to.false)
    ∙ first_no_yes _ _ (sym past.degree_fits.ensures ∙ past.if-not-degree_fits.false)
    ∙ first_no_yes _ _ (sym c.is_check_polynomial.ensures ∙ c.if-not-is_check_polynomial.false)
    ∙ first_no_none)
