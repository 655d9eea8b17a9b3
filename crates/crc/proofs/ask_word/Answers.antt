-- Refused by the polynomial or by the word, or by none.
use mathlib.Core.Path.{refl, sym, ◌∙◌}
use Rattle.std.proofs.lemmas.Result.{err_from_is_err_and}
use Rattle.order.proofs.Refusals.{some_number}
use Rattle.crc.proofs.Calls.{refused_early, refused_late, answered}
use Rattle.crc.proofs.ask_word.Goals as goal

pub returns-in_err-ask_polynomial : goal.returns-in_err-ask_polynomial
returns-in_err-ask_polynomial c =
    let p = err_from_is_err_and c.from_residual.result c.from_residual.ensures.1 in
    rw (p.1, p.2) (refused_early _ _ _ _ _ _ c.in_err-ask_polynomial.ensures (some_number _))

pub returns-then-not-is_below : goal.returns-then-not-is_below
returns-then-not-is_below c = refused_late _ _ _ _ _ 0 c.in_ok-ask_polynomial.ensures refl (sym c.is_below.ensures ∙ c.if-not-is_below.true)

pub returns : goal.returns
returns c = answered _ _ _ _ _ 0 c.in_ok-ask_polynomial.ensures refl (sym c.is_below.ensures ∙ c.if-not-is_below.false)
