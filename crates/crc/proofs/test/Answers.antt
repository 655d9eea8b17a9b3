-- Refused by one of the questions, or the remainder decides.
use mathlib.Core.Path.{sym, ap, ◌∙◌}
use Rattle.std.proofs.lemmas.Result.{err_from_is_err_and}
use Rattle.order.specs.Answer.{accepted}
use Rattle.order.proofs.FirstNo.{is_answered}
use Rattle.order.proofs.Refusals.{refuses}
use Rattle.crc.specs.Check.{test_call}
use Rattle.crc.proofs.Calls.{accepted_polynomial, passed}
use Rattle.crc.proofs.Laws.{test_told}
use Rattle.crc.proofs.test.Goals as goal

pub returns-in_err-ask_word : goal.returns-in_err-ask_word
unfolding test_call
returns-in_err-ask_word c =
    let p = err_from_is_err_and c.from_residual.result c.from_residual.ensures.1 in
    rw (p.1, p.2) (refuses _ _ _ c.in_err-ask_word.ensures)

pub remainder_of-requires : goal.remainder_of-requires
remainder_of-requires c =
    let a = c.args in
    let ok = passed a.bits a.m a.polynomial _ _ (sym c.in_ok-ask_word.ensures) in
    let g = accepted_polynomial a.bits a.m a.polynomial ok.polynomial in
    record { modulus = record { at_most_12 = g.at_most_12; degree = g.degree }; at_most_128 = g.at_most_128; fits = ok.small }

pub returns : goal.returns
unfolding test_call
returns c = ap accepted (test_told _ _ _ _ c.remainder_of.ensures) ∙ is_answered _ _ c.in_ok-ask_word.ensures
