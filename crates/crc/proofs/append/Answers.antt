-- Refused by one of the questions, or the message shifted up and its remainder added.
use mathlib.Core.Path.{sym, ap, ◌∙◌}
use native.Mathlib.Omega.{arith}
use Rattle.std.proofs.lemmas.Result.{err_from_is_err_and}
use Rattle.order.specs.Answer.{accepted}
use Rattle.order.proofs.FirstNo.{is_answered}
use Rattle.order.proofs.Refusals.{refuses}
use Rattle.crc.specs.Check.{append_call}
use Rattle.crc.proofs.Calls.{accepted_polynomial, passed, of_message, shifted_lt, shifted_fits, append_parts}
use Rattle.crc.proofs.append.Goals as goal

pub returns-in_err-ask_word : goal.returns-in_err-ask_word
unfolding append_call
returns-in_err-ask_word c =
    let p = err_from_is_err_and c.from_residual.result c.from_residual.ensures.1 in
    rw (p.1, p.2) (refuses _ _ _ (of_message _ _ _ _ _ c.saturating_sub.ensures c.in_err-ask_word.ensures))

pub shift_up-shifted-requires : goal.shift_up-shifted-requires
shift_up-shifted-requires c =
    let a = c.args in
    let ok = passed a.bits a.m a.polynomial _ _ (sym (of_message _ _ _ _ _ c.saturating_sub.ensures c.in_ok-ask_word.ensures)) in
    let g = accepted_polynomial a.bits a.m a.polynomial ok.polynomial in
    record { some_bits = omega arith; below_64 = omega arith; fits = shifted_fits a.bits a.m _ g.at_most_128 g.degree-below ok.small }

pub remainder_of-r-requires : goal.remainder_of-r-requires
remainder_of-r-requires c =
    let a = c.args in
    let ok = passed a.bits a.m a.polynomial _ _ (sym (of_message _ _ _ _ _ c.saturating_sub.ensures c.in_ok-ask_word.ensures)) in
    let g = accepted_polynomial a.bits a.m a.polynomial ok.polynomial in
    record {
      modulus = record { at_most_12 = g.at_most_12; degree = g.degree };
      at_most_128 = g.at_most_128;
      fits = rw c.shift_up-shifted.ensures (shifted_lt a.bits a.m _ g.degree-below ok.small);
    }

pub returns : goal.returns
unfolding append_call
returns c =
    ap accepted (append_parts _ _ _ _ _ _ _ c.shift_up-shifted.ensures c.remainder_of-r.ensures c.make.ensures c.xor.ensures)
    ∙ is_answered _ _ (of_message _ _ _ _ _ c.saturating_sub.ensures c.in_ok-ask_word.ensures)
