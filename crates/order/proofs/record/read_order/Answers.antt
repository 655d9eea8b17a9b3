-- Refused by the record or by the order in it; or read.
use mathlib.Core.Path.{refl}
use Rattle.std.proofs.lemmas.Result.{err_from_is_err_and}
use Rattle.order.proofs.Records.{read_refused_outside, read_refused_inside, read_accepted}
use Rattle.order.proofs.Refusals.{some_number}
use Rattle.order.proofs.record.read_order.Goals as goal

pub returns-in_err-ask_record : goal.returns-in_err-ask_record
returns-in_err-ask_record c =
    let p = err_from_is_err_and c.from_residual.result c.from_residual.ensures.1 in
    rw (p.1, p.2) (read_refused_outside _ _ c.in_err-ask_record.ensures (some_number _))

pub returns-in_err-ask_order : goal.returns-in_err-ask_order
returns-in_err-ask_order c =
    let p = err_from_is_err_and c.from_residual-in_err-ask_order.result c.from_residual-in_err-ask_order.ensures.1 in
    rw (p.1, p.2) (read_refused_inside _ 0 c.in_ok-ask_record.ensures refl _ c.fields-order.ensures _ c.in_err-ask_order.ensures (some_number _))

pub returns : goal.returns
returns c = read_accepted _ 0 c.in_ok-ask_record.ensures refl _ c.fields-order.ensures 0 c.in_ok-ask_order.ensures refl
