-- Refused with the buffer as it was, or written into a cleared one.
use mathlib.Core.Path.{refl}
use Rattle.std.proofs.lemmas.Result.{err_from_is_err_and}
use Rattle.text.specs.Text.{answer_text}
use Rattle.order.specs.Answers.{order_in}
use Rattle.order.proofs.FirstNo.{leaves_refused}
use Rattle.order.proofs.Refusals.{some_number}
use Rattle.text.specs.Calls.{answer_questions, row_call}
use Rattle.text.proofs.Calls.{written_as_lem, row_accepted, row_asked}
use Rattle.text.proofs.write_numbers.Goals as goal

pub returns-in_err-ask_row : goal.returns-in_err-ask_row
unfolding row_call answer_questions answer_text order_in
returns-in_err-ask_row c =
    let a = c.args in
    let p = err_from_is_err_and c.from_residual.result c.from_residual.ensures.1 in
    rw (p.1, p.2) (leaves_refused a.buffer.now _ _ _ (row_asked a.o _ _ _ _ c.in_err-ask_row.ensures) (some_number _))

pub lay_row-end-requires : goal.lay_row-end-requires
lay_row-end-requires c = (row_accepted _ _ _ _ _ _ 0 c.in_ok-ask_row.ensures refl).1

pub invariant_of-text : goal.invariant_of-text
invariant_of-text c = record { accepted = (row_accepted _ _ _ _ _ _ 0 c.in_ok-ask_row.ensures refl).0 }

pub returns : goal.returns
unfolding row_call answer_questions answer_text order_in
returns c =
    let a = c.args in
    written_as_lem _ _ a.buffer.now (row_asked a.o _ _ _ 0 c.in_ok-ask_row.ensures) c.lay_row-end.ensures
