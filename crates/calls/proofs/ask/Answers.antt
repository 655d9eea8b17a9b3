-- Refused by the order of the row or by what the job takes, or by none.
use mathlib.Core.Path.{refl}
use Rattle.std.proofs.lemmas.Result.{err_from_is_err_and}
use Rattle.order.specs.Answers.{order_in}
use Rattle.order.proofs.FirstNo.{refused_first, refused_later}
use Rattle.order.proofs.Refusals.{some_number}
use Rattle.order.proofs.Asked.{numbered_order}
use Rattle.jobs.specs.Model.Steps.{row_order}
use Rattle.calls.specs.Calls.{questions}
use Rattle.calls.proofs.ask.Goals as goal

pub returns-in_err-ask_order : goal.returns-in_err-ask_order
unfolding questions row_order
returns-in_err-ask_order c =
    let p = err_from_is_err_and c.from_residual.result c.from_residual.ensures.1 in
    rw (p.1, p.2) (refused_first _ _ _ (numbered_order _ _) (rw c.row_order.ensures at c.in_err-ask_order.ensures) (some_number _))

pub returns : goal.returns
unfolding questions row_order order_in
returns c =
    refused_later _ _ 0 _ (numbered_order _ _) (rw c.row_order.ensures at c.in_ok-ask_order.ensures) refl (rw c.counted_weights.ensures at c.ask_job.ensures)
