-- Refused by one of the questions, or weighed.
use mathlib.Core.Path.{refl, sym, ap, ◌∙◌}
use borrow.Author.Tests.{ltb-true}
use Rattle.std.proofs.lemmas.Result.{err_from_is_err_and}
use Rattle.order.specs.Answer.{accepted}
use Rattle.order.specs.Answers.{order_in}
use Rattle.order.proofs.Refusals.{some_number}
use Rattle.code.proofs.Calls.{code_accepted, weigh_refused_early, weigh_refused_late, weigh_answered}
use Rattle.code.proofs.weigh.Goals as goal

pub returns-in_err-ask_order : goal.returns-in_err-ask_order
returns-in_err-ask_order c =
    let p = err_from_is_err_and c.from_residual.result c.from_residual.ensures.1 in
    rw (p.1, p.2) (weigh_refused_early _ _ c.in_err-ask_order.ensures _ (some_number _))

pub new-requires : goal.new-requires
new-requires c = code_accepted _ 0 c.in_ok-ask_order.ensures refl

pub weigh_steps-requires : goal.weigh_steps-requires
unfolding order_in
weigh_steps-requires c = rw c.new.ensures (ltb-true _ _ (sym c.is_below.ensures ∙ c.if-is_below.true))

pub returns-then-is_below : goal.returns-then-is_below
unfolding order_in
returns-then-is_below c = ap accepted (rw c.new.ensures at c.weigh_steps.ensures) ∙ weigh_answered _ 0 c.in_ok-ask_order.ensures _ refl (sym c.is_below.ensures ∙ c.if-is_below.true)

pub returns-else-is_below : goal.returns-else-is_below
unfolding order_in
returns-else-is_below c = weigh_refused_late _ 0 c.in_ok-ask_order.ensures _ refl (sym c.is_below.ensures ∙ c.if-is_below.false)
