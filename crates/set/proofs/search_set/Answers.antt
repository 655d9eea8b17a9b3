-- Refused by a question, all is as it was; else the plan for the lengths is run.
use Rattle.std.proofs.Common.{◌≡◌, ◌≤◌, ℕ, List, refl, sym, ◌∙◌, length}
use Rattle.order.specs.Order.{Order}
use Rattle.order.specs.Answer.{Answer, unless_refused}
use Rattle.order.specs.Answers.{order_in}
use Rattle.order.proofs.FirstNo.{leaves_answered}
use Rattle.order.proofs.Refusals.{leaves_refusal}
use Rattle.std.proofs.lemmas.Result.{err_from_is_err_and}
use Rattle.row.specs.declared.Row.{Row}
use Rattle.jobs.specs.declared.Plan.{Plan}
use Rattle.jobs.specs.Jobs.{SearchTables, search_tables, ran}
use Rattle.jobs.specs.Model.Steps.{row_order}
use Rattle.set.specs.Calls.{set_call, set_row}
use Rattle.set.specs.Model.Plans.{PlannedFor}
use Rattle.set.proofs.Asked.{passed}
use Rattle.set.proofs.Planned.{to_make_set, set-made}
use Rattle.set.proofs.search_set.Goals as goal

-- what the plan is run for is the row of the set
set-ran : {o : Order} {Ns : List ℕ} {plan : Plan} → PlannedFor o Ns plan → 1 ≤ length Ns → (t : SearchTables) (why : ℕ) → why ≡ 0 → (x : Answer Row × SearchTables)
    → x ≡ unless_refused 0 t (ran plan.job plan.shorter.now (order_in plan.order) (row_order plan) t) → x ≡ unless_refused why t (set_row o Ns t)
set-ran {o} {Ns} {plan} planned some t why none x told =
    told ∙ sym (leaves_answered t (ran plan.job plan.shorter.now (order_in plan.order) (row_order plan) t) 0 refl)
    ∙ set-made planned some t ∙ leaves_answered t (set_row o Ns t) why (sym none)

pub returns-in_err-ask_set : goal.returns-in_err-ask_set
unfolding set_call
returns-in_err-ask_set c =
    let t : SearchTables = search_tables c.args.events.now c.args.paths.now c.args.plain.now c.args.undetected.now c.args.work.now in
    let p = err_from_is_err_and c.from_residual.result c.from_residual.ensures.1 in
    rw (p.1, p.2) (leaves_refusal t (set_row (order_in c.args.order) c.args.lengths.now t) _ _ c.in_err-ask_set.ensures)

pub plan_for-plan-requires : goal.plan_for-plan-requires
unfolding order_in
plan_for-plan-requires c =
    let told = passed (order_in c.args.order) c.args.lengths.now _ _ _ (sym c.in_ok-ask_set.ensures) in
    record { some = told.some; few = told.few }

pub run-requires : goal.run-requires
unfolding order_in
run-requires c = λ z. to_make_set c.plan_for-plan.ensures c.args.plain.now c.args.undetected.now c.args.work.now (sym c.in_ok-ask_set.ensures)

pub returns : goal.returns
unfolding order_in set_call
returns c =
    let t : SearchTables = search_tables c.args.events.now c.args.paths.now c.args.plain.now c.args.undetected.now c.args.work.now in
    let told = passed (order_in c.args.order) c.args.lengths.now _ _ _ (sym c.in_ok-ask_set.ensures) in
    set-ran c.plan_for-plan.ensures told.some t _ (sym c.in_ok-ask_set.ensures) _ c.run.ensures
