-- Refused by a question, all is as it was; refused later, all is cleared; else it is as it was made.
use Rattle.std.proofs.Common.{◌≡◌, ℕ, true, false, List, Result, Ok, Err, refl, sym, ◌∙◌, ap, length, replicate}
use mathlib.Core.Path.{ap₂}
use Rattle.std.specs.Prelude.{is_err}
use Rattle.std.proofs.lemmas.Result.{err_from_is_err_and}
use Rattle.lists.specs.Lists.{cleared}
use Rattle.order.specs.Answer.{Answer, refusal_number}
use Rattle.order.specs.Answers.{order_in}
use Rattle.order.specs.Refusals.{asked}
use Rattle.order.specs.declared.refusal.Refusal.{Refusal}
use Rattle.order.proofs.FirstNo.{leaves_answered}
use Rattle.order.proofs.Refusals.{some_number, leaves_refusal}
use Rattle.events.specs.declared.Event.{Event}
use Rattle.events.specs.Events.{no_event}
use Rattle.row.specs.declared.Row.{Row}
use Rattle.row.specs.Answered.{answered_as}
use Rattle.jobs.specs.declared.Plan.{Plan}
use Rattle.jobs.specs.Jobs.{SearchTables, search_tables, cleared_search, ran}
use Rattle.jobs.specs.Lent.{lent}
use Rattle.jobs.specs.Model.Steps.{row_order, MadeAs}
use Rattle.jobs.proofs.Answers.{late}
use Rattle.calls.proofs.run.Goals as goal
use Rattle.calls.proofs.run.Goals.{then-is_err, else-is_err}

abbrev Outcome : Type 0
Outcome = Answer Row × SearchTables

none_told : (r : Result Row Refusal) → is_err r ≡ false → refusal_number (answered_as r) ≡ 0
unfolding refusal_number
none_told (Ok x) h = refl
none_told (Err e) h = cc

some_told : (r : Result Row Refusal) → is_err r ≡ true → refusal_number (answered_as r) ≡ 0 → ⊥
unfolding refusal_number
some_told (Ok x) h z = cc
some_told (Err e) h z = some_number e z

module _ (plan : Plan) (t : SearchTables) where
  abbrev outcome : Outcome
  outcome = ran plan.job plan.shorter.now (order_in plan.order) (row_order plan) t

  module _ (r : Result Row Refusal) (left : SearchTables) (done : MadeAs plan t (answered_as r) left) where
    is_made : is_err r ≡ false → ◌≡◌ {A = Outcome} (answered_as r, left) outcome
    is_made h = ap₂ (λ (a : Answer Row) (x : SearchTables). (a, x)) done.answered (done.leaves (none_told r h))

    is-cleared : is_err r ≡ true → (es : List Event) (ls ms ds us : List ℕ) → es ≡ replicate (length t.events) no_event → ls ≡ replicate (length t.paths) 0 → ms ≡ replicate (length t.plain) 0
        → ds ≡ replicate (length t.undetected) 0 → us ≡ replicate (length t.work) 0 → ◌≡◌ {A = Outcome} (answered_as r, search_tables es ls ms ds us) outcome
    unfolding cleared_search cleared
    is-cleared h es ls ms ds us e-es e-ls e-ms e-ds e-us =
        ap₂ (λ (a : Answer Row) (x : SearchTables). (a, x)) done.answered (λ i. search_tables (e-es i) (e-ls i) (e-ms i) (e-ds i) (e-us i))
        ∙ sym (late plan.shorter.now (order_in plan.order) (row_order plan) t plan.job (λ z. some_told r h (ap refusal_number done.answered ∙ z)))

zeros-as : {A : Type 0} (z : A) (l m : List A) (n : ℕ) → m ≡ replicate (length l) z → length l ≡ n → m ≡ replicate n z
zeros-as z l m n e h = e ∙ ap (λ (k : ℕ). replicate k z) h

pub returns-in_err-why : goal.returns-in_err-why
returns-in_err-why c =
    let t : SearchTables = lent c.args.tables in
    let p = err_from_is_err_and c.from_residual.result c.from_residual.ensures.1 in
    rw (c.in_err-why.was, p.1, p.2) (leaves_refusal t (outcome c.args.plan t) _ _ refl)

pub make-made-requires : goal.make-made-requires
make-made-requires c = c.requires (ap (λ (r : Result (Unit {0}) Refusal). asked r) c.in_ok-why.was)

pub returns : goal.returns
returns c =
    let t : SearchTables = lent c.args.tables in
    let kept = c.make-made.auto.tables in
    elim c.if-is_err.branch [
      | then-is_err w ↦
          rw c.in_ok-why.was (is-cleared c.args.plan t c.make-made.result _ c.make-made.ensures (sym c.is_err.ensures.value ∙ w.if-is_err.true) _ _ _ _ _
          (w.events-is ∙ zeros-as no_event _ _ _ w.clear_events.ensures kept.0) (w.paths-is ∙ zeros-as 0 _ _ _ w.clear.ensures kept.1.0)
          (w.plain-is ∙ zeros-as 0 _ _ _ w.clear-then-is_err.ensures kept.1.1.0) (w.undetected-is ∙ zeros-as 0 _ _ _ w.clear-then-is_err-2.ensures kept.1.1.1.0)
          (w.work-is ∙ zeros-as 0 _ _ _ w.clear-then-is_err-3.ensures kept.1.1.1.1.0)
          ∙ leaves_answered t (outcome c.args.plan t) 0 refl)
      | else-is_err w ↦
          rw (c.in_ok-why.was, w.events-is, w.paths-is, w.plain-is, w.undetected-is, w.work-is)
          (is_made c.args.plan t c.make-made.result _ c.make-made.ensures (sym c.is_err.ensures.value ∙ w.if-is_err.false) ∙ leaves_answered t (outcome c.args.plan t) 0 refl)
    ]
