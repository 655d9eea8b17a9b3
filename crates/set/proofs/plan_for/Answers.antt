-- One length is planned as the search; more are planned with those after the first.
use Prim.Native.Nat.{ℕ}
use native.Mathlib.Omega.{arith}
use mathlib.Core.Path.{◌≡◌, refl, ap, ◌∙◌}
use mathlib.Core.Logic.{inl, inr}
use mathlib.Core.List.{List}
use lib.ListN.{length, get_or, drop, length-drop}
use lib.Seq.{take_all}
use Rattle.order.specs.Order.{Order, with_length}
use Rattle.order.specs.Answers.{order_in}
use Rattle.order.specs.declared.record.OrderRecord.{OrderRecord}
use Rattle.choice.specs.Choice.{first_of}
use Rattle.narrowing.specs.Narrowed.{longest}
use Rattle.jobs.specs.declared.Plan.{Plan}
use Rattle.calls.specs.Calls.{Call}
use Rattle.calls.specs.Model.Plans.{call_in}
use Rattle.search.specs.Calls.{searching}
use Rattle.set.specs.Model.Plans.{PlannedFor}
use Rattle.set.proofs.Planned.{first_is}
use Rattle.set.proofs.plan_for.Goals as goal

is-longest : (order long : OrderRecord) (Ns : List ℕ) → order_in long ≡ with_length (get_or Ns 0 0) (order_in order) → (order_in long ≡ longest (order_in order) Ns) × (long.bits ≡ first_of Ns)
unfolding longest order_in with_length
is-longest order long Ns is = (is ∙ ap (λ (N : ℕ). with_length N (order_in order)) (first_is Ns), ap (λ (o : Order). o.N) is ∙ first_is Ns)

planned-one : (order : OrderRecord) (Ns : List ℕ) (long : OrderRecord) → order_in long ≡ with_length (get_or Ns 0 0) (order_in order)
    → (plan : Plan) → call_in plan ≡ searching (order_in long) → plan.order ≡ long → length Ns ≡ 1 → PlannedFor (order_in order) Ns plan
unfolding order_in
planned-one order Ns long is plan planned same one =
    let e = is-longest order long Ns is in
    record { order = ap order_in same ∙ e.0; bits = ap (λ (x : Call). x.N) planned ∙ e.1; job = inl (one, ap (λ (x : Call). x.job) planned) }

pub returns-then-lengths-eq1 : goal.returns-then-lengths-eq1
returns-then-lengths-eq1 c =
    let a = c.args in
    planned-one a.order a.lengths.now _ c.with_length-longest.ensures _ c.choosing.ensures.call c.choosing.ensures.order c.if-lengths-eq1.true

pub returns : goal.returns
returns c =
    let a = c.args in
    let is = is-longest a.order _ a.lengths.now c.with_length-longest.ensures in
    record { order = is.0; bits = is.1; job = inr (refl, take_all _ (drop 1 a.lengths.now) (omega (arith, length-drop 1 a.lengths.now))) }
