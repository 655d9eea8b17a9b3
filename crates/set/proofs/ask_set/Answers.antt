-- Refused by the kind of link and code, by the list, by a length, or by what the search for the shortest asks; or by none.
use Prim.Native.Nat.{ℕ, ◌≤◌}
use native.Mathlib.Omega.{arith}
use mathlib.Core.Path.{◌≡◌, refl, sym, ap, ◌∙◌}
use mathlib.Core.Bool.{true, ◌&&◌}
use mathlib.Core.List.{List}
use lib.ListN.{length}
use Rattle.std.proofs.lemmas.Result.{err_from_is_err_and}
use Rattle.lists.proofs.Tests.{both}
use Rattle.order.specs.Questions.{first_no, from_to}
use Rattle.order.specs.Order.{Order, with_length}
use Rattle.order.specs.Answers.{order_in}
use Rattle.order.specs.declared.record.OrderRecord.{OrderRecord}
use Rattle.order.proofs.Answers.{range}
use Rattle.order.proofs.Refusals.{some_number}
use Rattle.jobs.specs.declared.Plan.{Plan}
use Rattle.calls.specs.Calls.{Call, questions}
use Rattle.calls.specs.Model.Plans.{call_in}
use Rattle.search.specs.Calls.{searching, search_questions}
use Rattle.set.specs.Calls.{falling, shortest}
use Rattle.set.proofs.Asked.{by_kind, by_list, by_length, by_search}
use Rattle.set.proofs.ask_set.Goals as goal

some-lengths : (Ns : List ℕ) → (from_to 1 8 (length Ns) && falling Ns) ≡ true → 1 ≤ length Ns
some-lengths Ns e = (range 1 8 (length Ns) (both (from_to 1 8 (length Ns)) (falling Ns) e).0).0

-- what is asked of the plan for the shortest is what the search for it asks
as_searched : (order : OrderRecord) (Ns : List ℕ) (plain undetected work : ℕ) (short : OrderRecord) → order_in short ≡ with_length (shortest Ns) (order_in order)
    → (plan : Plan) → call_in plan ≡ searching (order_in short) → (r : ℕ) → r ≡ first_no (questions (call_in plan) plain undetected work)
    → r ≡ first_no (search_questions (with_length (shortest Ns) (order_in order)) plain undetected work)
unfolding search_questions
as_searched order Ns plain undetected work short is plan planned r e =
    e ∙ ap (λ (c : Call). first_no (questions c plain undetected work)) planned
    ∙ ap (λ (o : Order). first_no (search_questions o plain undetected work)) is

pub returns-in_err-ask_shape : goal.returns-in_err-ask_shape
returns-in_err-ask_shape c =
    let a = c.args in
    let p = err_from_is_err_and c.from_residual.result c.from_residual.ensures.1 in
    rw (p.1, p.2) (by_kind a.order a.lengths.now a.plain a.undetected a.size _ c.in_err-ask_shape.ensures (some_number _))

pub returns-then-not-is_length_list : goal.returns-then-not-is_length_list
returns-then-not-is_length_list c =
    let a = c.args in
    by_list a.order a.lengths.now a.plain a.undetected a.size 0 c.in_ok-ask_shape.ensures refl (sym c.is_length_list.ensures ∙ c.if-not-is_length_list.true)

pub returns-then-not-all_long_enough : goal.returns-then-not-all_long_enough
unfolding order_in
returns-then-not-all_long_enough c =
    let a = c.args in
    by_length a.order a.lengths.now a.plain a.undetected a.size 0 c.in_ok-ask_shape.ensures refl (sym c.is_length_list.ensures ∙ c.if-not-is_length_list.false)
    (sym c.all_long_enough.ensures ∙ c.if-not-all_long_enough.true)

pub overflow_sub-lengths : goal.overflow_sub-lengths
overflow_sub-lengths c = some-lengths c.args.lengths.now (sym c.is_length_list.ensures ∙ c.if-not-is_length_list.false)

pub bounds-lengths-lengths : goal.bounds-lengths-lengths
bounds-lengths-lengths c = omega (arith, some-lengths c.args.lengths.now (sym c.is_length_list.ensures ∙ c.if-not-is_length_list.false))

pub returns : goal.returns
unfolding shortest order_in
returns c =
    let a = c.args in
    by_search a.order a.lengths.now a.plain a.undetected a.size 0 c.in_ok-ask_shape.ensures refl (sym c.is_length_list.ensures ∙ c.if-not-is_length_list.false)
    (sym c.all_long_enough.ensures ∙ c.if-not-all_long_enough.false) _
    (as_searched a.order a.lengths.now a.plain a.undetected a.size _ c.with_length-shortest.ensures c.choosing.result c.choosing.ensures.call _ c.ask.ensures)
