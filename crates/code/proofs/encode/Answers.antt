-- Refused by one of the questions with the output as it was, or encoded.
use mathlib.Core.Path.{refl, sym, ap, ◌∙◌}
use mathlib.Core.List.{List}
use Prim.Native.Nat.{ℕ, ◌≤◌}
use native.Mathlib.Omega.{arith}
use borrow.Author.Tests.{ltb-true}
use Rattle.std.proofs.lemmas.Result.{err_from_is_err_and}
use Rattle.order.specs.Answer.{accepted}
use Rattle.order.proofs.Refusals.{some_number}
use Rattle.order.specs.Answers.{order_in}
use Rattle.order.proofs.Asked.{length-order_in, few_in}
use Rattle.code.specs.Model.Steps.{most_steps}
use Rattle.code.proofs.Links.{few_steps}
use Rattle.code.proofs.Calls.{code_accepted, encode_refused_early, encode_no_room, encode_refused_late, encode_answered, product_small}
use Rattle.code.proofs.encode.Goals as goal

pub returns-in_err-ask_order : goal.returns-in_err-ask_order
returns-in_err-ask_order c =
    let p = err_from_is_err_and c.from_residual.result c.from_residual.ensures.1 in
    rw (p.1, p.2) (encode_refused_early _ _ c.in_err-ask_order.ensures _ _ (some_number _))

pub new-link-requires : goal.new-link-requires
new-link-requires c = code_accepted _ 0 c.in_ok-ask_order.ensures refl

pub overflow_mul-needed : goal.overflow_mul-needed
unfolding order_in
overflow_mul-needed c =
    let o = c.args.order in
    let acc = code_accepted _ 0 c.in_ok-ask_order.ensures refl in
    let steps = c.steps in
    let are = rw c.new-link.ensures at steps.ensures in
    let short : steps.result ≤ most_steps = rw are (few_steps _ acc) in
    let few = few_in o acc in
    omega (arith, product_small o.n steps.result few short, product_small o.n o.bits few (omega (arith, acc.at_most_128)))

pub returns-then-output-needed : goal.returns-then-output-needed
unfolding order_in
returns-then-output-needed c =
    let are = rw c.new-link.ensures at c.steps.ensures in
    encode_no_room _ 0 c.in_ok-ask_order.ensures _ _ refl
    (rw (length-order_in c.args.order, ← are) c.if-output-needed.true)

pub returns-then-not-is_below : goal.returns-then-not-is_below
unfolding order_in
returns-then-not-is_below c =
    let are = rw c.new-link.ensures at c.steps.ensures in
    encode_refused_late _ 0 c.in_ok-ask_order.ensures _ _ refl (rw (length-order_in c.args.order, ← are) c.if-output-needed.false)
    (sym c.is_below.ensures ∙ c.if-not-is_below.true)

pub encode_steps-requires : goal.encode_steps-requires
unfolding order_in
encode_steps-requires c =
    let are = rw c.new-link.ensures at c.steps.ensures in
    rw c.new-link.ensures record {
      fits = ltb-true _ _ (sym c.is_below.ensures ∙ c.if-not-is_below.false);
      room = rw (length-order_in c.args.order, ← are) c.if-output-needed.false;
    }

pub returns : goal.returns
unfolding order_in
returns c =
    let are = rw c.new-link.ensures at c.steps.ensures in
    ap (λ (l : List ℕ). (accepted tt, l)) (rw c.new-link.ensures at c.encode_steps.ensures)
    ∙ encode_answered _ 0 c.in_ok-ask_order.ensures _ _ refl (rw (length-order_in c.args.order, ← are) c.if-output-needed.false)
    (sym c.is_below.ensures ∙ c.if-not-is_below.false)
