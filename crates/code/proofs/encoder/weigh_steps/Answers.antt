use mathlib.Core.Path.{◌∙◌}
use Prim.Native.Nat.{◌≤◌, zero-le}
use native.Mathlib.Omega.{arith}
use lib.ListN.{length}
use Rattle.order.specs.Answers.{order_in}
use Rattle.code.specs.Model.Steps.{most_steps}
use Rattle.code.proofs.Links.{few_steps}
use Rattle.code.proofs.Windows.{later_none, later_more, kept_memory, kept_inputs}
use Rattle.code.proofs.Weights.{step_few, steps_none, steps_more, steps_end}
use Rattle.code.proofs.encoder.weigh_steps.Goals as goal

pub loop-init : goal.loop-init
loop-init c =
    record { window = later_none _; small = zero-le; summed = steps_none _ _ _ _ }

pub moved-next-requires : goal.moved-next-requires
moved-next-requires c = kept_memory c.args.link.accepted c.first_window-window.ensures c.loop.invariant.window

-- one step adds at most four
pub overflow_add-total : goal.overflow_add-total
overflow_add-total c =
    let gs = c.generators-generators.result.now in
    let few : length gs ≤ 4 = rw c.generators-generators.ensures c.args.link.accepted.few_generators in
    let here : c.step_weight-total.result ≤ length gs = rw c.step_weight-total.ensures (step_few gs _ _) in
    let most : c.steps-steps.result ≤ most_steps = rw c.steps-steps.ensures (few_steps _ c.args.link.accepted) in
    omega (arith, c.loop.invariant.small)

pub loop-preserved : goal.loop-preserved
unfolding order_in
loop-preserved c =
    let gs = c.generators-generators.result.now in
    let l = c.loop in
    let first = c.first_window-window.ensures in
    let steps = c.steps-steps.ensures in
    let few : length gs ≤ 4 = rw c.generators-generators.ensures c.args.link.accepted.few_generators in
    let here : c.step_weight-total.result ≤ length gs = rw c.step_weight-total.ensures (step_few gs _ _) in
    let kept = kept_inputs c.args.link.accepted first l.invariant.window c.requires (omega arith) in
    record {
      window = later_more l.invariant.window c.moved-next.ensures;
      small = omega (arith, l.invariant.small);
      summed = steps_more gs _ _ _ l.counter _ _ _ (omega arith) (c.inputs.ensures ∙ rw (first.memory, first.rest, steps) kept) c.step_weight-total.ensures l.invariant.summed;
    }

pub returns : goal.returns
unfolding order_in
returns c =
    let steps = c.steps-steps in
    steps_end c.args.link.accepted c.requires c.first_window-window.ensures _ steps.result c.loop.counter _ c.generators-generators.ensures steps.ensures (omega arith) c.loop.invariant.summed
