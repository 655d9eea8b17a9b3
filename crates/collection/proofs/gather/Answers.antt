-- It collects turn by turn, and answers.
use Rattle.std.proofs.Common.{ℕ, ◌∙◌, ap, length, replicate, refl, arith}
use Rattle.order.specs.Answers.{order_in}
use Rattle.order.specs.Model.Accepted.{Accepted}
use Rattle.code.proofs.Links.{few_steps, some_steps}
use Rattle.needed.proofs.Places.{tables_inside}
use Rattle.collection.proofs.gather.Invariants.Collecting.{begun, tables_at, all_met, descent, after, all_gathered, past_gathered}
use Rattle.collection.proofs.gather.Goals as goal

pub new-link-requires : goal.new-link-requires
new-link-requires c = c.requires.0.code

pub prepare_for-requires : goal.prepare_for-requires
prepare_for-requires c = tables_inside c.requires.1

pub loop-k-init : goal.loop-k-init
unfolding order_in
loop-k-init c =
    let acc : Accepted (order_in c.new-link.result.order) = rw c.new-link.ensures c.requires.0 in
    record {
      acc = acc;
      enough = c.requires.1;
      stands = begun record { order = order_in c.new-link.result.order; nt = length c.args.events.now; nw = length c.args.work.now; acc = acc; enough = c.requires.1 } _ refl _ _ c.clear_events.ensures c.prepare_for.ensures;
    }

pub turn_for-requires : goal.turn_for-requires
turn_for-requires c = tables_at _ c.loop-k.invariant.stands

-- a turn of as many steps as a word has
pub first_node-node-requires : goal.first_node-node-requires
first_node-node-requires c =
    let code = c.loop-k.invariant.acc.code in
    let steps = c.steps.ensures in
    let o = order_in c.new-link.result.order in
    let some = some_steps o code in
    let few = few_steps o code in
    (omega arith, omega arith)

pub descend-at-requires : goal.descend-at-requires
unfolding order_in
descend-at-requires c =
    descent _ c.loop-k.invariant.stands (omega arith) _ c.turn_for.ensures _ (rw c.steps.ensures at c.first_node-node.ensures)

pub loop-k-preserved : goal.loop-k-preserved
unfolding order_in
loop-k-preserved c = record {
  acc = c.loop-k.invariant.acc;
  enough = c.loop-k.invariant.enough;
  stands = after _ c.loop-k.invariant.stands (omega arith) _ c.turn_for.ensures _ (rw c.steps.ensures at c.first_node-node.ensures) _ _ c.descend-at.ensures;
}

pub returns-then-events-at : goal.returns-then-events-at
returns-then-events-at c =
    let stands = c.loop-k.invariant.stands in
    rw (← c.new-link.ensures)
    (past_gathered _ _ _ _ (all_met _ stands (omega arith)) _ _ (c.clear.ensures ∙ ap (λ (m : ℕ). replicate m 0) stands.work_size_is) (let size = stands.kept.size in omega arith))

pub returns : goal.returns
returns c =
    let stands = c.loop-k.invariant.stands in
    rw (← c.new-link.ensures)
    (all_gathered _ _ _ _ (all_met _ stands (omega arith)) _ _ (c.clear.ensures ∙ ap (λ (m : ℕ). replicate m 0) stands.work_size_is) (let size = stands.kept.size in omega arith))
