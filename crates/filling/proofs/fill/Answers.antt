-- The events are noted, then each weight's words are listed, sorted and counted (`Standing.antt`).
use Prim.Native.Nat.{◌/◌, ◌≤◌}
use native.Mathlib.Omega.{arith}
use mathlib.Core.Path.{◌≡◌, ◌∙◌}
use lib.ListN.{length}
use Rattle.lists.specs.Lists.{cleared}
use Rattle.order.specs.Answers.{order_in}
use Rattle.filling.proofs.Filled.{filled, too_many}
use Rattle.filling.proofs.Standing.{Begins, ready, noted, begun, asked, settled, stands_next, overfull, ended}
use Rattle.filling.proofs.fill.Goals as goal
use Rattle.filling.proofs.fill.Goals.{After-unbegun_first-first, After-clear-3, else-loop-w-test, then-loop-w-test+then-room-at}

pub survey-requires : goal.survey-requires
survey-requires c = let b = ready (length c.args.paths.now) c.requires in (b.wide, noted b)

pub index_states-requires : goal.index_states-requires
index_states-requires c = rw c.survey.auto.work (ready (length c.args.paths.now) c.requires).wide

begins : (c : After-unbegun_first-first) → Begins (order_in c.args.order) c.event_states-states.result c.unbegun_first-first.result
begins c = record { all_states = rw c.new-link.ensures at c.event_states-states.ensures; first_is = rw c.new-link.ensures at c.unbegun_first-first.ensures }

pub loop-w-init : goal.loop-w-init
unfolding cleared
loop-w-init c = λ to_fill.
    begun (ready (length c.args.paths.now) to_fill) to_fill.zeros c.survey.ensures (rw (c.steps.ensures, c.new-link.ensures) at c.index_states.ensures)
    (c.index_states.auto.work ∙ c.survey.auto.work) c.clear.ensures c.clear-2.ensures

pub list_weight-next-requires : goal.list_weight-next-requires
unfolding order_in
list_weight-next-requires c = asked (c.loop-w.invariant c.requires) (omega arith) (begins (goal.at.list_weight-next-requires c).After-unbegun_first-first)

pub settle-requires : goal.settle-requires
unfolding order_in
settle-requires c = settled (c.loop-w.invariant c.requires) (omega arith) (begins (goal.at.settle-requires c).After-unbegun_first-first) c.list_weight-next.ensures

pub loop-w-preserved : goal.loop-w-preserved
unfolding order_in
loop-w-preserved c = λ to_fill.
    let s = c.loop-w.invariant to_fill in
    let room : c.list_weight-next.result ≤ length c.args.paths.now / 2 = let e = c.clear.auto.items in omega arith in
    stands_next s (omega arith) (begins (goal.at.loop-w-preserved c).After-unbegun_first-first) c.list_weight-next.ensures room (c.list_weight-next.auto.work ∙ s.work_size_is)
    c.settle.ensures.0 c.settle.ensures.1

-- the work area ends as zeros
left : (c : After-clear-3) → c.clear-3.new.items ≡ cleared 0 c.args.work.now
unfolding cleared
left c = rw (c.loop-w-test.auto.work ∙ (c.loop-w.invariant c.requires).work_size_is) at c.clear-3.ensures

-- the table is too small
pub returns-then-room-at-2 : goal.returns-then-room-at-2
unfolding order_in
returns-then-room-at-2 c =
    let s = c.loop-w.invariant c.requires in
    let e = c.clear.auto.items in
    let past = c.if-room-at-2.true in
    too_many (left (goal.at.returns-then-room-at-2 c).After-clear-3)
    (elim c.loop-w-test.branch [
      | else-loop-w-test w ↦ absurd (let h = s.held in let p = h.place in let f = h.fits in let a = w.at-is in omega arith)
      | then-loop-w-test+then-room-at w ↦
          overfull s (omega arith) (begins (goal.at.returns-then-room-at-2 c).After-unbegun_first-first) w.list_weight-next.ensures (let a = w.at-is in omega arith)
    ])

-- no weight is left
pub returns : goal.returns
unfolding order_in
returns c =
    let s = c.loop-w.invariant c.requires in
    let room = c.if-room-at-2.false in
    elim c.loop-w-test.branch [
      | else-loop-w-test w ↦ rw (w.at-is, w.paths-is, w.plain-is) (filled (left (goal.at.returns c).After-clear-3) (ended s (omega arith)))
      | then-loop-w-test+then-room-at w ↦ absurd (let a = w.at-is in let past = w.if-room-at.true in omega arith)
    ]
