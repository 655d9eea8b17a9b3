-- The loop follows the last node before that goes on, and calls for the first where both do.
use Rattle.std.proofs.Common.{◌≡◌, ℕ, List, true, false, sym, subst, arith, rules}
use lib.Dec.{lit<}
use denote.Enum.Bare.{sameb, same_true, same_false}
use Rattle.events.specs.declared.Event.{Event}
use Rattle.collection.specs.contracts.Branches as B
use Rattle.collection.specs.declared.Branches.{Branches}
use Rattle.collection.specs.contracts.Decision as D
use Rattle.collection.specs.declared.Decision.{Decision}
use Rattle.collection.specs.declared.Node.{Node}
use Rattle.collection.proofs.Nodes.{last_before}
use Rattle.collection.proofs.+descend.Invariants.Descent.{Call, Standing, back_by, two_back, low_descent, low_shorter, met_both, met_one, last_left, stage-next, none_left, left_over, one_more}
use Rattle.collection.proofs.+descend.Goals as goal
use Rattle.collection.proofs.+descend.Goals.{After-last_of, then-eq, else-eq}

-- what a test of equality says
is : {a b : Decision} → true ≡ sameb D.the_type a b → a ≡ b
is {a} {b} e = same_true D.the_type (search rules) a b (sym e)

is_not : {a b : Decision} → false ≡ sameb D.the_type a b → a ≡ b → ⊥
is_not {a} {b} e = same_false D.the_type a b (sym e)

both : {a b : Branches} → true ≡ sameb B.the_type a b → a ≡ b
both {a} {b} e = same_true B.the_type (search rules) a b (sym e)

not_both : {a b : Branches} → false ≡ sameb B.the_type a b → a ≡ b → ⊥
not_both {a} {b} e = same_false B.the_type a b (sym e)

standing-as : (c : Call) (e : Node) {p p' : ℕ} {zs zs' : List Event} → zs ≡ zs' → p ≡ p' → Standing c p' e zs' → Standing c p e zs
standing-as c e {p} {p'} {zs} {zs'} is-zs is-p s =
    subst (λ (x : ℕ). Standing c x e zs) (sym is-p) (subst (λ (l : List Event). Standing c p' e l) (sym is-zs) s)

pub step_back-low-requires : goal.step_back-low-requires
step_back-low-requires t c = back_by _ c.loop-what.invariant (is c.loop-what-test.ensures) 0 (lit< tt)

pub step_back-high-requires : goal.step_back-high-requires
step_back-high-requires t c = back_by _ c.loop-what.invariant (is c.loop-what-test.ensures) 1 (lit< tt)

pub ways_on-ways-requires : goal.ways_on-ways-requires
ways_on-ways-requires t c = two_back _ c.loop-what.invariant (is c.loop-what-test.ensures) _ _ c.step_back-low.ensures c.step_back-high.ensures

pub descend-next-requires : goal.descend-next-requires
descend-next-requires t c =
    let more = is c.loop-what-test.ensures in
    let shorter = low_shorter _ c.loop-what.invariant more _ _ c.step_back-low.ensures c.step_back-high.ensures in
    (omega arith, low_descent _ c.loop-what.invariant more _ _ c.step_back-low.ensures c.step_back-high.ensures)

pub loop-what-smaller : goal.loop-what-smaller
loop-what-smaller t c =
    last_left _ c.loop-what.invariant (is c.loop-what-test.ensures) _ _ c.step_back-low.ensures c.step_back-high.ensures _ c.ways_on-ways.ensures _ c.in-Some.ensures

-- where the two ways of a turn meet
stands : (t : ℕ) (c : After-last_of t)
    → Standing record { ys = c.args.work.now; node = c.args.node; l = c.args.table.now; at = c.args.at } c.if-eq.next (last_before c.args.work.now c.loop-what.here) c.if-eq.table
stands t c =
    let more = is c.loop-what-test.ensures in
    elim c.if-eq.branch [
      | then-eq w ↦
          standing-as _ _ w.table-is w.next-is
          (met_both _ c.loop-what.invariant more _ _ c.step_back-low.ensures c.step_back-high.ensures _ c.ways_on-ways.ensures (both w.if-eq.ensures) _ _ w.descend-next.ensures)
      | else-eq w ↦
          standing-as _ _ w.table-is w.next-is
          (met_one _ c.loop-what.invariant more _ _ c.step_back-low.ensures c.step_back-high.ensures _ c.ways_on-ways.ensures (not_both w.if-eq.ensures))
    ]

pub loop-what-preserved : goal.loop-what-preserved
loop-what-preserved t c =
    stage-next _ c.loop-what.invariant (is c.loop-what-test.ensures) _ _ c.step_back-low.ensures c.step_back-high.ensures _ c.ways_on-ways.ensures _ c.in-Some.ensures
    _ _ _ (stands t (goal.at.loop-what-preserved t c).After-last_of) c.decide_last-what.ensures

pub returns-in_default : goal.returns-in_default
returns-in_default t c =
    none_left _ c.loop-what.invariant (is c.loop-what-test.ensures) _ _ c.step_back-low.ensures c.step_back-high.ensures _ c.ways_on-ways.ensures c.in_default.ensures
    _ _ (stands t (goal.at.returns-in_default t c).After-last_of)

pub returns-then-eq-2 : goal.returns-then-eq-2
returns-then-eq-2 t c =
    one_more _ c.loop-what.invariant (is c.if-eq-2.ensures) _ c.finish.ensures _ _ c.push_event.ensures.0 c.push_event.ensures.1

pub returns : goal.returns
returns t c = left_over _ c.loop-what.invariant (is_not c.if-eq-2.ensures) (is_not c.loop-what-test.ensures)
