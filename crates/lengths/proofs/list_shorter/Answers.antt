-- Length by length, the shortest first (`Noting.antt`).
use Rattle.std.proofs.Common.{◌≡◌, ℕ, ◌+◌, ◌-◌, ◌<◌, List, length, get_or, reverse, ap, ◌∙◌, arith}
use Rattle.std.proofs.lemmas.Iterator.Adapters.{YieldsList-from_rev_slice}
use Rattle.std.proofs.lemmas.Iterator.Consumers.{YieldsList-turn, YieldsList-end}
use Rattle.std.proofs.lemmas.List.{get_or-reverse, get_or_read, length-reverse, length_push}
use Rattle.std.proofs.lemmas.Result.{err_from_is_err_and}
use Rattle.order.specs.Order.{Order, with_length}
use Rattle.order.specs.Answers.{order_in}
use Rattle.lengths.proofs.Noting.{begun, to_next, after, stopped, ended}
use Rattle.lengths.proofs.list_shorter.Goals as goal
use Rattle.lengths.proofs.list_shorter.Goals.{After-with_length}

-- the order of the next length, as the reversed list gives it
record Next (o : Order) (Ns : List ℕ) (done : ℕ) (q : Order) : Type 0 where
  left : length Ns - done ≡ (length Ns - 1 - done) + 1
  is : q ≡ with_length (get_or Ns (length Ns - 1 - done) 0) o

next : (o : Order) (Ns : List ℕ) (done N : ℕ) (q : Order) → (done < length (reverse Ns)) × (N ≡ get_or (reverse Ns) done N) → q ≡ with_length N o → Next o Ns done q
next o Ns done N q h e =
    let some : done < length Ns = omega (arith, h.0, length-reverse Ns) in
    record { left = omega arith; is = e ∙ ap (λ M. with_length M o) (get_or_read (reverse Ns) done N h.0 h.1 0 ∙ get_or-reverse Ns done 0 some) }

turned : (c : After-with_length) → Next (order_in c.args.order) c.args.lengths.now (length c.loop-bits.yielded) (order_in c.with_length.result)
turned c =
    let Ns = c.args.lengths.now in
    next _ Ns _ _ _ (YieldsList-turn (YieldsList-from_rev_slice Ns cc) c.loop-bits.yielded _ c.loop-bits.yielded_by _ _ c.in-Some.field-0 c.in-Some.is c.next.ensures.steps) c.with_length.ensures

pub loop-bits-init : goal.loop-bits-init
loop-bits-init c = begun _ _ _ _ (omega arith) c.no_firsts-firsts.ensures c.requires.zeros

pub list_next-requires : goal.list_next-requires
list_next-requires c =
    let turn = turned (goal.at.list_next-requires c).After-with_length in
    to_next c.requires c.loop-bits.invariant _ turn.left _ turn.is _ c.loop-bits.auto.plain c.loop-bits.auto.work

pub loop-bits-preserved : goal.loop-bits-preserved
loop-bits-preserved c =
    let turn = turned (goal.at.loop-bits-preserved c).After-with_length in
    after c.requires c.loop-bits.invariant _ turn.left _ turn.is c.loop-bits.auto.paths c.loop-bits.auto.work
    _ (omega (arith, length_push c.loop-bits.yielded c.in-Some.field-0)) _ c.in_ok-firsts.ensures

pub returns-in_err-firsts : goal.returns-in_err-firsts
returns-in_err-firsts c =
    let turn = turned (goal.at.returns-in_err-firsts c).After-with_length in
    let p = err_from_is_err_and c.from_residual.result c.from_residual.ensures.1 in
    rw (p.1, p.2) (stopped c.requires c.loop-bits.invariant _ turn.left _ turn.is c.loop-bits.auto.paths c.loop-bits.auto.work _ c.in_err-firsts.ensures)

pub returns : goal.returns
returns c =
    let Ns = c.args.lengths.now in
    let end = YieldsList-end (YieldsList-from_rev_slice Ns cc) c.loop-bits.yielded _ c.loop-bits.yielded_by _ _ c.in-None.is c.next.ensures.steps in
    ended _ _ _ _ (omega (arith, end.1, length-reverse Ns)) c.loop-bits.invariant
