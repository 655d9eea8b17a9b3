-- Each turn of `chain` joins one event; `join` goes on where the event does not end a chain. What they ask and leave is in Invariants/.
use native.Mathlib.Omega.{arith}
use Rattle.chains.proofs.+chain_join.Invariants.Standing.{Stage, stands_first, asks_join, asks_follow, stands_next, nearer, all_found}
use Rattle.chains.proofs.+chain_join.Invariants.Joined.{none_found, asks_extend, complete_joins, asks_emit, last_found, continued_joins, asks_chain, more_found, fewer-steps}
use Rattle.chains.proofs.+chain_join.Goals as goal

pub chain-loop-k-init : goal.chain-loop-k-init
chain-loop-k-init t c = λ ask. stands_first ask c.begin-k.ensures

pub chain-join-next-requires : goal.chain-join-next-requires
chain-join-next-requires t c =
    let l = c.loop-k in
    let x : Stage c.requires = record { k = l.k; p = l.next; l = l.paths; stands = l.invariant c.requires } in
    (omega arith, asks_join c.requires x (omega arith) c.event_at-e.ensures)

pub chain-follow-after-requires : goal.chain-follow-after-requires
chain-follow-after-requires t c =
    let l = c.loop-k in
    let x : Stage c.requires = record { k = l.k; p = l.next; l = l.paths; stands = l.invariant c.requires } in
    asks_follow c.requires x (omega arith) c.event_at-e.ensures (omega arith)

pub chain-loop-k-smaller : goal.chain-loop-k-smaller
chain-loop-k-smaller t c =
    let l = c.loop-k in
    let x : Stage c.requires = record { k = l.k; p = l.next; l = l.paths; stands = l.invariant c.requires } in
    rw c.end_of-end.ensures (nearer c.requires x (omega arith) c.event_at-e.ensures c.join-next.ensures c.follow-after.ensures)

pub chain-loop-k-preserved : goal.chain-loop-k-preserved
chain-loop-k-preserved t c = λ ask.
    let l = c.loop-k in
    let x : Stage ask = record { k = l.k; p = l.next; l = l.paths; stands = l.invariant ask } in
    stands_next ask x (omega arith) c.event_at-e.ensures c.join-next.ensures c.follow-after.ensures

pub chain-returns : goal.chain-returns
chain-returns t c =
    let l = c.loop-k in
    let x : Stage c.requires = record { k = l.k; p = l.next; l = l.paths; stands = l.invariant c.requires } in
    all_found c.requires x (omega arith)

pub join-returns-in-Skipped : goal.join-returns-in-Skipped
join-returns-in-Skipped t c = none_found c.requires c.in-Skipped.ensures

pub join-extend-whole-requires : goal.join-extend-whole-requires
join-extend-whole-requires t c = let last = c.in-Complete.ensures in asks_extend c.requires (complete_joins c.requires last)

pub join-emit-requires : goal.join-emit-requires
join-emit-requires t c = asks_emit c.requires c.in-Complete.ensures c.extend-whole.ensures

pub join-returns-in-Complete : goal.join-returns-in-Complete
join-returns-in-Complete t c = last_found c.requires c.in-Complete.ensures c.extend-whole.ensures c.emit.ensures

pub join-extend-longer-requires : goal.join-extend-longer-requires
join-extend-longer-requires t c = let more = c.in-Continued.ensures in asks_extend c.requires (continued_joins c.requires more)

pub join-chain-requires : goal.join-chain-requires
join-chain-requires t c =
    let fewer = fewer-steps c.requires c.in-Continued.ensures c.extend-longer.ensures in
    (omega arith, asks_chain c.requires c.in-Continued.ensures c.extend-longer.ensures)

pub join-returns-in-Continued : goal.join-returns-in-Continued
join-returns-in-Continued t c = more_found c.requires c.in-Continued.ensures c.extend-longer.ensures c.chain.ensures
