-- Each turn lists the words of one state.
use mathlib.Core.Path.{◌∙◌}
use Rattle.chains.proofs.list_weight.Invariants.Turns.{Stage, asks_state, stands_next, all_listed}
use Rattle.chains.proofs.list_weight.Goals as goal

pub list_lighter-next-requires : goal.list_lighter-next-requires
list_lighter-next-requires c =
    let l = c.loop-i in
    let x : Stage c.requires = record { i = l.i; next = l.next; us = l.work; ls = l.paths; stands = l.invariant c.requires } in
    asks_state c.requires x c.loop-i-test.true

pub loop-i-preserved : goal.loop-i-preserved
loop-i-preserved c = λ ask.
    let l = c.loop-i in
    let x : Stage ask = record { i = l.i; next = l.next; us = l.work; ls = l.paths; stands = l.invariant ask } in
    stands_next ask x c.loop-i-test.true (c.list_lighter-next.auto.work ∙ l.auto.work) (c.list_lighter-next.auto.paths ∙ l.auto.paths) c.list_lighter-next.ensures

pub returns : goal.returns
returns c =
    let l = c.loop-i in
    let x : Stage c.requires = record { i = l.i; next = l.next; us = l.work; ls = l.paths; stands = l.invariant c.requires } in
    all_listed c.requires x c.loop-i-test.false
