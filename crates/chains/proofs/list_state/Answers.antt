-- What each call asks, and what they leave in the end, as Invariants/Steps.antt says.
use Rattle.chains.proofs.list_state.Invariants.Steps.{bounds_are, asks_fitting, asks_survey, asks_close, asks_weigh, weighed_is_state, asks_unbegun, asks_chain, listed_state}
use native.Mathlib.Omega.{arith}
use Rattle.chains.proofs.list_state.Goals as goal

pub fitting_end-to-requires : goal.fitting_end-to-requires
fitting_end-to-requires c = asks_fitting c.requires c.first_of-from.ensures c.first_of-last.ensures

pub survey-requires : goal.survey-requires
survey-requires c =
    let b = bounds_are _ _ _ c.first_of-from.ensures c.first_of-last.ensures c.bits_of-bits.ensures c.fitting_end-to.ensures in
    (omega arith, asks_survey c.requires b)

pub close_state-requires : goal.close_state-requires
close_state-requires c =
    let b = bounds_are _ _ _ c.first_of-from.ensures c.first_of-last.ensures c.bits_of-bits.ensures c.fitting_end-to.ensures in
    asks_close c.requires b c.open_state.ensures c.survey.ensures

pub weigh_state-requires : goal.weigh_state-requires
weigh_state-requires c =
    let b = bounds_are _ _ _ c.first_of-from.ensures c.first_of-last.ensures c.bits_of-bits.ensures c.fitting_end-to.ensures in
    (asks_weigh c.requires b c.open_state.ensures c.survey.ensures c.close_state.ensures, asks_survey c.requires b)

pub unbegun-begun-requires : goal.unbegun-begun-requires
unbegun-begun-requires c =
    let b = bounds_are _ _ _ c.first_of-from.ensures c.first_of-last.ensures c.bits_of-bits.ensures c.fitting_end-to.ensures in
    let is_state = weighed_is_state c.requires b c.open_state.ensures c.survey.ensures c.close_state.ensures c.weigh_state.ensures in
    asks_unbegun c.requires is_state

pub chain-requires : goal.chain-requires
chain-requires c =
    let b = bounds_are _ _ _ c.first_of-from.ensures c.first_of-last.ensures c.bits_of-bits.ensures c.fitting_end-to.ensures in
    let is_state = weighed_is_state c.requires b c.open_state.ensures c.survey.ensures c.close_state.ensures c.weigh_state.ensures in
    asks_chain c.requires is_state c.unbegun-begun.ensures

pub returns : goal.returns
returns c =
    let b = bounds_are _ _ _ c.first_of-from.ensures c.first_of-last.ensures c.bits_of-bits.ensures c.fitting_end-to.ensures in
    let is_state = weighed_is_state c.requires b c.open_state.ensures c.survey.ensures c.close_state.ensures c.weigh_state.ensures in
    listed_state c.requires is_state c.unbegun-begun.ensures c.chain.ensures
