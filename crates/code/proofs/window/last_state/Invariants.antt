-- The invariant: the window after k of the last v bits.
use Rattle.code.specs.Model.Window.{Later}
use Rattle.code.proofs.window.last_state.Given as goal

abbrev pub invariant-loop : goal.invariant-loop
invariant-loop l = Later l.initial.window l.counter l.window
