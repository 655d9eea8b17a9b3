-- The input number of an event fits two halves of 64 bits, even where all other steps of a word come before it (`whole_input`).
-- Assumes nothing.
use Prim.Native.Nat.{◌-◌, ◌*◌, ◌^◌, ◌<◌}
use native.Mathlib.Omega.{arith}
use Rattle.order.specs.Order.{Order}
use Rattle.order.specs.Model.Accepted.{AcceptedCode}
use Rattle.code.specs.Links.{steps_of}
use Rattle.code.proofs.Meets.{of_first_meets}
use Rattle.code.proofs.Ends.{inputs_fit}
use Rattle.events.specs.Events.{ErrorEvent}
use Rattle.events.proofs.Listed.{Listed}

pub whole_input : (o : Order) → AcceptedCode o → {e : ErrorEvent} → Listed o e → e.input * 2 ^ (steps_of o - e.length) < 2 ^ 128
whole_input o acc {e} listed =
    let within = listed.at_most_steps in
    inputs_fit o acc e.state e.state e.length e.input listed.state_fits listed.input_fits
    (of_first_meets o.v e.state e.length e.state e.input listed.meets).arrives (steps_of o - e.length) (omega arith)
