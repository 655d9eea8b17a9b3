use mathlib.Core.Path.{◌∙◌}
use native.Mathlib.Nat.{zero-add}
use native.Mathlib.Omega.{arith}
use Prim.Native.Nat.{◌<◌}
use Rattle.code.proofs.Weights.{tapped_lt, step_again, step_end}
use Rattle.code.proofs.encoder.step_weight.Goals as goal

pub loop-g-init : goal.loop-g-init
loop-g-init c = record { small = omega arith; adds = zero-add _ }

pub overflow_add-sum : goal.overflow_add-sum
overflow_add-sum c = let digit : c.parity.result < 2 = rw c.parity.ensures (tapped_lt _ _) in omega arith

pub loop-g-preserved : goal.loop-g-preserved
loop-g-preserved c =
    let l = c.loop-g in
    let digit : c.parity.result < 2 = rw c.parity.ensures (tapped_lt _ _) in
    record { small = omega arith; adds = step_again _ _ l.g-index _ _ (omega arith) l.invariant.adds (c.from-sum.ensures ∙ c.parity.ensures) }

pub returns : goal.returns
returns c = step_end _ _ c.loop-g.g-index _ (omega arith) c.loop-g.invariant.adds
