use mathlib.Core.Path.{◌≡◌, ap₂, ◌∙◌}
use Prim.Native.Nat.{ℕ}
use native.Mathlib.Omega.{arith}
use Rattle.order.specs.Answers.{order_in}
use Rattle.code.specs.Trellis.{walk}
use Rattle.code.specs.Model.Window.{last_state}
use Rattle.code.proofs.Windows.{later_none, later_more}
use Rattle.code.proofs.window.last_state.Goals as goal

pub overflow_sub-order : goal.overflow_sub-order
unfolding order_in
overflow_sub-order c = omega (arith, c.args.link.accepted.long_enough)

pub loop-init : goal.loop-init
loop-init c = later_none _

pub moved-window-requires : goal.moved-window-requires
unfolding order_in
moved-window-requires c =
    let at = c in
    rw at.loop.invariant.memory at.args.link.accepted.small_memory

pub loop-preserved : goal.loop-preserved
loop-preserved c = later_more c.loop.invariant c.moved-window.ensures

pub returns : goal.returns
unfolding last_state
returns c =
    let at = c in
    let start = at in
    let v : ℕ = start.args.link.order.v in
    let all : at.loop.counter ≡ v = omega arith in
    at.loop.invariant.state ∙ ap₂ (λ (k x : ℕ). walk v k 0 x) all at.shift_down.ensures
