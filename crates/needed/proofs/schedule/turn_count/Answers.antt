-- The states, times the steps: at most 256 and most_steps.
use native.Mathlib.Omega.{arith}
use native.Mathlib.Nat.{mul-le-mul_right}
use Prim.Native.Nat.{ℕ, ◌*◌, ◌^◌, ◌≤◌, ◌<◌}
use lib.Pow.{pow_mono}
use Rattle.order.specs.Answers.{order_in}
use Rattle.code.specs.Model.Steps.{most_steps}
use Rattle.code.proofs.Links.{few_steps, states_le}
use Rattle.needed.proofs.schedule.turn_count.Goals as goal

product_fits : (a n : ℕ) → a ≤ 256 → n ≤ most_steps → a * n < 2 ^ 64
product_fits a n h g =
    let first : a * n ≤ 256 * n = mul-le-mul_right n h in
    omega arith

pub overflow_mul-result : goal.overflow_mul-result
overflow_mul-result c =
    let o = order_in c.args.link.order in
    let code = c.args.link.accepted in
    let few : 2 ^ o.v ≤ 2 ^ 8 = pow_mono code.small_memory in
    let some = states_le o in
    let states = c.event_states.ensures in
    let most = few_steps o code in
    let steps = c.steps.ensures in
    record { fits = product_fits _ _ (omega arith) (omega arith) }
