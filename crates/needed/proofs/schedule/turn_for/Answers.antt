-- A turn of as many steps as a word has, with rows of the order's states.
use Prim.Native.Nat.{◌^◌, ◌≤◌}
use native.Mathlib.Omega.{arith}
use lib.Pow.{pow_mono}
use Rattle.order.specs.Answers.{order_in}
use Rattle.code.proofs.Links.{few_steps, some_steps}
use Rattle.needed.proofs.schedule.turn_for.Goals as goal

pub row_words-requires : goal.row_words-requires
unfolding order_in
row_words-requires c = c.args.link.accepted.small_memory

pub turn-requires : goal.turn-requires
unfolding order_in
turn-requires c =
    let acc = c.args.link.accepted in
    let few = few_steps (order_in c.args.link.order) acc in
    let some = some_steps (order_in c.args.link.order) acc in
    let states : 2 ^ c.args.link.order.v ≤ 2 ^ 8 = pow_mono acc.small_memory in
    let rows = c.row_words.ensures in
    let steps = c.steps.ensures in
    (record { tables = c.requires; narrow = omega arith; few = omega arith }, omega arith)
