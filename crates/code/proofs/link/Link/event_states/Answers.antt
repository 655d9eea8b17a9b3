-- By the kind.
use mathlib.Core.Path.{sym, ◌∙◌}
use native.Mathlib.Omega.{arith}
use Rattle.order.specs.Answers.{order_in}
use Rattle.code.proofs.Links.{states_terminated, states_tail_biting}
use Rattle.code.proofs.link.Link.event_states.Goals as goal

pub returns-then-is_terminated : goal.returns-then-is_terminated
returns-then-is_terminated c = sym (states_terminated _ (sym c.is_terminated.ensures ∙ c.if-is_terminated.true))

pub power-requires : goal.power-requires
unfolding order_in
power-requires c = omega (arith, c.args.self.accepted.small_memory)

pub returns-else-is_terminated : goal.returns-else-is_terminated
unfolding order_in
returns-else-is_terminated c = c.power.ensures ∙ sym (states_tail_biting _ (sym c.is_terminated.ensures ∙ c.if-is_terminated.false))
