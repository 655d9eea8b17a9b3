-- By the kind.
use mathlib.Core.Path.{sym, ◌∙◌}
use native.Mathlib.Omega.{arith}
use Rattle.order.specs.Answers.{order_in}
use Rattle.code.proofs.Links.{steps-terminated, steps_tail_biting}
use Rattle.code.proofs.link.Link.steps.Goals as goal

pub overflow_add-result : goal.overflow_add-result
unfolding order_in
overflow_add-result c = let a = c.args.self.accepted in omega (arith, a.small_memory, a.at_most_128)

pub returns-then-is_terminated : goal.returns-then-is_terminated
unfolding order_in
returns-then-is_terminated c = sym (steps-terminated _ (sym c.is_terminated.ensures ∙ c.if-is_terminated.true))

pub returns-else-is_terminated : goal.returns-else-is_terminated
unfolding order_in
returns-else-is_terminated c = sym (steps_tail_biting _ (sym c.is_terminated.ensures ∙ c.if-is_terminated.false))
