-- By the kind of link.
use mathlib.Core.Path.{refl, sym, ◌∙◌}
use Rattle.order.specs.Answers.{order_in}
use Rattle.code.proofs.Windows.{begins_terminated, begins_tail_biting}
use Rattle.code.proofs.window.first_window.Goals as goal

pub returns-then-is_terminated : goal.returns-then-is_terminated
unfolding order_in
returns-then-is_terminated c =
    let kind = c.is_terminated.ensures in
    record { memory = refl; state = sym (begins_terminated _ _ (sym kind ∙ c.if-is_terminated.true)); rest = refl }

pub returns-else-is_terminated : goal.returns-else-is_terminated
unfolding order_in
returns-else-is_terminated c =
    let kind = c.is_terminated.ensures in
    record { memory = refl; state = c.last_state-state.ensures ∙ sym (begins_tail_biting _ _ (sym kind ∙ c.if-is_terminated.false)); rest = refl }
