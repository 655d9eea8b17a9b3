-- The row of an order that was read, or the refusal of a record.
use mathlib.Core.Path.{ap, ◌∙◌}
use Rattle.text.specs.Text.{refusal_text}
use Rattle.print.proofs.Read.{read_refused, read_accepted}
use Rattle.print.proofs.Shown.{as_text}
use Rattle.print.proofs.print.Goals as goal

pub print_order-requires : goal.print_order-requires
print_order-requires c = ((read_accepted _ _ c.in-Ok.ensures).0, c.requires)

pub returns-in-Ok : goal.returns-in-Ok
returns-in-Ok c = as_text (read_accepted _ _ c.in-Ok.ensures).1 c.print_order.ensures

pub returns-in-Err : goal.returns-in-Err
returns-in-Err c = as_text (ap refusal_text c.from.ensures ∙ read_refused _ _ c.in-Err.ensures) c.lay_refusal.ensures
