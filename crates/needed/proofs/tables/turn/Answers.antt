-- The length, and at the first length of a state its least weights.
use mathlib.Core.Path.{◌∙◌}
use Rattle.needed.proofs.Filling.{turned-first, turned_later}
use Rattle.needed.proofs.tables.turn.Goals as goal

pub returns-then-step-eq0 : goal.returns-then-step-eq0
returns-then-step-eq0 c = c.fill_rows.ensures ∙ turned-first _ _ _ _ c.if-step-eq0.true

pub returns-else-step-eq0 : goal.returns-else-step-eq0
returns-else-step-eq0 c = turned_later _ _ _ _ c.if-step-eq0.false
