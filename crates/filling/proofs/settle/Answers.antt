-- Sorted and counted where the table took the words, or left alone.
use mathlib.Core.Path.{◌∙◌}
use Rattle.filling.proofs.Settled.{settled_full, settled_sorted}
use Rattle.filling.proofs.settle.Goals as goal

pub returns-then-paths-next : goal.returns-then-paths-next
returns-then-paths-next c = settled_full _ _ _ _ _ c.if-paths-next.true

pub returns : goal.returns
returns c = let t = settled_sorted _ _ _ _ _ c.if-paths-next.false in (c.sort.ensures ∙ t.0, t.1)
