use native.Mathlib.Omega.{arith}
use mathlib.Core.Path.{◌∙◌}
use Rattle.needed.proofs.Filling.{weights_again, weights_end}
use Rattle.needed.proofs.tables.fill_weights.Goals as goal

pub loop-x-preserved : goal.loop-x-preserved
loop-x-preserved c = weights_again _ _ _ _ _ (omega arith) c.step_weight.ensures c.loop-x.invariant

pub returns : goal.returns
returns c = let l = c.loop-x in weights_end _ l.x _ (omega arith) ∙ l.invariant
