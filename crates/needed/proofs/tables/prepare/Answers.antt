-- The threshold, the highest bit and the weights.
use native.Mathlib.Omega.{arith}
use Rattle.needed.proofs.Filling.{prepared_is}
use Rattle.needed.proofs.tables.prepare.Goals as goal

pub returns : goal.returns
returns c = prepared_is _ _ _ _ _ (omega arith) (omega arith) c.fill_weights.ensures
