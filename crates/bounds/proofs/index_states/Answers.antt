-- The places, then the number of steps.
use mathlib.Core.Path.{refl}
use Rattle.bounds.specs.Model.Tables.{indexed}
use Rattle.bounds.proofs.index_states.Goals as goal

pub returns : goal.returns
unfolding indexed
returns c = rw c.carry.ensures refl
