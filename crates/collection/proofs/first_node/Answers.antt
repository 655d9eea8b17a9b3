-- A state and a length.
use mathlib.Core.Path.{refl}
use Rattle.collection.specs.Model.Backward.{first}
use Rattle.collection.proofs.first_node.Goals as goal

pub returns : goal.returns
unfolding first
returns c = refl
