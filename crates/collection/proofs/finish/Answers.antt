-- The node with the length at hand.
use mathlib.Core.Path.{refl}
use Rattle.collection.specs.Model.Backward.{finished}
use Rattle.collection.proofs.finish.Goals as goal

pub returns : goal.returns
unfolding finished
returns c = refl
