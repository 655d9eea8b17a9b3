-- No step is joined yet.
use mathlib.Core.Path.{refl}
use Rattle.chains.specs.Model.Chaining.{unbegun}
use Rattle.chains.proofs.unbegun.Goals as goal

pub returns : goal.returns
unfolding unbegun
returns c = refl
