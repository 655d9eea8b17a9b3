-- The parity of a count of ones.
use mathlib.Core.Path.{refl}
use Rattle.code.specs.Trellis.{tapped}
use Rattle.code.proofs.encoder.parity.Goals as goal

pub returns : goal.returns
unfolding tapped
returns c = refl
