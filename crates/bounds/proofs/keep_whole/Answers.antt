-- The least weight of all steps is stored.
use mathlib.Core.Path.{refl}
use Rattle.bounds.specs.Model.Tables.{whole_kept}
use Rattle.bounds.proofs.keep_whole.Goals as goal

pub returns : goal.returns
unfolding whole_kept
returns c = refl
