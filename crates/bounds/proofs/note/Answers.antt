-- Three stores, the last one the smaller of two weights.
use mathlib.Core.Path.{refl}
use Rattle.bounds.specs.Model.Tables.{noted}
use Rattle.bounds.proofs.note.Goals as goal

pub returns : goal.returns
unfolding noted
returns c = rw c.min.ensures refl
