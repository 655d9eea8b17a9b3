-- A byte of a word.
use mathlib.Core.Path.{refl}
use Rattle.needed.specs.Model.Tables.{need}
use Rattle.needed.proofs.tables.need_at.Goals as goal

pub returns : goal.returns
unfolding need
returns c = refl
