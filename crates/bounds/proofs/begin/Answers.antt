-- No room, or the first length that fits.
use Rattle.std.proofs.Common.{arith}
use Rattle.std.proofs.lemmas.Bool.Decides.{nat_tests}
use Rattle.bounds.specs.Model.Tables.{beginning}
use Rattle.bounds.proofs.begin.Goals as goal

pub returns-then-room-at : goal.returns-then-room-at
unfolding beginning
returns-then-room-at c = grind (arith, nat_tests)

pub returns : goal.returns
unfolding beginning
returns c = grind (arith, nat_tests)
