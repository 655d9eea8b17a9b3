-- No room, the next event of the same length, or the next length that fits.
use Rattle.std.proofs.Common.{arith}
use Rattle.std.proofs.lemmas.Bool.Decides.{nat_tests}
use Rattle.bounds.specs.Model.Tables.{following}
use Rattle.bounds.proofs.follow.Goals as goal

pub returns-then-room-at : goal.returns-then-room-at
unfolding following
returns-then-room-at c = grind (arith, nat_tests)

pub returns-then-k-work : goal.returns-then-k-work
unfolding following
returns-then-k-work c = grind (arith, nat_tests)

pub returns : goal.returns
unfolding following
returns c = grind (arith, nat_tests)
