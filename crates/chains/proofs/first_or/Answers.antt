-- The first event's length where there is one, or else this one's.
use Rattle.std.proofs.Common.{arith}
use Rattle.paths.specs.Model.Joining.{first_or}
use Rattle.chains.proofs.first_or.Goals as goal

pub returns-then-first-eq0 : goal.returns-then-first-eq0
unfolding first_or
returns-then-first-eq0 c = grind arith

pub returns : goal.returns
unfolding first_or
returns c = grind arith
