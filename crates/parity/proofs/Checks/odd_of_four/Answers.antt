-- The four added up.
use native.Mathlib.Omega.{arith}
use Rattle.parity.specs.Model.Parity.{odd_of_four}
use Rattle.parity.proofs.Checks.odd_of_four.Goals as goal

pub returns : goal.returns
unfolding odd_of_four
returns c = omega arith
