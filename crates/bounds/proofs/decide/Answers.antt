-- The cases, one by one.
use Rattle.std.proofs.Common.{arith}
use Rattle.std.proofs.lemmas.Bool.Decides.{nat_tests}
use Rattle.bounds.specs.Model.Tables.{decided}
use Rattle.bounds.proofs.decide.Goals as goal

pub returns-then-begun-e : goal.returns-then-begun-e
unfolding decided
returns-then-begun-e c = grind (arith, nat_tests)

pub returns-then-begun-e-2 : goal.returns-then-begun-e-2
unfolding decided
returns-then-begun-e-2 c = grind (arith, nat_tests)

pub returns-then-e-begun : goal.returns-then-e-begun
unfolding decided
returns-then-e-begun c = grind (arith, nat_tests)

pub returns-then-begun-e-3 : goal.returns-then-begun-e-3
unfolding decided
returns-then-begun-e-3 c = grind (arith, nat_tests)

pub returns-then-e-work : goal.returns-then-e-work
unfolding decided
returns-then-e-work c = grind (arith, nat_tests)

pub returns : goal.returns
unfolding decided
returns c = grind (arith, nat_tests)
