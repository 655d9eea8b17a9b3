-- The tests, one by one.
use Rattle.std.proofs.Common.{arith}
use Rattle.std.proofs.lemmas.Bool.Decides.{nat_tests}
use Rattle.bounds.specs.Model.Tables.{is_zero_loop}
use Rattle.bounds.proofs.is_zero_loop.Goals as goal

pub returns-then-e-eq0-2 : goal.returns-then-e-eq0-2
unfolding is_zero_loop
returns-then-e-eq0-2 c = grind (arith, nat_tests)

pub returns-else-e-eq0-2 : goal.returns-else-e-eq0-2
unfolding is_zero_loop
returns-else-e-eq0-2 c = grind (arith, nat_tests)
