-- The zero loop alone, two events of one step, or no zero loop.
use Rattle.std.proofs.Common.{arith}
use Rattle.std.proofs.lemmas.Bool.Decides.{nat_tests}
use Rattle.bounds.specs.Model.Tables.{light_of}
use Rattle.bounds.proofs.light_of.Goals as goal

pub returns-then-work-from : goal.returns-then-work-from
unfolding light_of
returns-then-work-from c = grind (arith, nat_tests)

pub returns : goal.returns
unfolding light_of
returns c = grind (arith, nat_tests)
