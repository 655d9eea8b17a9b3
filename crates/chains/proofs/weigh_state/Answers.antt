-- Where the state has events its first is looked at.
use Rattle.std.proofs.Common.{arith}
use Rattle.std.proofs.lemmas.Bool.Decides.{nat_tests}
use Rattle.chains.specs.Model.Chaining.{light_from, weighed}
use Rattle.chains.proofs.weigh_state.Goals as goal

pub returns-then-from-to : goal.returns-then-from-to
unfolding weighed light_from
returns-then-from-to c = grind (arith, nat_tests)

pub returns : goal.returns
unfolding weighed light_from
returns c = grind (arith, nat_tests)
