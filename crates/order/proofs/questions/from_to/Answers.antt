use native.Mathlib.Omega.{arith}
use Rattle.std.proofs.lemmas.Bool.Decides.{nat_tests}
use Rattle.order.specs.Questions.{from_to}
use Rattle.order.proofs.questions.from_to.Goals as goal

pub returns-then-low-x : goal.returns-then-low-x
unfolding from_to
returns-then-low-x c = grind (arith, nat_tests)

pub returns-else-low-x : goal.returns-else-low-x
unfolding from_to
returns-else-low-x c = grind (arith, nat_tests)
