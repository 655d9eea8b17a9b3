-- The fields are the call's.
use mathlib.Core.Path.{refl}
use Rattle.order.specs.Answers.{order_in}
use Rattle.search.proofs.of_own_length.Goals as goal

pub returns-clause-call : goal.returns-clause-call
unfolding order_in
returns-clause-call c = refl
