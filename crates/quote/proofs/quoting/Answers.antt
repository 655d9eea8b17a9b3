-- The longest length is that which may be quoted.
use Rattle.order.specs.Answers.{order_in}
use Rattle.quote.proofs.quoting.Goals as goal

pub returns-clause-call : goal.returns-clause-call
unfolding order_in
returns-clause-call c = rw c.longest_quoted.ensures
