-- The test.
use mathlib.Core.Path.{refl}
use Rattle.order.specs.Answers.{order_in}
use Rattle.code.specs.Links.{terminated}
use Rattle.code.proofs.link.is_terminated.Goals as goal

pub returns : goal.returns
unfolding terminated order_in
returns c = refl
