-- Every field but the length is the order's.
use mathlib.Core.Path.{refl}
use Rattle.order.specs.Order.{with_length}
use Rattle.order.specs.Answers.{generator_in, order_in}
use Rattle.order.proofs.record.with_length.Goals as goal

pub returns : goal.returns
unfolding with_length order_in generator_in
returns c = refl
