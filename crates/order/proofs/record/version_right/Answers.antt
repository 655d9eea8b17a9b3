-- Two tests, one after the other.
use native.Mathlib.Omega.{arith}
use mathlib.Core.Path.{◌∙◌}
use Rattle.std.proofs.lemmas.Bool.Decides.{nat_tests}
use Rattle.order.specs.Order.{version_right}
use Rattle.order.proofs.Records.{version_told}
use Rattle.order.proofs.record.version_right.Goals as goal

pub returns-then-bytes-ge3 : goal.returns-then-bytes-ge3
returns-then-bytes-ge3 c = c.from_to.ensures ∙ version_told _ _ c.if-bytes-ge3.true c.byte_at.ensures.0

pub returns-else-bytes-ge3 : goal.returns-else-bytes-ge3
unfolding version_right
returns-else-bytes-ge3 c = grind (arith, nat_tests)
