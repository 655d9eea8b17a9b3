-- Two tests, one after the other.
use native.Mathlib.Omega.{arith}
use Rattle.std.proofs.lemmas.Bool.Decides.{nat_tests}
use Rattle.order.specs.Order.{count_right}
use Rattle.order.proofs.Records.{count-told}
use Rattle.order.proofs.record.count_right.Goals as goal

pub returns-then-bytes-ge4 : goal.returns-then-bytes-ge4
returns-then-bytes-ge4 c = count-told _ _ _ c.if-bytes-ge4.true c.byte_at.ensures.0 c.two_at.ensures

pub returns-else-bytes-ge4 : goal.returns-else-bytes-ge4
unfolding count_right
returns-else-bytes-ge4 c = grind (arith, nat_tests)
