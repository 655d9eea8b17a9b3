-- Two tests, one after the other.
use native.Mathlib.Omega.{arith}
use Rattle.std.proofs.lemmas.Bool.Decides.{nat_tests}
use Rattle.order.specs.Order.{length_right}
use Rattle.order.proofs.Records.{length-told}
use Rattle.order.proofs.record.length_right.Goals as goal

pub returns-then-bytes-ge2 : goal.returns-then-bytes-ge2
returns-then-bytes-ge2 c = length-told _ _ c.if-bytes-ge2.true c.two_at.ensures

pub returns-else-bytes-ge2 : goal.returns-else-bytes-ge2
unfolding length_right
returns-else-bytes-ge2 c = grind (arith, nat_tests)
