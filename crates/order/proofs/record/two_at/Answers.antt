-- Two bytes.
use mathlib.Core.Path.{ap₂}
use Prim.Native.Nat.{ℕ, ◌+◌, ◌*◌}
use Rattle.order.specs.Order.{be16}
use Rattle.order.proofs.record.two_at.Goals as goal

pub returns : goal.returns
unfolding be16
returns c = ap₂ (λ (x y : ℕ). x * 256 + y) c.byte_at.ensures.0 c.byte_at-2.ensures.0
