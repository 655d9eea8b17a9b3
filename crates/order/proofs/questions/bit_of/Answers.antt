-- A bit of a 64-bit number, and none past it.
use native.Mathlib.Omega.{arith}
use mathlib.Core.Path.{refl, sym}
use Rattle.poly.specs.Poly.{bit}
use Rattle.poly.proofs.Bits.{bit_above}
use Rattle.order.proofs.questions.bit_of.Goals as goal

pub returns-then-j-lt64 : goal.returns-then-j-lt64
unfolding bit
returns-then-j-lt64 c = refl

pub returns-else-j-lt64 : goal.returns-else-j-lt64
returns-else-j-lt64 c = sym (bit_above _ 64 _ (omega arith) (omega arith))
