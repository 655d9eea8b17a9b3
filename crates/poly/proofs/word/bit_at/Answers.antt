-- `bit_at` is the word's bit: of the low half, of the high half, or past both.
use native.Mathlib.Omega.{arith}
use Rattle.poly.proofs.Halves.{bit_of_low, bit_of_high, bit_past}
use Rattle.poly.proofs.word.bit_at.Goals as goal

pub returns-then-i-lt64 : goal.returns-then-i-lt64
returns-then-i-lt64 c = bit_of_low _ c.args.w.high _ (omega arith)

pub returns-then-i-lt128 : goal.returns-then-i-lt128
returns-then-i-lt128 c = bit_of_high _ _ c.args.w.low (omega arith) (omega arith)

pub returns : goal.returns
returns c = bit_past _ c.args.w.high c.args.w.low (omega arith) (omega arith) (omega arith)
