-- What leaves the high half comes into the low one.
use native.Mathlib.Omega.{arith}
use Rattle.poly.specs.Word.{number}
use Rattle.poly.proofs.Shifts.{down_low_fits, down_halves, down_none, down_high, down_past}
use Rattle.poly.proofs.word.shift_down.Goals as goal

pub returns-then-k-eq0 : goal.returns-then-k-eq0
returns-then-k-eq0 c = down_none (number c.args.w) c.args.k (omega arith)

pub overflow_add-result : goal.overflow_add-result
overflow_add-result c = let a = c.args in record { fits = down_low_fits a.w.high a.w.low a.k (omega arith) (omega arith) }

pub returns-then-k-lt64 : goal.returns-then-k-lt64
returns-then-k-lt64 c = let a = c.args in down_halves a.w.high a.w.low a.k (omega arith)

pub returns-then-k-lt128 : goal.returns-then-k-lt128
returns-then-k-lt128 c = let a = c.args in down_high a.w.high a.w.low a.k (omega arith) (omega arith)

pub returns : goal.returns
returns c = let a = c.args in down_past a.w.high a.w.low a.k (omega arith) (omega arith) (omega arith)
