-- The half that 2^k lies in decides.
use native.Mathlib.Omega.{arith}
use Rattle.poly.proofs.Shifts.{below_low, not_below_low, below_high, below_all}
use Rattle.poly.proofs.word.is_below.Goals as goal

pub returns-then-w-eq0 : goal.returns-then-w-eq0
returns-then-w-eq0 c = let a = c.args in below_low a.w.high _ a.k _ (omega arith) c.power.ensures

pub returns-then-k-lt64 : goal.returns-then-k-lt64
returns-then-k-lt64 c = let a = c.args in not_below_low a.w.high a.w.low a.k (omega arith) (search)

pub returns-then-k-lt128 : goal.returns-then-k-lt128
returns-then-k-lt128 c = let a = c.args in below_high a.w.high a.w.low a.k _ (omega arith) (omega arith) c.power-then-k-lt128.ensures

pub returns : goal.returns
returns c = let a = c.args in below_all a.w.high a.w.low a.k (omega arith) (omega arith) (omega arith)
