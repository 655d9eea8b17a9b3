-- A one shifted by k is 2^k, below 64.
use native.Mathlib.Omega.{arith}
use Rattle.poly.proofs.Shifts.{shl_one}
use Rattle.poly.proofs.word.power.Goals as goal

pub returns : goal.returns
returns c = shl_one c.args.k (omega arith)
