-- A power of two up to 2 ^ 12 and an even number below it, and 1: far below 2 ^ 64.
use native.Mathlib.Omega.{arith}
use Prim.Native.Nat.{◌-◌}
use Rattle.choice.proofs.Candidates.{power_small}
use Rattle.choice.proofs.candidate.Goals as goal

pub overflow_mul-result : goal.overflow_mul-result
overflow_mul-result c = omega (arith, power_small (c.args.m - 1) (omega arith))

pub overflow_add-result : goal.overflow_add-result
overflow_add-result c = omega (arith, power_small c.args.m (omega arith), power_small (c.args.m - 1) (omega arith))

pub overflow_add-result-2 : goal.overflow_add-result-2
overflow_add-result-2 c = omega (arith, power_small c.args.m (omega arith), power_small (c.args.m - 1) (omega arith))
