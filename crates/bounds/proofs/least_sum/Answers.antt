use native.Mathlib.Omega.{arith}
use Rattle.bounds.proofs.least_sum.Invariants.Turns.{sum_begin, sum_again}
use Rattle.bounds.proofs.least_sum.Goals as goal

pub loop-l-init : goal.loop-l-init
loop-l-init c = sum_begin _ _

pub loop-l-preserved : goal.loop-l-preserved
loop-l-preserved c = let l = c.loop-l in sum_again _ _ l.l _ _ (omega arith) l.invariant c.min-least.ensures
