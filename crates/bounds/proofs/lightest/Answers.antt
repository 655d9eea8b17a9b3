use native.Mathlib.Omega.{arith}
use Rattle.bounds.proofs.ZeroLoops.{lightest_begin, lightest_again}
use Rattle.bounds.proofs.lightest.Goals as goal

pub loop-l-init : goal.loop-l-init
loop-l-init c = lightest_begin _

pub loop-l-preserved : goal.loop-l-preserved
loop-l-preserved c = let l = c.loop-l in lightest_again _ l.l _ _ (omega arith) l.invariant c.min-least.ensures
