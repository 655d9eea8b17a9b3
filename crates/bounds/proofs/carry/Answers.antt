use native.Mathlib.Omega.{arith}
use Rattle.bounds.proofs.carry.Invariants.Turns.{carry_again, carry_end}
use Rattle.bounds.proofs.carry.Goals as goal

pub loop-j-preserved : goal.loop-j-preserved
loop-j-preserved c = carry_again _ _ _ _ _ _ _ _ (omega arith) c.max-at.ensures c.loop-j.invariant

pub returns : goal.returns
returns c = let l = c.loop-j in carry_end _ _ _ l.j _ _ _ (omega arith) l.invariant
