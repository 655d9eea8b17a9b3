use native.Mathlib.Omega.{arith}
use Rattle.bounds.proofs.open_state.Invariants.Turns.{opened_is, reset_again, reset_end}
use Rattle.bounds.proofs.open_state.Goals as goal

pub loop-l-preserved : goal.loop-l-preserved
loop-l-preserved c = reset_again _ _ _ (omega arith) c.loop-l.invariant

pub returns : goal.returns
returns c = let l = c.loop-l in opened_is _ _ _ (reset_end l.l _ _ (omega arith) l.invariant)
