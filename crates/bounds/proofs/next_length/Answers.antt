use native.Mathlib.Omega.{arith}
use Rattle.bounds.proofs.next_length.Invariants.Turns.{next_begin, next-found, next_again, next_end}
use Rattle.bounds.proofs.next_length.Goals as goal

pub loop-k-init : goal.loop-k-init
loop-k-init c = next_begin _ _ _ _

pub returns-then-work-event : goal.returns-then-work-event
returns-then-work-event c = let l = c.loop-k in next-found _ _ _ l.k _ (omega arith) c.if-work-event.true l.invariant

pub loop-k-preserved : goal.loop-k-preserved
loop-k-preserved c = let l = c.loop-k in next_again _ _ _ l.k _ (omega arith) (omega arith) l.invariant

pub returns : goal.returns
returns c = let l = c.loop-k in next_end _ _ _ l.k _ (omega arith) l.invariant
