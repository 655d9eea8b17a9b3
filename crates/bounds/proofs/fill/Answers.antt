use native.Mathlib.Omega.{arith}
use Rattle.bounds.proofs.Kept.{small_fill, least_sum_small}
use Rattle.bounds.proofs.fill.Invariants.Turns.{filled_is, fill_again, fill_end}
use Rattle.bounds.proofs.fill.Goals as goal

pub loop-k-preserved : goal.loop-k-preserved
loop-k-preserved c =
    let inv = c.loop-k.invariant in
    let e = c.least_sum-w.ensures in
    record {
      few = inv.few;
      small = small_fill _ _ _ (omega arith) (rw e (least_sum_small _ _ _)) inv.small;
      left = fill_again _ _ _ _ _ (omega arith) e inv.left;
    }

pub returns : goal.returns
returns c = let l = c.loop-k in filled_is _ _ (fill_end _ l.k _ _ (omega arith) l.invariant.left)
