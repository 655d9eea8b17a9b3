use native.Mathlib.Omega.{arith}
use Prim.Native.Nat.{◌+◌, ◌-◌, ◌*◌}
use Rattle.needed.proofs.Filling.{least_to_small, pack_fits, pack_start, pack_turn}
use Rattle.needed.proofs.tables.pack.Goals as goal

pub loop-k-init : goal.loop-k-init
loop-k-init c = pack_start _ _ _ _

pub overflow_mul-word : goal.overflow_mul-word
overflow_mul-word c = let l = c.loop-k in let f = pack_fits _ _ _ l.k _ l.word (omega arith) (omega arith) l.invariant in omega arith

pub overflow_add-word : goal.overflow_add-word
overflow_add-word c =
    let l = c.loop-k in
    let a = c.args in
    let f = pack_fits _ _ _ l.k _ l.word (omega arith) (omega arith) l.invariant in
    let s = least_to_small a.work.now a.i a.t (a.q * 8 + (l.k - 1)) in
    let e = c.least_to.ensures in
    omega arith

pub loop-k-preserved : goal.loop-k-preserved
loop-k-preserved c = pack_turn _ _ _ _ _ _ _ (omega arith) (omega arith) c.loop-k.invariant c.least_to.ensures
