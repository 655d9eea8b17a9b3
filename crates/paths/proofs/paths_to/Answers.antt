use Prim.Native.Nat.{ℕ, ◌<◌, zero-le}
use native.Mathlib.Omega.{arith}
use lib.ListN.{length-take}
use lib.Seq.{get_or-take}
use Rattle.paths.proofs.Parts.{sum_none, sum_more, sum_past, sum-all}
use Rattle.paths.proofs.paths_to.Goals as goal

pub loop-count-init : goal.loop-count-init
loop-count-init c = record { summed = sum_none _; small = zero-le }

pub returns-then-limit-total : goal.returns-then-limit-total
returns-then-limit-total c =
    let l = c.loop-count in
    let a = c.args in
    let h : l.count-index < a.w = omega (arith, length-take {A = ℕ}) in
    sum_past a.counts.now l.count-index a.w l.total a.limit h l.invariant.summed (rw get_or-take at c.if-limit-total.true) l.invariant.small

pub loop-count-preserved : goal.loop-count-preserved
loop-count-preserved c =
    let l = c.loop-count in
    let a = c.args in
    let h : l.count-index < a.w = omega (arith, length-take {A = ℕ}) in
    let more = sum_more a.counts.now l.count-index l.total a.limit l.invariant.summed (rw get_or-take at c.if-limit-total.false) l.invariant.small in
    rw get_or-take (record { summed = more.0; small = more.1 })

pub returns : goal.returns
returns c =
    let l = c.loop-count in
    let a = c.args in
    sum-all a.counts.now l.count-index a.w l.total a.limit (omega (arith, length-take {A = ℕ})) l.invariant.summed l.invariant.small
