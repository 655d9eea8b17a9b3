use mathlib.Core.Path.{refl, ap, ◌∙◌}
use mathlib.Core.List.{List}
use Prim.Native.Nat.{ℕ, ◌+◌, ◌*◌}
use native.Mathlib.Omega.{arith}
use lib.ListN.{set}
use Rattle.parity.proofs.Rows.{rows_none, rows_next, rows_all}
use Rattle.parity.proofs.Checks.new.Goals as goal

pub loop-i-init : goal.loop-i-init
loop-i-init c = rows_none _ _ _

pub loop-i-preserved : goal.loop-i-preserved
loop-i-preserved c =
    let l = c.loop-i in
    let w = c.check_row-row.result in
    ap (λ (t : List ℕ). set (set t (2 * l.i) w.low) (2 * l.i + 1) w.high) l.invariant
    ∙ rows_next _ _ _ l.i w.high w.low (omega (arith, c.check_row-row.type_inv)) (omega arith) c.check_row-row.ensures

pub returns : goal.returns
returns c = (c.loop-i.invariant ∙ rows_all _ _ _ _ (omega arith), refl)
