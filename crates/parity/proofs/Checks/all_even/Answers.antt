use mathlib.Core.Path.{◌≡◌, sym, ◌∙◌}
use Prim.Native.Nat.{◌+◌, ◌*◌}
use native.Mathlib.Omega.{arith}
use Rattle.parity.proofs.Even.{rows_all, four_odd, four_even}
use Rattle.parity.proofs.Checks.all_even.Goals as goal

pub loop-k-init : goal.loop-k-init
loop-k-init c = rows_all _ _ _ _

pub returns-then-odd_of_four-ne0 : goal.returns-then-odd_of_four-ne0
returns-then-odd_of_four-ne0 c =
    let l = c.loop-k in
    sym (four_odd _ _ _ _ (4 * l.k) (omega arith) (λ e. c.if-odd_of_four-ne0.true (c.odd_of_four.ensures ∙ e))) ∙ l.invariant

pub loop-k-preserved : goal.loop-k-preserved
loop-k-preserved c =
    let a = c.args in
    let l = c.loop-k in
    let e : 4 * (l.k + 1) ≡ 4 * l.k + 4 = omega arith in
    rw e (sym (four_even _ _ _ _ (4 * l.k) (omega arith) (sym c.odd_of_four.ensures ∙ c.if-odd_of_four-ne0.false)) ∙ l.invariant)
