use mathlib.Core.Path.{sym, ◌∙◌}
use native.Mathlib.Omega.{arith}
use Rattle.undetected.proofs.Counting.{even_none, even-passes, even_fails, even_le, even_past, even-all}
use Rattle.undetected.proofs.count_up_to.Goals as goal
use Rattle.undetected.proofs.count_up_to.Goals.{then-all_even+else-limit-found, else-all_even}

pub loop-k-init : goal.loop-k-init
loop-k-init c = (even_none _ _ _ _, omega arith)

pub overflow_add-found : goal.overflow_add-found
overflow_add-found c = omega (arith, even_le c.args.checks.now.rows c.args.checks.now.count c.args.table.now c.args.from c.loop-k.k)

pub returns-then-limit-found : goal.returns-then-limit-found
returns-then-limit-found c =
    even_past _ _ _ _ c.loop-k.k _ _ c.args.limit (omega arith) (omega arith) c.loop-k.invariant.0 c.loop-k.invariant.1
    (sym c.if-all_even.true ∙ c.all_even.ensures) (omega arith)

pub loop-k-preserved : goal.loop-k-preserved
loop-k-preserved c =
    let so_far = c.loop-k.invariant.0 in
    let tested = c.all_even.ensures in (
      elim c.if-all_even.branch [
        | then-all_even+else-limit-found w ↦ w.found-is ∙ even-passes _ _ _ _ _ _ (omega arith) so_far (sym w.if-all_even.true ∙ tested)
        | else-all_even w ↦ w.found-is ∙ even_fails _ _ _ _ _ _ (omega arith) so_far (sym w.if-all_even.false ∙ tested)
      ],
      elim c.if-all_even.branch [ then-all_even+else-limit-found w ↦ omega arith | else-all_even w ↦ omega arith ],
    )

pub returns : goal.returns
returns c = even-all _ _ _ _ c.loop-k.k c.args.to _ _ (omega arith) c.loop-k.invariant.0 c.loop-k.invariant.1
