use native.Mathlib.Omega.{arith}
use mathlib.Core.Path.{◌∙◌}
use lib.Dec.{lit<}
use Rattle.needed.proofs.Places.{rows_region}
use Rattle.needed.proofs.Filling.{row_again, row_end, tables_set}
use Rattle.needed.proofs.tables.fill_row.Goals as goal

pub loop-q-preserved : goal.loop-q-preserved
loop-q-preserved c =
    let l = c.loop-q in
    record {
      tables = tables_set _ l.invariant.tables rows_region _ _ (lit< tt) (λ e. absurd (omega arith)) record { from = omega arith; before = omega arith };
      gives = row_again _ _ _ _ _ _ _ (omega arith) c.pack-word.ensures l.invariant.gives;
    }

pub returns : goal.returns
returns c = let l = c.loop-q in row_end _ _ _ l.q _ (omega arith) ∙ l.invariant.gives
