use native.Mathlib.Omega.{arith}
use mathlib.Core.Path.{sym, ◌∙◌, subst}
use Rattle.needed.specs.Model.Tables.{Tables}
use Rattle.needed.proofs.Filling.{rows_again, rows_end, tables_row_from}
use Rattle.needed.proofs.tables.fill_rows.Goals as goal

pub loop-t-preserved : goal.loop-t-preserved
loop-t-preserved c =
    let l = c.loop-t in
    let e = c.fill_row.ensures in
    record {
      tables = subst Tables (sym e) (tables_row_from _ _ _ _ _ (omega arith) (omega arith) l.invariant.tables);
      gives = rows_again _ _ _ _ _ _ _ (omega arith) e l.invariant.gives;
    }

pub returns : goal.returns
returns c = let l = c.loop-t in rows_end _ _ _ l.t _ (omega arith) ∙ l.invariant.gives
