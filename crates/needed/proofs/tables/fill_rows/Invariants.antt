-- The invariant: the rows left, filled from here, give the whole, and the sums are still small.
use Prim.Native.Nat.{◌-◌}
use Rattle.needed.specs.Model.Tables.{rows_from}
use Rattle.needed.proofs.Filling.{Underway}
use Rattle.needed.proofs.tables.fill_rows.Given as goal

abbrev pub invariant-loop-t : goal.invariant-loop-t
invariant-loop-t l = Underway l.work (rows_from l.i l.words (l.rows - l.t) l.t l.work) (rows_from l.i l.words l.rows 0 l.initial.work)
