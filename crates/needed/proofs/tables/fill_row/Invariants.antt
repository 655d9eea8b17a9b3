-- The invariant: what is left to store, stored from here, gives the whole, and the sums are still small.
use Prim.Native.Nat.{◌-◌}
use Rattle.needed.specs.Model.Tables.{row_from}
use Rattle.needed.proofs.Filling.{Underway}
use Rattle.needed.proofs.tables.fill_row.Given as goal

abbrev pub invariant-loop-q : goal.invariant-loop-q
invariant-loop-q l = Underway l.work (row_from l.i l.t (l.words - l.q) l.q l.work) (row_from l.i l.t l.words 0 l.initial.work)
