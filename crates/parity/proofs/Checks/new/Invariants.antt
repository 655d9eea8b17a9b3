-- The invariant: the table has its first i rows.
use mathlib.Core.Path.{◌≡◌}
use Rattle.parity.proofs.Rows.{rows_to}
use Rattle.parity.proofs.Checks.new.Given as goal

abbrev pub invariant-loop-i : goal.invariant-loop-i
invariant-loop-i l = l.rows ≡ rows_to l.bits l.m l.p l.i
