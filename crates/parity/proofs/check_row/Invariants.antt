-- The invariant: the row for words of j bits, and the remainder of x^j.
use mathlib.Core.Path.{◌≡◌}
use Prim.Native.Nat.{ℕ, ◌^◌}
use Rattle.poly.specs.Poly.{remainder}
use Rattle.poly.specs.Word.{number}
use Rattle.parity.specs.Model.Parity.{check_row}
use Rattle.parity.proofs.check_row.Given as goal

pub record Made (m p i row power j : ℕ) : Type 0 where
  pub so_far : row ≡ check_row j m p i
  pub power-of-x : power ≡ remainder m p (2 ^ j)

abbrev pub invariant-loop-j : goal.invariant-loop-j
invariant-loop-j l = Made l.m l.p l.i (number l.row) l.power l.j
