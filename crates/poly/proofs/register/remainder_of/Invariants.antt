-- The invariant: the register holds the remainder of the word without its i lowest bits.
use mathlib.Core.Path.{◌≡◌}
use Prim.Native.Nat.{ℕ, ◌/◌, ◌^◌}
use Rattle.poly.specs.Poly.{remainder}
use Rattle.poly.specs.Word.{number}
use Rattle.poly.proofs.register.remainder_of.Given as goal

pub record Divided (u m p degree polynomial value i : ℕ) : Type 0 where
  pub same-degree : degree ≡ m
  pub same-polynomial : polynomial ≡ p
  pub so_far : value ≡ remainder m p (u / 2 ^ i)

abbrev pub invariant-loop-i : goal.invariant-loop-i
invariant-loop-i l = Divided (number l.w) l.m l.polynomial l.r.degree l.r.polynomial l.r.value l.i
