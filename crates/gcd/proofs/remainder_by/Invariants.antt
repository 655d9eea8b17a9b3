-- The invariant: what is left has the remainder that is asked for. It falls until it is that remainder.
use mathlib.Core.Path.{◌≡◌}
use Prim.Native.Nat.{◌<◌, ◌^◌}
use Rattle.poly.specs.Poly.{remainder}
use Rattle.gcd.specs.Model.Gcd.{degree}
use Rattle.gcd.proofs.remainder_by.Given as goal

abbrev pub invariant-loop-r : goal.invariant-loop-r
invariant-loop-r l = (l.r < 2 ^ 64) × (remainder (degree l.b) l.b l.r ≡ remainder (degree l.b) l.b l.a)

abbrev pub decreases-loop-r : goal.decreases-loop-r
decreases-loop-r l = l.r
