-- The invariant: the dividend and the divisor have the greatest common divisor of the two numbers given. The divisor falls.
use mathlib.Core.Path.{◌≡◌}
use Rattle.gcd.specs.Model.Gcd.{gcd}
use Rattle.gcd.proofs.gcd.Given as goal

abbrev pub invariant-loop-divisor : goal.invariant-loop-divisor
invariant-loop-divisor l = gcd l.a l.b ≡ gcd l.dividend l.divisor

abbrev pub decreases-loop-divisor : goal.decreases-loop-divisor
decreases-loop-divisor l = l.divisor
