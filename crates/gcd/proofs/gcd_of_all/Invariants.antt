-- The invariant: what there is so far, with what is left of the list, has the greatest common divisor of the whole list.
use mathlib.Core.Path.{◌≡◌}
use lib.ListN.{drop}
use Rattle.gcd.specs.Model.Gcd.{gcd_with, gcd_all}
use Rattle.gcd.proofs.gcd_of_all.Given as goal

abbrev pub invariant-loop-g : goal.invariant-loop-g
invariant-loop-g l = gcd_all l.polynomials ≡ gcd_with l.d (drop l.g-index l.polynomials)
