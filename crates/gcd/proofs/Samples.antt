-- Small lists, by computation: a slip in the definitions shows here.
-- Assumes nothing.
use mathlib.Core.Path.{◌≡◌, refl}
use mathlib.Core.Bool.{true, false}
use mathlib.Core.List.{[], ◌∷◌}
use Rattle.lists.specs.Lists.{up_from, all, any}
use Rattle.poly.specs.Poly.{bit, ◌⊕◌, digits_through, horner, ◌⊗◌, register, remainder}
use Rattle.gcd.specs.SharedFactor.{divides, total, share_factor}
use Rattle.gcd.specs.Model.Gcd.{halvings, degree, euclid, gcd, gcd_with, gcd_all}

-- x^2 + 1 = (x + 1)(x + 1) and x + 1
square_shares : share_factor (0x5 ∷ 0x3 ∷ []) ≡ true
unfolding up_from all any ◌⊕◌ digits_through horner ◌⊗◌ divides total share_factor
square_shares = refl

-- x(x + 1), x(x^2 + x + 1) and (x + 1)(x^2 + x + 1): every two share a factor, all three none
pairs_alone_share : share_factor (0x6 ∷ 0xE ∷ 0x9 ∷ []) ≡ false
unfolding up_from all any ◌⊕◌ digits_through horner ◌⊗◌ divides total share_factor
pairs_alone_share = refl

-- (x + 1)(x + 1)(x^2 + x + 1) and (x + 1)(x^3 + x + 1)
gcd_of_two : gcd_all (0x1B ∷ 0x1D ∷ []) ≡ 0x3
unfolding bit ◌⊕◌ digits_through horner register remainder halvings degree euclid gcd gcd_with gcd_all
gcd_of_two = refl

-- every polynomial divides each of no polynomials
none_share : share_factor [] ≡ true
unfolding up_from all any divides total share_factor
none_share = refl
