-- Small products and remainders, by computation: a slip in the definitions shows here.
-- Assumes nothing.
use mathlib.Core.Path.{◌≡◌, refl}
use Rattle.poly.specs.Poly.{bit, ◌⊕◌, digits_through, horner, ◌⊗◌, register, remainder}

-- (x + 1)(x + 1) = x^2 + 1
square : 3 ⊗ 3 ≡ 5
unfolding ◌⊕◌ digits_through horner ◌⊗◌
square = refl

-- x^3 leaves 1 when divided by x^2 + x + 1
cube : remainder 2 7 8 ≡ 1
unfolding bit ◌⊕◌ digits_through horner register remainder
cube = refl
