-- What document 01's example does not show, by computation: 0xAB, 17 in octal for 15, and the largest number of 64 bits.
-- Assumes nothing.
use mathlib.Core.Path.{◌≡◌, refl}
use mathlib.Core.List.{[], ◌∷◌}
use Rattle.lines.specs.Lines.{digit, digits, numeral, decimal, octal, hexadecimal}

capitals : hexadecimal 171 ≡ 48 ∷ 120 ∷ 65 ∷ 66 ∷ []
unfolding digit digits numeral hexadecimal
capitals = refl

eights : octal 15 ≡ 49 ∷ 55 ∷ []
unfolding digit digits numeral octal
eights = refl

largest : decimal 18446744073709551615 ≡ 49 ∷ 56 ∷ 52 ∷ 52 ∷ 54 ∷ 55 ∷ 52 ∷ 52 ∷ 48 ∷ 55 ∷ 51 ∷ 55 ∷ 48 ∷ 57 ∷ 53 ∷ 53 ∷ 49 ∷ 54 ∷ 49 ∷ 53 ∷ []
unfolding digit digits numeral decimal
largest = refl
