-- The degree of a polynomial, and the greatest common divisor of some, by Euclid's scheme: what the code computes.
-- Assumes nothing.
use Rattle.std.specs.Prelude.{ℕ, zero, suc, ◌/◌, cond, List, [], ◌∷◌, ltb}
use Rattle.poly.specs.Poly.{remainder}

-- how often a number can be halved before it is 1 or 0
unfoldable pub halvings : ℕ → ℕ → ℕ
halvings zero a = 0
halvings (suc most) a = cond (ltb a 2) 0 (suc (halvings most (a / 2)))

-- of a polynomial other than 0
unfoldable pub degree : ℕ → ℕ
degree a = halvings a a

-- the divisor and the remainder take the places of the dividend and the divisor. The divisor falls, so that as many steps as its number are enough
unfoldable pub euclid : ℕ → ℕ → ℕ → ℕ
euclid zero a b = a
euclid (suc most) a zero = a
euclid (suc most) a (suc b) = euclid most (suc b) (remainder (degree (suc b)) (suc b) a)

unfoldable pub gcd : ℕ → ℕ → ℕ
gcd a b = euclid b a b

-- of a polynomial and a list; of a list alone. It is 0 where there is none.
unfoldable pub gcd_with : ℕ → List ℕ → ℕ
gcd_with d [] = d
gcd_with d (g ∷ gs) = gcd_with (gcd d g) gs

unfoldable pub gcd_all : List ℕ → ℕ
gcd_all gs = gcd_with 0 gs
