-- Polynomials over GF(2) as numbers: bit j is the coefficient of x^j, so 0x43 is x^6+x+1. Sum, product, remainder, "divides".
-- The product and the remainder both take a number's binary digits, highest first, through a step (Horner's scheme).
-- `proofs/Product.antt` and `proofs/Remainder.antt` have the equations that a reader expects of them, with no count of digits in sight.
-- Assumes nothing.
use Rattle.std.specs.Prelude.{◌≡◌, ℕ, zero, suc, ◌+◌, ◌*◌, ◌/◌, ◌%◌, ◌^◌}
use Rattle.std.specs.Int.Bits.{bit_xor}

infixl 60 ◌⊕◌
infixl 70 ◌⊗◌
-- the coefficient of x^j
unfoldable pub bit : ℕ → ℕ → ℕ
bit j a = a / 2 ^ j % 2

-- the number whose bit j is f j, for j below k
unfoldable pub from_bits : ℕ → (ℕ → ℕ) → ℕ
from_bits zero f = 0
from_bits (suc k) f = f 0 + 2 * from_bits k (λ j. f (suc j))

-- the sum: coefficient by coefficient, modulo 2
unfoldable pub ◌⊕◌ : ℕ → ℕ → ℕ
◌⊕◌ a b = bit_xor a b

-- the lowest k binary digits of u, the highest of them first, taken through a step
unfoldable pub digits_through : (ℕ → ℕ → ℕ) → ℕ → ℕ → ℕ
digits_through step zero u = 0
digits_through step (suc k) u = step (digits_through step k (u / 2)) (u % 2)

-- all of them: u has no more than u binary digits
unfoldable pub horner : (ℕ → ℕ → ℕ) → ℕ → ℕ
horner step u = digits_through step u u

-- the product: a · (x·q + c) = x·(a·q) + c·a
unfoldable pub ◌⊗◌ : ℕ → ℕ → ℕ
◌⊗◌ a b = horner (λ r c. (2 * r) ⊕ (c * a)) b

-- p has degree m
abbrev pub HasDegree : ℕ → ℕ → Type 0
HasDegree m p = p / 2 ^ m ≡ 1

-- One step of division by p of degree m (document 01's remainder register): the next digit is shifted in, and p is taken off
-- if that made a coefficient of x^m.
unfoldable pub register : ℕ → ℕ → ℕ → ℕ → ℕ
register m p r b = (2 * r + b) ⊕ (bit m (2 * r + b) * p)

-- the remainder of u divided by p, of degree m
unfoldable pub remainder : ℕ → ℕ → ℕ → ℕ
remainder m p u = horner (register m p) u

-- p divides u: u is the ordinary product of p and some polynomial
abbrev pub Divides : ℕ → ℕ → Type 0
Divides p u = (q : ℕ) × (p ⊗ q ≡ u)
