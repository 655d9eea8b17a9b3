-- What division and a shift up ask of their numbers, by name (a model).
-- Assumes nothing.
use Rattle.std.specs.Prelude.{ℕ, ◌*◌, ◌^◌, ◌≤◌, ◌<◌}
use Rattle.poly.specs.Poly.{HasDegree}

-- ---- division

-- what is divided by: a polynomial of degree m, at most 12
pub record Modulus (m p : ℕ) : Type 0 where
  pub at_most_12 : m ≤ 12
  pub degree : HasDegree m p

-- a word of N bits
pub record ToDivide (u N m p : ℕ) : Type 0 where
  pub modulus : Modulus m p
  pub at_most_128 : N ≤ 128
  pub fits : u < 2 ^ N

-- a remainder, as r times x is divided again
pub record ToMultiply (r m p : ℕ) : Type 0 where
  pub modulus : Modulus m p
  pub below : r < 2 ^ m

-- the register's numbers, and the next digit
pub record ToTake (m p r b : ℕ) : Type 0 where
  pub at_most_12 : m ≤ 12
  pub short : p < 2 ^ 32
  pub below : r < 2 ^ m
  pub digit : b < 2

-- ---- a shift up, by some bits, fewer than a half has, with nothing lost

pub record ToShiftUp (u m : ℕ) : Type 0 where
  pub some_bits : 0 < m
  pub below_64 : m < 64
  pub fits : u * 2 ^ m < 2 ^ 128
