-- The parity checks of a polynomial p of degree m, for words of N bits: the rows of its parity-check matrix. Row i has a 1 at place j where x^j has
-- a 1 at bit i of its remainder. So p divides a word exactly when the word has an even number of ones at the places of every row: `proofs/Divided.antt`.
-- Assumes nothing.
use Rattle.std.specs.Prelude.{ℕ, ◌+◌, ◌*◌, ◌%◌, ◌^◌, ◌≤◌, ◌<◌, Bool, eqb, get_or, drop}
use mathlib.Core.List.{List, map, flat_map}
use Rattle.std.specs.Int.Bits.{bit_and}
use Rattle.std.specs.Int.Count.{ones}
use Rattle.lists.specs.Lists.{up_from, all, padded}
use Rattle.poly.specs.Poly.{bit, from_bits, ◌⊕◌, remainder}
use Rattle.poly.specs.Word.{halves}
use Rattle.poly.specs.Model.Asked.{Modulus}

-- row i, as a word
unfoldable pub check_row : ℕ → ℕ → ℕ → ℕ → ℕ
check_row N m p i = from_bits N (λ j. bit i (remainder m p (2 ^ j)))

-- the m rows, two numbers a row, low half first, and zeros after them
unfoldable pub check_table : ℕ → ℕ → ℕ → List ℕ
check_table N m p = padded 24 0 (flat_map halves (map (check_row N m p) (up_from 0 m)))

-- the ones, modulo 2, that the word with these halves has at the places of row i
unfoldable pub oddness : List ℕ → ℕ → ℕ → ℕ → ℕ
oddness rows low high i = ones (bit_and low (get_or rows (2 * i) 0) ⊕ bit_and high (get_or rows (2 * i + 1) 0)) % 2

-- of four rows from row i on, added up
unfoldable pub odd_of_four : List ℕ → ℕ → ℕ → ℕ → ℕ
odd_of_four rows low high i = oddness rows low high i + oddness rows low high (i + 1) + oddness rows low high (i + 2) + oddness rows low high (i + 3)

unfoldable pub even : List ℕ → ℕ → ℕ → ℕ → Bool
even rows low high i = eqb (oddness rows low high i) 0

-- each of the m rows from row i on is even
unfoldable pub even_from : List ℕ → ℕ → ℕ → ℕ → ℕ → Bool
even_from rows m i low high = all (even rows low high) (drop i (up_from 0 m))

-- each of the m rows is
unfoldable pub all_even : List ℕ → ℕ → ℕ → ℕ → Bool
all_even rows m low high = all (even rows low high) (up_from 0 m)

-- ---- what is asked

-- a check polynomial: some degree, at most 12
pub record Divisor (m p : ℕ) : Type 0 where
  pub some_degree : 1 ≤ m
  pub modulus : Modulus m p

-- its checks of words of N bits
pub record ToCheck (N m p : ℕ) : Type 0 where
  pub at_most_128 : N ≤ 128
  pub divisor : Divisor m p

-- one of them
pub record ToCheckRow (N m p i : ℕ) : Type 0 where
  pub table : ToCheck N m p
  pub row : i < 12

-- a bit above all that a word has
pub record ToSetBit (u j b : ℕ) : Type 0 where
  pub place : j < 128
  pub digit : b < 2
  pub below : u < 2 ^ j
