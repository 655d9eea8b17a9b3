-- What the code counts: words of a path table by their places, entry by entry of the lists of counts. Entry j is of weight j + 1, so the words of
-- entry j stand after those of weights 1 to j. `proofs/Counts.antt` joins this to the definition: over the table and the plain counts
-- that the listing leaves, it is the undetected counts.
-- Assumes nothing.
use Rattle.std.specs.Prelude.{ℕ, ◌+◌, ◌-◌, ◌*◌, ◌^◌, ◌≤◌, ◌<◌, ◌≡◌, cond, List, ◌++◌, map, leb, eqb, length, get_or, take, drop}
use Rattle.lists.specs.Lists.{up_from, count}
use Rattle.poly.specs.Poly.{remainder}
use Rattle.poly.specs.Model.Table.{word_at}
use Rattle.parity.specs.Model.Parity.{all_even, Divisor}
use Rattle.paths.specs.Part.{paths_to}

-- how many of the words from place a to before place b p divides
unfoldable pub divided_between : ℕ → ℕ → List ℕ → ℕ → ℕ → ℕ
divided_between m p table a b = count (λ k. eqb (remainder m p (word_at table k)) 0) (up_from a (b - a))

-- of the words of entry j, given the plain counts
unfoldable pub divided_of : ℕ → ℕ → List ℕ → List ℕ → ℕ → ℕ
divided_of m p table plain j = divided_between m p table (paths_to plain j) (paths_to plain j + get_or plain j 0)

-- of each entry
unfoldable pub divided_counts : ℕ → List ℕ → List ℕ → ℕ → ℕ → List ℕ
divided_counts m table plain entries p = map (divided_of m p table plain) (up_from 0 entries)

-- the same by a polynomial's parity checks
unfoldable pub even_between : List ℕ → ℕ → List ℕ → ℕ → ℕ → ℕ
even_between rows m table a b = count (λ k. all_even rows m (get_or table (2 * k) 0) (get_or table (2 * k + 1) 0)) (up_from a (b - a))

-- a count, or one more than the limit where it is above the limit
unfoldable pub up_to : ℕ → ℕ → ℕ
up_to limit c = cond (leb c limit) c (limit + 1)

-- the counts of the entries from j on stand in a lent list
unfoldable pub counted_from : ℕ → ℕ → List ℕ → List ℕ → ℕ → ℕ → List ℕ → List ℕ
counted_from m p table plain j entries l = take j l ++ (map (divided_of m p table plain) (up_from j (entries - j)) ++ drop entries l)

-- a table of words of so many bits, and plain counts with so many entries that lie in it
pub record Readable (bits entries : ℕ) (table plain : List ℕ) : Type 0 where
  pub narrow : bits ≤ 128
  pub numbers : (k : ℕ) → get_or table k 0 < 2 ^ 64
  pub words : (k : ℕ) → word_at table k < 2 ^ bits
  pub weights : entries ≤ length plain
  pub inside : 2 * paths_to plain entries ≤ length table

-- ---- what is asked

-- the words from one place to before another, by a polynomial's parity checks
pub record ToCountBetween (table : List ℕ) (from to : ℕ) : Type 0 where
  pub ordered : from ≤ to
  pub inside : 2 * to ≤ length table

-- the words of each entry that p divides, with a list that takes the counts
pub record ToCount (entries m p : ℕ) (undetected : List ℕ) : Type 0 where
  pub divisor : Divisor m p
  pub counts : entries ≤ length undetected

-- from entry `first` on, whose words begin at place `start`
pub record ToCountFrom (entries m p first start : ℕ) (plain undetected : List ℕ) : Type 0 where
  pub each : ToCount entries m p undetected
  pub begun : first ≤ entries
  pub placed : start ≡ paths_to plain first

-- the first weight of which p divides a word: weights stay below 64
pub record ToFindFirst (entries m p : ℕ) : Type 0 where
  pub divisor : Divisor m p
  pub few : entries ≤ 63
