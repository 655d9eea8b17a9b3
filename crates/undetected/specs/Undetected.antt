-- What a check polynomial leaves undetected: how many nonzero words of each weight it divides. From division and the weight of words, which is by
-- products, over the words 1 to 2^N - 1; no event, state, walk or table enters here.
-- Counting tests that the remainder is 0. `IsUndetected` says the same with ordinary products, and `undetected_means_divided` (proofs/Undetected.antt)
-- that each count is the number of the words that it describes: no reader has to know about remainders.
-- Assumes nothing.
use Rattle.std.specs.Prelude.{ℕ, ◌^◌, ◌≤◌, ◌<◌, ◌≡◌, Bool, ◌&&◌, List, map, eqb}
use Rattle.lists.specs.Lists.{count}
use Rattle.lists.specs.Sorted.{HowMany}
use Rattle.poly.specs.Poly.{remainder, Divides}
use Rattle.code.specs.Weight.{weight}
use Rattle.order.specs.Order.{Order}
use Rattle.paths.specs.Paths.{words, weights}

-- u weighs w, and p divides u
unfoldable pub passes : Order → ℕ → ℕ → ℕ → Bool
passes o p w u = eqb (weight o u) w && eqb (remainder o.m p u) 0

-- how many nonzero words of weight w pass the check of p unseen
unfoldable pub undetected_count : Order → ℕ → ℕ → ℕ
undetected_count o p w = count (passes o p w) (words o.N)

-- the same for each weight from 1 to below d
unfoldable pub undetected_counts : Order → ℕ → List ℕ
undetected_counts o p = map (undetected_count o p) (weights o)

-- ---- what a count means

-- u is a nonzero word of N bits that weighs w and that p divides
pub record IsUndetected (o : Order) (p w u : ℕ) : Type 0 where
  pub nonzero : 1 ≤ u
  pub fits : u < 2 ^ o.N
  pub weighs : weight o u ≡ w
  pub divided : Divides p u

-- k is how many of these words there are
abbrev pub CountsUndetected : Order → (p w k : ℕ) → Type 0
CountsUndetected o p w k = HowMany (IsUndetected o p w) k
