-- The paths of a link below the threshold (document 01: paths), as one ordered list, and how many there are of each weight (the plain counts).
-- By the weight of words alone, which is by products: no state, walk or event enters here.
-- Assumes nothing.
use Rattle.std.specs.Prelude.{ℕ, ◌-◌, ◌/◌, ◌^◌, eqb}
use mathlib.Core.List.{List, map, flat_map}
use Rattle.lists.specs.Lists.{up_from, filter, count, padded}
use Rattle.poly.specs.Word.{halves}
use Rattle.code.specs.Weight.{weight}
use Rattle.order.specs.Order.{Order}

-- the nonzero words of N bits: 1 to 2^N - 1
unfoldable pub words : ℕ → List ℕ
words N = up_from 1 (2 ^ N - 1)

-- the nonzero words of weight w, by number
unfoldable pub words_of_weight : Order → ℕ → List ℕ
words_of_weight o w = filter (λ u. eqb (weight o u) w) (words o.N)

-- the nonzero words of weight below d, by weight, then number
unfoldable pub paths : Order → List ℕ
paths o = flat_map (words_of_weight o) (up_from 0 o.d)

-- The weights that are counted: from 1 to below the threshold. No nonzero word of an accepted order weighs 0, so the words of these weights are all
-- paths, in the same order (`paths_from_1`, proofs/FromOne.antt).
unfoldable pub weights : Order → List ℕ
weights o = up_from 1 (o.d - 1)

-- how many paths there are of each
unfoldable pub plain_counts : Order → List ℕ
plain_counts o = map (λ w. count (λ u. eqb (weight o u) w) (words o.N)) (weights o)

-- ---- the lent tables

-- what a path table of `size` numbers holds after an accepted call: two numbers a path, the low half first, zeros after the last path, an odd last number too
unfoldable pub path_table : ℕ → Order → List ℕ
path_table size o = padded size 0 (flat_map halves (paths o))

-- how many paths such a table takes
unfoldable pub path_room : ℕ → ℕ
path_room size = size / 2
