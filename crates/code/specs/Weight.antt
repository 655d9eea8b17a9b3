-- What a link sends for a word u of N bits, and what that weighs: by products alone, cyclic or ordinary by the kind of link (`output`, Links.antt).
-- No state, walk or event enters here.
-- Assumes nothing.
use Rattle.std.specs.Prelude.{ℕ, ◌+◌}
use mathlib.Core.List.{List, [], ◌∷◌, map, flat_map}
use Rattle.std.specs.Int.Count.{ones}
use Rattle.lists.specs.Lists.{up_from}
use Rattle.poly.specs.Poly.{bit}
use Rattle.order.specs.Order.{Order}
use Rattle.code.specs.Links.{steps_of, output}

-- the number of ones in the outputs of these generators
unfoldable pub weight_of : Order → List ℕ → ℕ → ℕ
weight_of o [] u = 0
weight_of o (g ∷ gs) u = ones (output o g u) + weight_of o gs u

-- in all outputs
unfoldable pub weight : Order → ℕ → ℕ
weight o u = weight_of o o.generators u

-- the codeword's bits: one bit of each generator for each step, the first generator first
unfoldable pub codeword : Order → ℕ → List ℕ
codeword o u = flat_map (λ t. map (λ g. bit t (output o g u)) o.generators) (up_from 0 (steps_of o))
