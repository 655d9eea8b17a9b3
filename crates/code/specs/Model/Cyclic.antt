-- Outputs, weight and codeword by products modulo x^T + 1 (a model): both kinds of link send these. On a tail-biting link T is N; a terminated word
-- of N bits is such a word of N + v bits, since its ordinary products have no more bits. `proofs/Links.antt` proves it (`weight_is_cyclic`).
-- Assumes nothing.
use Rattle.std.specs.Prelude.{ℕ, ◌+◌, ◌^◌}
use mathlib.Core.List.{List, [], ◌∷◌, map, flat_map}
use Rattle.std.specs.Int.Count.{ones}
use Rattle.lists.specs.Lists.{up_from}
use Rattle.poly.specs.Poly.{bit, ◌⊗◌, remainder}

unfoldable pub cyclic_output : ℕ → ℕ → ℕ → ℕ
cyclic_output T g u = remainder T (2 ^ T + 1) (u ⊗ g)

unfoldable pub cyclic_weight : ℕ → List ℕ → ℕ → ℕ
cyclic_weight T [] u = 0
cyclic_weight T (g ∷ gs) u = ones (cyclic_output T g u) + cyclic_weight T gs u

unfoldable pub cyclic_codeword : ℕ → List ℕ → ℕ → List ℕ
cyclic_codeword T gs u = flat_map (λ t. map (λ g. bit t (cyclic_output T g u)) gs) (up_from 0 T)
