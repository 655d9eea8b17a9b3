-- The first weight of which a check polynomial leaves a word undetected (document 02, C-17), and what such a weight is. `first-weight`
-- (proofs/FirstUndetected.antt) proves the second of the first.
-- Assumes nothing.
use Rattle.std.specs.Prelude.{ℕ, suc, ◌≤◌, ◌<◌, ◌≡◌, cond, ◌⊎◌, List, [], ◌∷◌, eqb}
use Rattle.order.specs.Order.{Order}
use Rattle.undetected.specs.Undetected.{undetected_counts, CountsUndetected}

-- the weight of the first count above 0, where the list begins with weight w; the weight after the last where there is none
unfoldable pub first_above0 : ℕ → List ℕ → ℕ
first_above0 w [] = w
first_above0 w (c ∷ cs) = cond (eqb c 0) (first_above0 (suc w) cs) w

-- the first weight below d of which p leaves a word undetected; d where there is none
unfoldable pub first_undetected : Order → ℕ → ℕ
first_undetected o p = first_above0 1 (undetected_counts o p)

-- what a first undetected weight is: no lighter word is undetected, and one of this weight is, or it is d
pub record FirstWeight (o : Order) (p w : ℕ) : Type 0 where
  pub none_lighter : (x : ℕ) → 1 ≤ x → x < w → CountsUndetected o p x 0
  pub some_or_d : (w ≡ o.d) ⊎ ((w < o.d) × ((k : ℕ) × (1 ≤ k) × CountsUndetected o p w k))
