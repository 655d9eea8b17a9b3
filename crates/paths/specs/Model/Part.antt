-- How many paths have weights 1 to w, as the code sums them (a model).
-- Assumes nothing.
use Rattle.std.specs.Prelude.{cond, List, ℕ, leb, Option, Some, None}
use Rattle.paths.specs.Part.{paths_to}

-- how many they are, unless they are more than the limit
unfoldable pub sum_or : List ℕ → ℕ → ℕ → Option ℕ
sum_or counts w limit = cond (leb (paths_to counts w) limit) (Some (paths_to counts w)) None
