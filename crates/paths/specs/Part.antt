-- The part of a path table that holds the words of one weight, given the plain counts: whatever the two lent lists hold.
-- Weights begin at 1: no path weighs 0.
-- Assumes nothing.
use Rattle.std.specs.Prelude.{Bool, cond, ◌&&◌, List, [], ℕ, ◌-◌, ◌*◌, leb, length, get_or, take, drop}
use Rattle.lists.specs.Lists.{sum}
use Rattle.order.specs.Questions.{from_to}
use Rattle.order.specs.Order.{of_weight}

-- how many paths have weights 1 to w: the first w counts
unfoldable pub paths_to : List ℕ → ℕ → ℕ
paths_to counts w = sum w (λ k. get_or counts k 0)

-- the weight has a count, and its part ends within the table
unfoldable pub part_fits : List ℕ → ℕ → List ℕ → Bool
part_fits counts w table = from_to 1 (length counts) w && leb (2 * paths_to counts w) (length table)

-- two numbers a path, after those of smaller weights; nothing where it does not fit
unfoldable pub part_of : List ℕ → ℕ → List ℕ → List ℕ
part_of counts w table = cond (part_fits counts w table) (take (2 * of_weight w counts) (drop (2 * paths_to counts (w - 1)) table)) []

-- the number that tells: 0, or refusal 10
unfoldable pub part_number : List ℕ → ℕ → List ℕ → ℕ
part_number counts w table = cond (part_fits counts w table) 0 10
