-- One polynomial for a set of lengths (document 02, C-17): for each length in turn, longest first, those candidates stay whose first undetected weight is
-- largest; of those left the choice is by the counts at the longest length. Who stays is said of any candidates.
-- Assumes nothing.
use Rattle.std.specs.Prelude.{ℕ, List, [], ◌∷◌, leb}
use Rattle.lists.specs.Lists.{filter, all}
use Rattle.order.specs.Order.{Order, with_length}
use Rattle.undetected.specs.Undetected.{undetected_counts}
use Rattle.undetected.specs.FirstUndetected.{first_undetected}
use Rattle.choice.specs.Choice.{candidates, first_of, Choice, choice_among}

-- those whose value is largest
unfoldable pub largest : (ℕ → ℕ) → List ℕ → List ℕ
largest value ps = filter (λ p. all (λ q. leb (value q) (value p)) ps) ps

-- for each length in turn, those left with the largest first undetected weight
unfoldable pub narrowed : Order → (lengths ps : List ℕ) → List ℕ
narrowed o [] ps = ps
narrowed o (N ∷ Ns) ps = narrowed o Ns (largest (first_undetected (with_length N o)) ps)

-- the order for the longest length, which is the first
unfoldable pub longest : Order → List ℕ → Order
longest o Ns = with_length (first_of Ns) o

-- of those left, the smallest counts at the longest length, then the smallest number; and how many of those left share these counts
unfoldable pub set_choice : Order → List ℕ → Choice
set_choice o Ns = choice_among (undetected_counts (longest o Ns)) (narrowed o Ns (candidates o.m))
