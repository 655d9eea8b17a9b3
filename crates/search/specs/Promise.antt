-- What the search promises (demand 3), in the words of the contracts that buyers sign: of an order of either kind of link, what was lent, what is answered and
-- what is left. `demand_3` (proofs/Demand.antt) proves it of the definition of the call, and `search_promises` of what the function itself answers and leaves.
-- Assumes nothing.
use Rattle.std.specs.Prelude.{ℕ, ◌≤◌, ◌<◌, ◌≡◌, ◌↔◌, length}
use Rattle.lists.specs.Lists.{padded}
use Rattle.order.specs.Questions.{first_no}
use Rattle.order.specs.Order.{Order, of_weight}
use Rattle.order.specs.Answer.{Answer, accepted}
use Rattle.events.specs.Events.{events}
use Rattle.paths.specs.Paths.{paths, path_room}
use Rattle.undetected.specs.Undetected.{undetected_counts, CountsUndetected}
use Rattle.choice.specs.Best.{IsCandidate, BestOf}
use Rattle.row.specs.declared.Row.{Row}
use Rattle.jobs.specs.Jobs.{SearchTables}
use Rattle.search.specs.Calls.{search_questions}

-- no question refuses
pub record NoneRefuses (o : Order) (lent : SearchTables) : Type 0 where
  pub questions : first_no (search_questions o (length lent.plain) (length lent.undetected) (length lent.work)) ≡ 0
  pub events_fit : length (events o) ≤ length lent.events
  pub paths_fit : length (paths o) ≤ path_room (length lent.paths)

-- p is named, and so many share its counts
pub record NamesBest (o : Order) (lent left : SearchTables) (p shared : ℕ) : Type 0 where
  -- a candidate, nobody better, nobody as good with a smaller number, and so many as good
  pub best : BestOf o p shared
  -- the undetected list is p's counts, with zeros after them
  pub undetected : left.undetected ≡ padded (length lent.undetected) 0 (undetected_counts o p)
  -- of p and of all whom it is compared with, each count is the number of the words of its weight that the polynomial divides
  pub divided : (q : ℕ) → IsCandidate o.m q → (w : ℕ) → 1 ≤ w → w < o.d → CountsUndetected o q w (of_weight w (undetected_counts o q))
  -- and no nonzero word that it divides weighs 0
  pub none_of_weight_0 : (q : ℕ) → IsCandidate o.m q → CountsUndetected o q 0 0

pub record Promise (o : Order) (lent : SearchTables) (answer : Answer Row) (left : SearchTables) : Type 0 where
  pub names_best : (f : Row) → answer ≡ accepted f → NamesBest o lent left f.polynomial f.shared
  pub accepts_exactly : ((f : Row) × (answer ≡ accepted f)) ↔ NoneRefuses o lent
