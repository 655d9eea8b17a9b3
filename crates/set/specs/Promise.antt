-- What the search for a set of lengths promises: of an order of either kind of link, a list of lengths, what was lent, what is answered and what is left.
-- `set_promise` (proofs/Demand.antt) proves it of the definition of the call, and `set_promises` of what the function itself answers and leaves.
-- Assumes nothing.
use Rattle.std.specs.Prelude.{ℕ, ◌≤◌, ◌<◌, ◌≡◌, ◌↔◌, length}
use mathlib.Core.List.{List, [], ◌∷◌, Memᴰ}
use Rattle.lists.specs.Lists.{padded}
use Rattle.order.specs.Questions.{first_no}
use Rattle.order.specs.Order.{Order, with_length, of_weight}
use Rattle.order.specs.Answer.{Answer, accepted}
use Rattle.row.specs.declared.Row.{Row}
use Rattle.events.specs.Events.{events}
use Rattle.paths.specs.Paths.{paths, path_room}
use Rattle.undetected.specs.Undetected.{undetected_counts, CountsUndetected}
use Rattle.undetected.specs.FirstUndetected.{first_undetected, FirstWeight}
use Rattle.choice.specs.Best.{IsCandidate}
use Rattle.narrowing.specs.Narrowed.{longest}
use Rattle.narrowing.specs.LeftAfter.{BestOfSet}
use Rattle.jobs.specs.Jobs.{SearchTables}
use Rattle.search.specs.Calls.{search_call}
use Rattle.set.specs.Calls.{set_questions}

-- no question refuses
pub record NoneRefusesSet (o : Order) (Ns : List ℕ) (lent : SearchTables) : Type 0 where
  pub questions : first_no (set_questions o Ns (length lent.plain) (length lent.undetected) (length lent.work)) ≡ 0
  pub events_fit : length (events (longest o Ns)) ≤ length lent.events
  pub paths_fit : (N : ℕ) → Memᴰ N Ns → length (paths (with_length N o)) ≤ path_room (length lent.paths)

-- p is named, and so many share its counts
pub record NamesBestOfSet (o : Order) (Ns : List ℕ) (lent left : SearchTables) (p shared : ℕ) : Type 0 where
  -- left after every length, and of those left: nobody better, nobody as good with a smaller number, and so many as good
  pub best : BestOfSet o Ns p shared
  -- the undetected list is p's counts at the longest length, with zeros after them
  pub undetected : left.undetected ≡ padded (length lent.undetected) 0 (undetected_counts (longest o Ns) p)
  -- of all candidates, each count at the longest length is the number of the words of its weight that the polynomial divides
  pub divided : (q : ℕ) → IsCandidate o.m q → (w : ℕ) → 1 ≤ w → w < o.d → CountsUndetected (longest o Ns) q w (of_weight w (undetected_counts (longest o Ns) q))
  -- and at each length the first undetected weight is what its name says
  pub first-weights : (N : ℕ) → Memᴰ N Ns → (q : ℕ) → IsCandidate o.m q → FirstWeight (with_length N o) q (first_undetected (with_length N o) q)

pub record SetPromise (o : Order) (Ns : List ℕ) (lent : SearchTables) (answer : Answer Row) (left : SearchTables) : Type 0 where
  pub names_best : (f : Row) → answer ≡ accepted f → NamesBestOfSet o Ns lent left f.polynomial f.shared
  pub accepts_exactly : ((f : Row) × (answer ≡ accepted f)) ↔ NoneRefusesSet o Ns lent
  -- a list of one length gives what the search gives, answer and every table
  pub one_length : (N : ℕ) → Ns ≡ N ∷ [] → (answer, left) ≡ search_call (with_length N o) lent
