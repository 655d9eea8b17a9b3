-- What quoting promises: of a tail-biting link, where N' is at most N and question 13 passes for N, the row or the refusal is the one that a fresh run for N' gives; and demand 3,
-- of N'. `quote_promise` (proofs/Fresh.antt) proves it of the definition of the call, and `quote_promises` of what the function itself answers and leaves.
-- Assumes nothing.
use Rattle.std.specs.Prelude.{ℕ, ◌≤◌, ◌≡◌, ◌↔◌, length}
use Rattle.order.specs.Order.{Order, with_length}
use Rattle.order.specs.Answer.{Answer, accepted}
use Rattle.events.specs.Events.{events}
use Rattle.row.specs.declared.Row.{Row}
use Rattle.jobs.specs.Jobs.{SearchTables}
use Rattle.search.specs.Calls.{search_call}
use Rattle.search.specs.Promise.{NoneRefuses, NamesBest}

-- the link is tail-biting, N' is at most N, and of the questions that are about N alone, neither 5 nor 13 refuses
pub record MayQuote (o : Order) (N' : ℕ) (lent : SearchTables) : Type 0 where
  pub tail_biting : o.version ≡ 1
  pub no_longer : N' ≤ o.N
  pub at_most_128 : o.N ≤ 128
  pub events_fit : length (events o) ≤ length lent.events

-- the same answer, with the same path table, counts and work area; the event tables are those of N and of N'
pub record SameRow (quoted fresh : Answer Row × SearchTables) : Type 0 where
  pub answer : quoted.0 ≡ fresh.0
  pub paths : quoted.1.paths ≡ fresh.1.paths
  pub plain : quoted.1.plain ≡ fresh.1.plain
  pub undetected : quoted.1.undetected ≡ fresh.1.undetected
  pub work : quoted.1.work ≡ fresh.1.work

pub record QuotePromise (o : Order) (N' : ℕ) (lent : SearchTables) (answer : Answer Row) (left : SearchTables) : Type 0 where
  pub is_fresh : MayQuote o N' lent → SameRow (answer, left) (search_call (with_length N' o) lent)
  pub names_best : (f : Row) → answer ≡ accepted f → NamesBest (with_length N' o) lent left f.polynomial f.shared
  pub accepts_exactly : ((f : Row) × (answer ≡ accepted f)) ↔ (MayQuote o N' lent × NoneRefuses (with_length N' o) lent)
