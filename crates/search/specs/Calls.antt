-- What the calls for an order's own length answer and leave, for every order and whatever is lent: the cases of `call`.
-- Assumes nothing.
use Rattle.std.specs.Prelude.{ℕ, List, []}
use Rattle.order.specs.Questions.{Question}
use Rattle.order.specs.Order.{Order, and_threshold, everything}
use Rattle.order.specs.Answer.{Answer}
use Rattle.row.specs.declared.Row.{Row}
use Rattle.events.specs.declared.Event.{Event}
use Rattle.jobs.specs.declared.Job.TheVariants as J
use Rattle.jobs.specs.Jobs.{SearchTables, search_tables}
use Rattle.calls.specs.Calls.{Call, of_own_length, questions, call}

-- what the listing is lent, and the collection
pub record PathTables : Type 0 where
  pub events : List Event
  pub paths : List ℕ
  pub plain : List ℕ
  pub work : List ℕ

abbrev pub path_tables : List Event → List ℕ → List ℕ → List ℕ → PathTables
path_tables es ps cs us = record { events = es; paths = ps; plain = cs; work = us }

pub record EventTables : Type 0 where
  pub events : List Event
  pub work : List ℕ

abbrev pub event_tables : List Event → List ℕ → EventTables
event_tables es us = record { events = es; work = us }

-- the best check polynomial
abbrev pub searching : Order → Call
searching o = of_own_length everything J.Choose o

-- its questions before 13, of how long the lists are
unfoldable pub search_questions : Order → (plain undetected work : ℕ) → List Question
search_questions o plain undetected work = questions (searching o) plain undetected work

unfoldable pub search_call : Order → SearchTables → Answer Row × SearchTables
search_call o t = call (searching o) t

-- the undetected counts of one polynomial
unfoldable pub count_call : Order → ℕ → SearchTables → Answer Row × SearchTables
count_call o p t = call (of_own_length everything (J.Count p) o) t

-- events and paths: no undetected list is lent
unfoldable pub list_call : Order → PathTables → Answer Row × PathTables
list_call o t =
    let (answer, left) = call (of_own_length and_threshold J.List o) (search_tables t.events t.paths t.plain [] t.work) in
    (answer, path_tables left.events left.paths left.plain left.work)

-- events alone
unfoldable pub collect_call : Order → EventTables → Answer Row × EventTables
collect_call o t =
    let (answer, left) = call (of_own_length and_threshold J.Collect o) (search_tables t.events [] [] [] t.work) in
    (answer, event_tables left.events left.work)
