-- What a job answers and leaves, for accepted orders and whatever is lent (`ran`): 13 is asked of all, 14 of those that list paths. The counts are those of
-- `undetected` and the choice that of `choice`: from division and the weight of words alone.
-- Assumes nothing.
use Rattle.std.specs.Prelude.{ℕ, cond, List, [], ◌∷◌, leb, length}
use Rattle.lists.specs.Lists.{all, padded, cleared}
use Rattle.order.specs.Order.{Order}
use Rattle.order.specs.Answer.{Answer, accepted, refused}
use Rattle.row.specs.declared.Row.{Row}
use Rattle.row.specs.Answered.{row}
use Rattle.events.specs.declared.Event.{Event}
use Rattle.events.specs.Events.{events, no_event, event_table}
use Rattle.paths.specs.Paths.{paths, plain_counts, path_table, path_room}
use Rattle.undetected.specs.Undetected.{undetected_counts}
use Rattle.choice.specs.Choice.{Choice, choice}
use Rattle.narrowing.specs.Narrowed.{set_choice}
use Rattle.lengths.specs.Shorter.{for_each}
use Rattle.jobs.specs.declared.Job.{Job}
use Rattle.jobs.specs.declared.Job.TheVariants as J

-- what a caller lends, all tables
pub record SearchTables : Type 0 where
  pub events : List Event
  pub paths : List ℕ
  pub plain : List ℕ
  pub undetected : List ℕ
  pub work : List ℕ

abbrev pub search_tables : List Event → List ℕ → List ℕ → List ℕ → List ℕ → SearchTables
search_tables es ps cs ds us = record { events = es; paths = ps; plain = cs; undetected = ds; work = us }

-- ---- 13 and 14, which set all that is lent to zero

unfoldable pub cleared_search : SearchTables → SearchTables
cleared_search t = search_tables (cleared no_event t.events) (cleared 0 t.paths) (cleared 0 t.plain) (cleared 0 t.undetected) (cleared 0 t.work)

-- 13 and 14: at most as many events as their table takes, and paths, for each of these orders? Events may be collected for a longer order than those whose
-- paths are listed (document 02, C-13 and C-17); else there is one of the same length.
unfoldable pub unless_too_many : {A L : Type 0} → (longer : Order) → (rows : List Order) → (entries numbers : ℕ) → L → Answer A × L → Answer A × L
unless_too_many {A} {L} longer rows entries numbers zeros outcome =
    let pathsFit : Answer A × L = cond (all (λ o. leb (length (paths o)) (path_room numbers)) rows) outcome (refused 14, zeros) in
    cond (leb (length (events longer)) entries) pathsFit (refused 13, zeros)

-- ---- an accepted call: the lists with zeros after them, and the work area zero

unfoldable pub filled_search : (longer o : Order) → List ℕ → SearchTables → SearchTables
filled_search longer o undetected t =
    search_tables (event_table (length t.events) longer) (path_table (length t.paths) o) (padded (length t.plain) 0 (plain_counts o))
    (padded (length t.undetected) 0 undetected) (cleared 0 t.work)

-- by who is chosen
unfoldable pub chosen : (longer o : Order) → SearchTables → Choice → Answer Row × SearchTables
chosen longer o t c =
    (accepted (row (length (events o)) (length (paths o)) c.polynomial c.shared), filled_search longer o c.undetected t)

-- events alone: the other tables stay
unfoldable pub collected : Order → SearchTables → Answer Row × SearchTables
collected longer t =
    (accepted (row (length (events longer)) 0 0 0), search_tables (event_table (length t.events) longer) t.paths t.plain t.undetected (cleared 0 t.work))

-- events and paths: the undetected list stays
unfoldable pub listed : (longer o : Order) → SearchTables → Answer Row × SearchTables
listed longer o t = (
  accepted (row (length (events o)) (length (paths o)) 0 0),
  search_tables (event_table (length t.events) longer) (path_table (length t.paths) o) (padded (length t.plain) 0 (plain_counts o)) t.undetected (cleared 0 t.work),
)

-- the counts of one polynomial, which was compared with nobody
unfoldable pub counted : (longer o : Order) → ℕ → SearchTables → Answer Row × SearchTables
counted longer o p t = chosen longer o t (record { polynomial = p; shared = 0; undetected = undetected_counts o p })

-- ---- what a job answers and leaves, for accepted orders

-- the orders whose paths are listed: that of the row first. A polynomial may be chosen for shorter lengths too (document 02, C-17)
unfoldable pub rows_of : Job → (shorter : List ℕ) → Order → List Order
rows_of J.Collect shorter o = []
rows_of J.List shorter o = o ∷ []
rows_of J.Choose shorter o = o ∷ []
rows_of J.ChooseFor shorter o = o ∷ for_each shorter o
rows_of (J.Count p) shorter o = o ∷ []

-- where all fit
unfoldable pub made : Job → (shorter : List ℕ) → (longer o : Order) → SearchTables → Answer Row × SearchTables
made J.Collect shorter longer o t = collected longer t
made J.List shorter longer o t = listed longer o t
made J.Choose shorter longer o t = chosen longer o t (choice o)
made J.ChooseFor shorter longer o t = chosen longer o t (set_choice o (o.N ∷ shorter))
made (J.Count p) shorter longer o t = counted longer o p t

unfoldable pub ran : Job → (shorter : List ℕ) → (longer o : Order) → SearchTables → Answer Row × SearchTables
ran job shorter longer o t = unless_too_many longer (rows_of job shorter o) (length t.events) (length t.paths) (cleared_search t) (made job shorter longer o t)
