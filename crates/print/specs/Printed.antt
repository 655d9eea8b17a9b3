-- What `dso` prints for the bytes of one record (document 01, as document 02 left the lines): the row of the order, found in tables for 512 events and 2,048 paths, or the refusal.
-- Assumes nothing.
use Rattle.std.specs.Prelude.{ℕ, List, replicate}
use Rattle.order.specs.Questions.{work_size}
use Rattle.order.specs.Order.{Order, read}
use Rattle.order.specs.Answer.{Answer, accepted, refused}
use Rattle.events.specs.Events.{no_event}
use Rattle.row.specs.declared.Row.{Row}
use Rattle.jobs.specs.Jobs.{SearchTables, search_tables}
use Rattle.search.specs.Calls.{search_call}
use Rattle.text.specs.Text.{refusal_text, answer_text}

-- the tables that it lends: two numbers a path, counts of every weight from 1 on that an order can have
unfoldable pub lent : SearchTables
lent = search_tables (replicate 512 no_event) (replicate 4096 0) (replicate 63 0) (replicate 63 0) (replicate work_size 0)

-- what the search answers, with the counts that it leaves
unfoldable pub printed_search : Order → Answer Row × SearchTables → List ℕ
printed_search o s = answer_text o s.0 s.1.plain s.1.undetected

unfoldable pub printed_reading : Answer Order → List ℕ
printed_reading (accepted o) = printed_search o (search_call o lent)
printed_reading (refused k) = refusal_text k

unfoldable pub printed : List ℕ → List ℕ
printed bytes = printed_reading (read bytes)
