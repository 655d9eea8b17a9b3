-- Document 01's rows marked ●, as document 02 (C-11 to C-17) left them, as one table: what is asked, and every figure of the answer. `proofs/Hold.antt` has
-- the one theorem, that each line's figures are what the definitions give. Where a document leaves a figure out, the line states it all the same.
-- Polynomials are in hexadecimal, the rest in decimal, as in the document. Code S has v = 1 and generators 1, 3. Links are tail-biting where it is not
-- said that they are terminated.
-- Assumes nothing.
use Rattle.std.specs.Prelude.{ℕ, ◌-◌, ◌*◌, List, [], ◌∷◌, length, replicate}
use Rattle.crc.specs.Check.{append_call}
use Rattle.code.specs.Weight.{weight}
use Rattle.order.specs.Questions.{first_no, work_size}
use Rattle.order.specs.Order.{Order, everything, order_questions}
use Rattle.events.specs.declared.Event.{Event}
use Rattle.events.specs.Events.{ErrorEvent, events, no_event}
use Rattle.paths.specs.Paths.{paths, plain_counts, path_table}
use Rattle.paths.specs.Part.{part_of, part_number}
use Rattle.order.specs.Answer.{Answer, accepted, refused}
use Rattle.row.specs.declared.Row.{Row}
use Rattle.row.specs.Answered.{row as found}
use Rattle.choice.specs.Choice.{candidates}
use Rattle.narrowing.specs.Narrowed.{narrowed}
use Rattle.jobs.specs.Jobs.{SearchTables, search_tables}
use Rattle.search.specs.Calls.{search_call}
use Rattle.quote.specs.Calls.{quote_call}
use Rattle.set.specs.Calls.{set_call}

-- what a line asks: the row of an order; what the search, quoting the length N', and the search for a set of lengths answer and leave of what they are lent; who is left after some lengths; the first question about an
-- order that says no, or 0; the weight of a word; the word of a message; the part of one weight
pub data Ask : Type 0 where
  row : Order → Ask
  searched : Order → SearchTables → Ask
  quoted : Order → (N' : ℕ) → SearchTables → Ask
  set : Order → (Ns : List ℕ) → SearchTables → Ask
  left : Order → (Ns : List ℕ) → Ask
  question : Order → Ask
  weigh : Order → (word : ℕ) → Ask
  word : (N m polynomial message : ℕ) → Ask
  part : (plain : List ℕ) (w : ℕ) (table : List ℕ) → Ask

pub record Figures : Type 0 where
  pub answer : Answer Row
  pub events : List ErrorEvent
  pub paths : List ℕ
  pub plain : List ℕ
  pub undetected : List ℕ

pub data Told : Type 0 where
  figures : Figures → Told
  answer_and_tables : Answer Row × SearchTables → Told
  a_number : ℕ → Told
  an_answer : Answer ℕ → Told
  a_part : (number : ℕ) → List ℕ → Told
  numbers : List ℕ → Told

-- what the definitions give, with `dso`'s tables lent: 512 events, 2,048 paths
unfoldable pub lent : ℕ → SearchTables
lent d = search_tables (replicate 512 no_event) (replicate (2 * 2048) 0) (replicate (d - 1) 0) (replicate (d - 1) 0) (replicate work_size 0)

unfoldable pub figures_of : Order → Figures
figures_of o =
    let s = search_call o (lent o.d) in
    record { answer = s.0; events = events o; paths = paths o; plain = plain_counts o; undetected = s.1.undetected }

unfoldable pub told : Ask → Told
told (row o) = figures (figures_of o)
told (searched o t) = answer_and_tables (search_call o t)
told (quoted o N' t) = answer_and_tables (quote_call o N' t)
told (set o Ns t) = answer_and_tables (set_call o Ns t)
told (left o Ns) = numbers (narrowed o Ns (candidates o.m))
told (question o) = a_number (first_no (order_questions everything o))
told (weigh o u) = a_number (weight o u)
told (word N m p f) = an_answer (append_call N m p f)
told (part plain w table) = a_part (part_number plain w table) (part_of plain w table)

-- ---- the table

-- a line: what is asked, and what is told
abbrev pub Line : Type 0
Line = Ask × Told

-- an event as document 01 writes it: state, length, weight, input
abbrev event : ℕ → ℕ → ℕ → ℕ → ErrorEvent
event s l w c = record { state = s; length = l; weight = w; input = c }

abbrev order : (version v N m d : ℕ) → List ℕ → Order
order version v N m d gs = record { version = version; v = v; N = N; m = m; d = d; generators = gs }

-- a code alone: m and d are not asked about
abbrev code : (version v N : ℕ) → List ℕ → Order
code version v N gs = order version v N 0 0 gs

abbrev line_of : Order → Answer Row → List ErrorEvent → List ℕ → List ℕ → List ℕ → Line
line_of o answer es us plain undetected = (
  row o,
  figures (record { answer = answer; events = es; paths = us; plain = plain; undetected = undetected }),
)

-- of a tail-biting link
abbrev line : (v N m d : ℕ) → List ℕ → Answer Row → List ErrorEvent → List ℕ → List ℕ → List ℕ → Line
line v N m d gs = line_of (order 1 v N m d gs)

abbrev S : List ℕ
S = 1 ∷ 3 ∷ []

-- an entry of the event table: state, length, weight, and the input's low half; the other is 0
abbrev entry : ℕ → ℕ → ℕ → ℕ → Event
entry s l w c = record { state = s; length = l; weight = w; low = c; high = 0 }

-- tables that are lent with something in every place: for so many events, paths and weights
unfoldable pub filled_with7 : (entries paths weights : ℕ) → SearchTables
filled_with7 entries paths weights =
    search_tables (replicate entries (record { state = 7; length = 7; weight = 7; low = 7; high = 7 })) (replicate (2 * paths) 7)
    (replicate weights 7) (replicate weights 7) (replicate work_size 7)

unfoldable pub marked : SearchTables
marked = filled_with7 2 2 1

-- the plain counts and the path table of S, N=4, d=6
abbrev plain₄ : List ℕ
plain₄ = 0 ∷ 0 ∷ 4 ∷ 5 ∷ 4 ∷ []

unfoldable pub paths₄ : List ℕ
paths₄ = path_table 26 (order 1 1 4 2 6 S)

unfoldable pub rows : List Line
rows =
    -- S, N=3, m=2, d=5: 4 events, 7 paths, 0x5, undetected 0 0 0 1 from weight 1 on
    line 1 3 2 5 S (accepted (found 4 7 0x5 1))
    (event 0 1 0 0 ∷ event 0 2 3 1 ∷ event 0 3 4 3 ∷ event 1 1 1 1 ∷ [])
    (1 ∷ 2 ∷ 4 ∷ 7 ∷ 3 ∷ 5 ∷ 6 ∷ [])
    (0 ∷ 0 ∷ 4 ∷ 3 ∷ []) (0 ∷ 0 ∷ 0 ∷ 1 ∷ [])
    -- with d=4: 0x5, all zero
    ∷ line 1 3 2 4 S (accepted (found 3 4 0x5 1))
    (event 0 1 0 0 ∷ event 0 2 3 1 ∷ event 1 1 1 1 ∷ [])
    (1 ∷ 2 ∷ 4 ∷ 7 ∷ [])
    (0 ∷ 0 ∷ 4 ∷ []) (0 ∷ 0 ∷ 0 ∷ [])
    -- with d=3: 0x5, of two that share 0 0
    ∷ line 1 3 2 3 S (accepted (found 2 0 0x5 2))
    (event 0 1 0 0 ∷ event 1 1 1 1 ∷ [])
    []
    (0 ∷ 0 ∷ []) (0 ∷ 0 ∷ [])
    -- S, N=4, m=2, d=5: 0x5, of two that share 0 0 0 1
    ∷ line 1 4 2 5 S (accepted (found 4 9 0x5 2))
    (event 0 1 0 0 ∷ event 0 2 3 1 ∷ event 0 3 4 3 ∷ event 1 1 1 1 ∷ [])
    (1 ∷ 2 ∷ 4 ∷ 8 ∷ 3 ∷ 6 ∷ 9 ∷ 12 ∷ 15 ∷ [])
    (0 ∷ 0 ∷ 4 ∷ 5 ∷ []) (0 ∷ 0 ∷ 0 ∷ 1 ∷ [])
    -- with m=3: 0xB, of two that share 0 0 0 0; the other is 0xD, and 0x9 and 0xF are worse
    ∷ line 1 4 3 5 S (accepted (found 4 9 0xB 2))
    (event 0 1 0 0 ∷ event 0 2 3 1 ∷ event 0 3 4 3 ∷ event 1 1 1 1 ∷ [])
    (1 ∷ 2 ∷ 4 ∷ 8 ∷ 3 ∷ 6 ∷ 9 ∷ 12 ∷ 15 ∷ [])
    (0 ∷ 0 ∷ 4 ∷ 5 ∷ []) (0 ∷ 0 ∷ 0 ∷ 0 ∷ [])
    -- with d=6: 0x5 (the row that document 01 prints)
    ∷ line 1 4 2 6 S (accepted (found 5 13 0x5 1))
    (event 0 1 0 0 ∷ event 0 2 3 1 ∷ event 0 3 4 3 ∷ event 0 4 5 7 ∷ event 1 1 1 1 ∷ [])
    (1 ∷ 2 ∷ 4 ∷ 8 ∷ 3 ∷ 6 ∷ 9 ∷ 12 ∷ 15 ∷ 7 ∷ 11 ∷ 13 ∷ 14 ∷ [])
    (0 ∷ 0 ∷ 4 ∷ 5 ∷ 4 ∷ []) (0 ∷ 0 ∷ 0 ∷ 1 ∷ 0 ∷ [])
    -- S, N=4, d=7: 15 paths; words 5 and 10 weigh 6 and stand once each
    ∷ line 1 4 2 7 S (accepted (found 5 15 0x5 1))
    (event 0 1 0 0 ∷ event 0 2 3 1 ∷ event 0 3 4 3 ∷ event 0 4 5 7 ∷ event 1 1 1 1 ∷ [])
    (1 ∷ 2 ∷ 4 ∷ 8 ∷ 3 ∷ 6 ∷ 9 ∷ 12 ∷ 15 ∷ 7 ∷ 11 ∷ 13 ∷ 14 ∷ 5 ∷ 10 ∷ [])
    (0 ∷ 0 ∷ 4 ∷ 5 ∷ 4 ∷ 2 ∷ []) (0 ∷ 0 ∷ 0 ∷ 1 ∷ 0 ∷ 2 ∷ [])
    ∷ (weigh (code 1 1 4 S) 5, a_number 6)
    ∷ (weigh (code 1 1 4 S) 10, a_number 6)
    -- S, N=2, m=1, d=3: 0x3, undetected 0 1
    ∷ line 1 2 1 3 S (accepted (found 2 1 0x3 1))
    (event 0 1 0 0 ∷ event 1 1 1 1 ∷ [])
    (3 ∷ [])
    (0 ∷ 1 ∷ []) (0 ∷ 1 ∷ [])
    -- generators 3, 3, v=1, N=2, m=1, d=1: refusal 16, and nothing lent is changed (word 3 weighs 0)
    ∷ (searched (order 1 1 2 1 1 (3 ∷ 3 ∷ [])) marked, answer_and_tables (refused 16, marked))
    ∷ (weigh (code 1 1 2 (3 ∷ 3 ∷ [])) 3, a_number 0)
    -- 5, 3 with v=2: refusal 16; 13, 17 (octal) pass
    ∷ (question (order 1 2 4 2 6 (0x5 ∷ 0x3 ∷ [])), a_number 16)
    ∷ (question (order 1 3 70 6 18 (0xB ∷ 0xF ∷ [])), a_number 0)
    -- terminated, S, N=3, m=2, d=6: 4 events, 6 paths, 0x5; word 7 weighs 5, and 3 on a tail-biting link
    ∷ line_of (order 2 1 3 2 6 S) (accepted (found 4 6 0x5 1))
    (event 0 1 0 0 ∷ event 0 2 3 1 ∷ event 0 3 4 3 ∷ event 0 4 5 7 ∷ [])
    (1 ∷ 2 ∷ 4 ∷ 3 ∷ 6 ∷ 7 ∷ [])
    (0 ∷ 0 ∷ 3 ∷ 2 ∷ 1 ∷ []) (0 ∷ 0 ∷ 0 ∷ 0 ∷ 0 ∷ [])
    ∷ (weigh (code 2 1 3 S) 7, a_number 5)
    ∷ (weigh (code 1 1 3 S) 7, a_number 3)
    -- terminated, S, N=3, m=2, d=5: 0x5, of two that share 0 0 0 0
    ∷ line_of (order 2 1 3 2 5 S) (accepted (found 3 5 0x5 2))
    (event 0 1 0 0 ∷ event 0 2 3 1 ∷ event 0 3 4 3 ∷ [])
    (1 ∷ 2 ∷ 4 ∷ 3 ∷ 6 ∷ [])
    (0 ∷ 0 ∷ 3 ∷ 2 ∷ []) (0 ∷ 0 ∷ 0 ∷ 0 ∷ [])
    -- version 3: refusal 2, before any question about the generators, and nothing lent is changed
    ∷ (searched (order 3 1 2 1 1 []) marked, answer_and_tables (refused 2, marked))
    -- S, N=4, quoted N'=3, m=2, d=6: 4 events, 7 paths, 0x5, and 5 events are left in the table
    ∷ (
      quoted (order 1 1 4 2 6 S) 3 (filled_with7 6 8 7),
      answer_and_tables (
        accepted (found 4 7 0x5 1),
        search_tables (entry 0 1 0 0 ∷ entry 0 2 3 1 ∷ entry 0 3 4 3 ∷ entry 0 4 5 7 ∷ entry 1 1 1 1 ∷ entry 0 0 0 0 ∷ [])
            (1 ∷ 0 ∷ 2 ∷ 0 ∷ 4 ∷ 0 ∷ 7 ∷ 0 ∷ 3 ∷ 0 ∷ 5 ∷ 0 ∷ 6 ∷ 0 ∷ 0 ∷ 0 ∷ [])
            (0 ∷ 0 ∷ 4 ∷ 3 ∷ 0 ∷ 0 ∷ 0 ∷ []) (0 ∷ 0 ∷ 0 ∷ 1 ∷ 0 ∷ 0 ∷ 0 ∷ []) (replicate work_size 0),
      ),
    )
    -- with d=3: 0x5, of two that share 0 0, and the 2 events for N=4 are left
    ∷ (
      quoted (order 1 1 4 2 3 S) 3 (filled_with7 3 1 2),
      answer_and_tables (
        accepted (found 2 0 0x5 2),
        search_tables (entry 0 1 0 0 ∷ entry 1 1 1 1 ∷ entry 0 0 0 0 ∷ []) (0 ∷ 0 ∷ []) (0 ∷ 0 ∷ []) (0 ∷ 0 ∷ []) (replicate work_size 0),
      ),
    )
    -- N'=5 is above N: refusal 5; N'=2 is not above m: refusal 6; a terminated link: refusal 2; nothing lent is changed
    ∷ (quoted (order 1 1 4 2 6 S) 5 (filled_with7 6 8 7), answer_and_tables (refused 5, filled_with7 6 8 7))
    ∷ (quoted (order 1 1 4 2 6 S) 2 (filled_with7 6 8 7), answer_and_tables (refused 6, filled_with7 6 8 7))
    ∷ (quoted (order 2 1 4 2 6 S) 3 (filled_with7 6 8 7), answer_and_tables (refused 2, filled_with7 6 8 7))
    -- four entries take the events for N'=3, but not those for N=4: refusal 13, and all is zero
    ∷ (
      quoted (order 1 1 4 2 6 S) 3 (filled_with7 4 8 7),
      answer_and_tables (refused 13, search_tables (replicate 4 no_event) (replicate 16 0) (replicate 7 0) (replicate 7 0) (replicate work_size 0)),
    )
    -- S, m=2, d=6, lengths 4 and 3: 0x5 alone, with the tables of N=4; the order's own N, 0 here, is not looked at
    ∷ (
      set (order 1 1 0 2 6 S) (4 ∷ 3 ∷ []) (filled_with7 5 13 5),
      answer_and_tables (
        accepted (found 5 13 0x5 1),
        search_tables (entry 0 1 0 0 ∷ entry 0 2 3 1 ∷ entry 0 3 4 3 ∷ entry 0 4 5 7 ∷ entry 1 1 1 1 ∷ [])
            (1 ∷ 0 ∷ 2 ∷ 0 ∷ 4 ∷ 0 ∷ 8 ∷ 0 ∷ 3 ∷ 0 ∷ 6 ∷ 0 ∷ 9 ∷ 0 ∷ 12 ∷ 0 ∷ 15 ∷ 0 ∷ 7 ∷ 0 ∷ 11 ∷ 0 ∷ 13 ∷ 0 ∷ 14 ∷ 0 ∷ [])
            (0 ∷ 0 ∷ 4 ∷ 5 ∷ 4 ∷ []) (0 ∷ 0 ∷ 0 ∷ 1 ∷ 0 ∷ []) (replicate work_size 0),
      ),
    )
    -- the first length leaves both polynomials, the second one: S, m=2, d=5, lengths 4 and 3; alone, 4 has two that share the counts
    ∷ (
      set (order 1 1 4 2 5 S) (4 ∷ 3 ∷ []) (filled_with7 4 9 4),
      answer_and_tables (
        accepted (found 4 9 0x5 1),
        search_tables (entry 0 1 0 0 ∷ entry 0 2 3 1 ∷ entry 0 3 4 3 ∷ entry 1 1 1 1 ∷ [])
            (1 ∷ 0 ∷ 2 ∷ 0 ∷ 4 ∷ 0 ∷ 8 ∷ 0 ∷ 3 ∷ 0 ∷ 6 ∷ 0 ∷ 9 ∷ 0 ∷ 12 ∷ 0 ∷ 15 ∷ 0 ∷ [])
            (0 ∷ 0 ∷ 4 ∷ 5 ∷ []) (0 ∷ 0 ∷ 0 ∷ 1 ∷ []) (replicate work_size 0),
      ),
    )
    -- the order of narrowing matters: generators 1, 5, m=2, d=4. At 4 bits 0x7 leaves nothing, at 3 bits 0x5; longest first it is 0x7, shortest first 0x5
    ∷ (left (order 1 2 4 2 4 (1 ∷ 5 ∷ [])) (4 ∷ 3 ∷ []), numbers (0x7 ∷ []))
    ∷ (left (order 1 2 4 2 4 (1 ∷ 5 ∷ [])) (3 ∷ 4 ∷ []), numbers (0x5 ∷ []))
    ∷ (
      set (order 1 2 4 2 4 (1 ∷ 5 ∷ [])) (4 ∷ 3 ∷ []) (filled_with7 4 6 3),
      answer_and_tables (
        accepted (found 4 6 0x7 1),
        search_tables (entry 0 1 0 0 ∷ entry 0 3 3 1 ∷ entry 1 2 1 2 ∷ entry 3 1 1 1 ∷ []) (5 ∷ 0 ∷ 10 ∷ 0 ∷ 1 ∷ 0 ∷ 2 ∷ 0 ∷ 4 ∷ 0 ∷ 8 ∷ 0 ∷ [])
            (0 ∷ 2 ∷ 4 ∷ []) (0 ∷ 0 ∷ 0 ∷ []) (replicate work_size 0),
      ),
    )
    -- a list that does not fall: refusal 17, and nothing lent is changed
    ∷ (set (order 1 2 4 2 4 (1 ∷ 5 ∷ [])) (3 ∷ 4 ∷ []) marked, answer_and_tables (refused 17, marked))
    -- so no length, nine lengths and equal ones, before question 5 and after 4
    ∷ (set (order 1 1 4 2 3 S) [] marked, answer_and_tables (refused 17, marked))
    ∷ (set (order 1 1 4 2 3 S) (12 ∷ 11 ∷ 10 ∷ 9 ∷ 8 ∷ 7 ∷ 6 ∷ 5 ∷ 4 ∷ []) marked, answer_and_tables (refused 17, marked))
    ∷ (set (order 1 1 4 2 3 S) (200 ∷ 200 ∷ []) marked, answer_and_tables (refused 17, marked))
    ∷ (set (order 1 0 4 2 3 S) [] marked, answer_and_tables (refused 4, marked))
    -- 5 of every length; 6 of the shortest, which 2 bits do not pass for m=2
    ∷ (set (order 1 1 4 2 3 S) (129 ∷ 4 ∷ []) marked, answer_and_tables (refused 5, marked))
    ∷ (set (order 1 1 4 2 3 S) (4 ∷ 2 ∷ []) marked, answer_and_tables (refused 6, marked))
    -- 14 of each length: S, m=1, d=3 has no path of 3 bits and one of 2, and a table for no path is refused, all zero
    ∷ (
      set (order 1 1 3 1 3 S) (3 ∷ 2 ∷ []) (filled_with7 3 0 2),
      answer_and_tables (refused 14, search_tables (replicate 3 no_event) [] (replicate 2 0) (replicate 2 0) (replicate work_size 0)),
    )
    -- d=1 leaves lists of no entries: S, N=4, m=1 has 1 event, no path and 0x3 alone; so has a terminated link, N=3
    ∷ line 1 4 1 1 S (accepted (found 1 0 0x3 1)) (event 0 1 0 0 ∷ []) [] [] []
    ∷ line_of (order 2 1 3 1 1 S) (accepted (found 1 0 0x3 1)) (event 0 1 0 0 ∷ []) [] [] []
    -- d=3 wants two entries of each list of counts: refusal 10 with one, and nothing lent is changed
    ∷ (searched (order 1 1 3 2 3 S) marked, answer_and_tables (refused 10, marked))
    -- the parts of 13 paths, N=4, d=6: weight 3 stands first, weight 4 after it; weight 1 has a part of nothing, and weights 0 and 6 have none: 10
    ∷ (part plain₄ 3 paths₄, a_part 0 (1 ∷ 0 ∷ 2 ∷ 0 ∷ 4 ∷ 0 ∷ 8 ∷ 0 ∷ []))
    ∷ (part plain₄ 4 paths₄, a_part 0 (3 ∷ 0 ∷ 6 ∷ 0 ∷ 9 ∷ 0 ∷ 12 ∷ 0 ∷ 15 ∷ 0 ∷ []))
    ∷ (part plain₄ 5 paths₄, a_part 0 (7 ∷ 0 ∷ 11 ∷ 0 ∷ 13 ∷ 0 ∷ 14 ∷ 0 ∷ []))
    ∷ (part plain₄ 1 paths₄, a_part 0 [])
    ∷ (part plain₄ 0 paths₄, a_part 10 [])
    ∷ (part plain₄ 6 paths₄, a_part 10 [])
    -- m=2, N=4: message 1 under 0x7 gives word 7; message 3 under 0x5 gives word 15
    ∷ (word 4 2 0x7 1, an_answer (accepted 7))
    ∷ (word 4 2 0x5 3, an_answer (accepted 15))
    ∷ []
