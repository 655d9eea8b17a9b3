-- What quoting a shorter length answers and leaves (document 02, C-13: collect long, quote short): events are collected for words of N bits, the length of
-- the order, and the row is the one for words of N' bits, at most N. For every order, every N' and whatever tables are lent.
-- Question 5 is asked of both lengths, 13 of N, 14 of N'; else they are those of the search for N', but that 2 wants a tail-biting link.
-- Assumes nothing.
use Rattle.std.specs.Prelude.{ℕ, true, cond, List, [], leb}
use Rattle.order.specs.Questions.{Question, longest_word}
use Rattle.order.specs.Order.{Order}
use Rattle.order.specs.Answer.{Answer}
use Rattle.order.specs.declared.questions.Takes.{Takes}
use Rattle.row.specs.declared.Row.{Row}
use Rattle.jobs.specs.declared.Job.TheVariants as J
use Rattle.jobs.specs.Jobs.{SearchTables}
use Rattle.calls.specs.Calls.{Call, questions, call}

-- the longest length that may be quoted: the order's own, where that has at most 128 bits
unfoldable pub longest_quoted : ℕ → ℕ
longest_quoted N = cond (leb N longest_word) N 0

-- what is taken of an order of N bits: tail-biting links alone, lengths up to N, and everything else
abbrev pub quotable : ℕ → Takes
quotable N = record { versions = 1; longest = longest_quoted N; degree = true; threshold = true }

-- the row for N', its events collected for N
abbrev pub quoting : Order → ℕ → Call
quoting o N' = record { order = o; takes = quotable o.N; N = N'; shorter = []; job = J.Choose }

unfoldable pub quote_questions : Order → (N' plain undetected work : ℕ) → List Question
quote_questions o N' plain undetected work = questions (quoting o N') plain undetected work

unfoldable pub quote_call : Order → ℕ → SearchTables → Answer Row × SearchTables
quote_call o N' t = call (quoting o N') t
