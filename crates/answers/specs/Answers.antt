-- The structs that hosts see, for each answer of document 01: the number of the refusal or 0, then the values.
-- Assumes nothing.
use Rattle.std.specs.Prelude.{cond, List, ℕ, replicate, ◌-◌, ◌*◌, ◌/◌, ◌%◌, ◌^◌}
use Rattle.order.specs.Answer.{Answer, accepted, refused, refusal_number, unless}
use Rattle.order.specs.Order.{Order, of_weight}
use Rattle.order.specs.Answers.{recorded}
use Rattle.order.specs.declared.record.OrderRecord.{OrderRecord}
use Rattle.row.specs.declared.Row.{Row}
use Rattle.row.specs.Answered.{row}
use Rattle.crc.specs.Check.{Stripping, message, damaged, Divisibility, divisible, indivisible}
use Rattle.paths.specs.Part.{paths_to, part_fits}
use Rattle.answers.specs.declared.HostAnswer.{HostAnswer}
use Rattle.answers.specs.declared.PartAnswer.{PartAnswer}
use Rattle.answers.specs.declared.RowAnswer.{RowAnswer}
use Rattle.answers.specs.declared.Reading.{Reading}

-- a refusal alone; one number; one word, the low half first
unfoldable pub refusal_answer : ℕ → HostAnswer
refusal_answer k = record { refusal = k; value = 0; low = 0; high = 0 }

unfoldable pub number_answer : ℕ → HostAnswer
number_answer x = record { refusal = 0; value = x; low = 0; high = 0 }

unfoldable pub word_answer : ℕ → HostAnswer
word_answer u = record { refusal = 0; value = 0; low = u % 2 ^ 64; high = u / 2 ^ 64 }

-- an answer, by how its value is shown
unfoldable pub told : {A : Type 0} → (A → HostAnswer) → Answer A → HostAnswer
told shown (accepted x) = shown x
told shown (refused k) = refusal_answer k

-- the same with what a call leaves
unfoldable pub told_with : {A L : Type 0} → (A → HostAnswer) → Answer A × L → HostAnswer × L
told_with shown (a, left) = (told shown a, left)

-- strip: the message, or the nonzero remainder as the number
unfoldable pub stripped_answer : Stripping → HostAnswer
stripped_answer (message f) = word_answer f
stripped_answer (damaged r) = number_answer r

-- test: 1 for divisible, 0 for not
unfoldable pub tested_answer : Divisibility → HostAnswer
tested_answer divisible = number_answer 1
tested_answer indivisible = number_answer 0

-- the encoder: its number alone, and the output that it leaves
unfoldable pub numbered : {A L : Type 0} → Answer A × L → ℕ × L
numbered (a, left) = (refusal_number a, left)

-- a call over lent tables: the numbers of its row, or the refusal and zeros; and the tables that it leaves
unfoldable pub row_answer : Answer Row → RowAnswer
row_answer (accepted r) = record { refusal = 0; row = r }
row_answer (refused k) = record { refusal = k; row = row 0 0 0 0 }

unfoldable pub row_with : {L : Type 0} → Answer Row × L → RowAnswer × L
row_with (a, left) = (row_answer a, left)

-- the answer that a host hands back for its text
unfoldable pub answer_in : RowAnswer → Answer Row
answer_in r = unless r.refusal (accepted r.row)

-- an order that was read, as a struct; or the refusal's number, and no order
unfoldable pub no_order : OrderRecord
no_order = record { version = 0; n = 0; v = 0; bits = 0; m = 0; d = 0; generators = replicate 4 0 }

unfoldable pub reading : Answer OrderRecord → Reading
reading (accepted o) = record { refusal = 0; order = o }
reading (refused k) = record { refusal = k; order = no_order }

-- what reading a record answers
unfoldable pub reading_of : Answer Order → Reading
reading_of answer = reading (recorded answer)

-- the part of one weight: its first number in the caller's table, and how many numbers it has, two a path
unfoldable pub part_answer : List ℕ → ℕ → List ℕ → PartAnswer
part_answer counts w table =
    cond (part_fits counts w table) record { refusal = 0; start = 2 * paths_to counts (w - 1); numbers = 2 * of_weight w counts } record { refusal = 10; start = 0; numbers = 0 }
