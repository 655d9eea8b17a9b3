-- What the calls that make text answer and leave, for every input. Their questions are 2, 3, 7 and 10 of document 01, as far as they take the values.
-- Assumes nothing.
use Rattle.std.specs.Prelude.{ℕ, ◌-◌, List, [], ◌∷◌, length, Result, Ok, Err}
use Rattle.lists.specs.Lists.{padded}
use Rattle.order.specs.Questions.{Question, first_no, highest_version, link_kind, generator_count, threshold, room}
use Rattle.order.specs.Order.{Order}
use Rattle.order.specs.Answer.{Answer, accepted, refused, unless_refused}
use Rattle.row.specs.declared.Row.{Row}
use Rattle.text.specs.Text.{refusal_text, answer_text}

-- the bytes that a text buffer must have; no text has more
unfoldable pub text_size : ℕ
text_size = 4096

-- what a host hands back: a row, or any number as a refusal's
abbrev pub handed_back : Result Row ℕ → Answer Row
handed_back (Ok r) = accepted r
handed_back (Err k) = refused k

-- the text with zeros after it
unfoldable pub laid_out : List ℕ → List ℕ → Answer ℕ × List ℕ
laid_out text buffer = (accepted (length text), padded (length buffer) 0 text)

-- Of an order only the kind of link, n and d are asked about: a row is printed as it is told, for an order that a call has accepted before. This is the one call that
-- does not ask all questions about the values that it takes.
unfoldable pub row_questions : (version n d plain undetected size : ℕ) → List Question
row_questions version n d plain undetected size =
    link_kind highest_version version ∷ generator_count n ∷ threshold d ∷ room (d - 1) plain ∷ room (d - 1) undetected ∷ room text_size size ∷ []

-- of a refusal, nothing but the text's room
unfoldable pub refusal_questions : ℕ → List Question
refusal_questions size = room text_size size ∷ []

unfoldable pub answer_questions : Order → Answer Row → (plain undetected size : ℕ) → List Question
answer_questions o (accepted r) plain undetected size = row_questions o.version (length o.generators) o.d plain undetected size
answer_questions o (refused k) plain undetected size = refusal_questions size

-- the text of what a call answered
unfoldable pub row_call : Order → Answer Row → (plain undetected : List ℕ) → List ℕ → Answer ℕ × List ℕ
row_call o answer plain undetected buffer =
    unless_refused (first_no (answer_questions o answer (length plain) (length undetected) (length buffer))) buffer (laid_out (answer_text o answer plain undetected) buffer)

unfoldable pub refusal_call : (number : ℕ) → List ℕ → Answer ℕ × List ℕ
refusal_call number buffer = unless_refused (first_no (refusal_questions (length buffer))) buffer (laid_out (refusal_text number) buffer)
