-- What is printed (document 01, "What `dso` prints", as document 02 left its lines): the row of an order, or a refusal, as bytes.
-- Assumes nothing.
use Rattle.std.specs.Prelude.{ℕ, ◌-◌}
use mathlib.Core.List.{List, [], ◌∷◌, ◌++◌, flat_map}
use Rattle.lists.specs.Lists.{up_from}
use Rattle.lines.specs.Lines.{decimal, line, wEVENTS, wPATHS, wNO, order_line, count_line, polynomial_line}
use Rattle.order.specs.Order.{Order}
use Rattle.order.specs.Answer.{Answer, accepted, refused}
use Rattle.row.specs.declared.Row.{Row}

-- the row of an order: how many events and paths there are, both counts of every weight from 1 to below d, the polynomial and how many share its counts
unfoldable pub row_text : Order → Row → (plain undetected : List ℕ) → List ℕ
row_text o r plain undetected =
    order_line o ++ (line wEVENTS (decimal r.events ∷ []) ++ (line wPATHS (decimal r.paths ∷ [])
    ++ (flat_map (count_line plain undetected) (up_from 1 (o.d - 1)) ++ polynomial_line r.polynomial r.shared)))

-- a refusal: its number
unfoldable pub refusal_text : ℕ → List ℕ
refusal_text number = line wNO (decimal number ∷ [])

-- what a call answered: its row, or its refusal
unfoldable pub answer_text : Order → Answer Row → (plain undetected : List ℕ) → List ℕ
answer_text o (accepted r) plain undetected = row_text o r plain undetected
answer_text o (refused k) plain undetected = refusal_text k
