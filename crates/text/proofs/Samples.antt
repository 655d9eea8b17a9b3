-- Document 01's example, and a refusal, by computation: the bytes as they are printed. A slip in the definitions shows here.
-- Assumes nothing.
use mathlib.Core.Path.{◌≡◌, refl}
use mathlib.Core.List.{[], ◌∷◌, flat_map}
use Rattle.lists.specs.Lists.{up_from}
use Rattle.order.specs.Order.{of_weight}
use Rattle.lines.specs.Lines.{digit, digits, numeral, decimal, octal, hexadecimal, line, wORDER, wEVENTS, wPATHS, w_a, wCRC, wNO, order_line, count_line, polynomial_line}
use Rattle.row.specs.Answered.{row}
use Rattle.text.specs.Text.{row_text, refusal_text}

-- ORDER 2 1 4 2 6 1 3, EVENTS 5, PATHS 13, A 1 0 0, A 2 0 0, A 3 4 0, A 4 5 1, A 5 4 0, CRC 0x5 1
document_row : row_text (record { version = 1; v = 1; N = 4; m = 2; d = 6; generators = 1 ∷ 3 ∷ [] }) (row 5 13 5 1) (0 ∷ 0 ∷ 4 ∷ 5 ∷ 4 ∷ []) (0 ∷ 0 ∷ 0 ∷ 1 ∷ 0 ∷ [])
    ≡ 79 ∷ 82 ∷ 68 ∷ 69 ∷ 82 ∷ 32 ∷ 50 ∷ 32 ∷ 49 ∷ 32 ∷ 52 ∷ 32 ∷ 50 ∷ 32 ∷ 54 ∷ 32 ∷ 49 ∷ 32 ∷ 51 ∷ 10
    ∷ 69 ∷ 86 ∷ 69 ∷ 78 ∷ 84 ∷ 83 ∷ 32 ∷ 53 ∷ 10
    ∷ 80 ∷ 65 ∷ 84 ∷ 72 ∷ 83 ∷ 32 ∷ 49 ∷ 51 ∷ 10
    ∷ 65 ∷ 32 ∷ 49 ∷ 32 ∷ 48 ∷ 32 ∷ 48 ∷ 10
    ∷ 65 ∷ 32 ∷ 50 ∷ 32 ∷ 48 ∷ 32 ∷ 48 ∷ 10
    ∷ 65 ∷ 32 ∷ 51 ∷ 32 ∷ 52 ∷ 32 ∷ 48 ∷ 10
    ∷ 65 ∷ 32 ∷ 52 ∷ 32 ∷ 53 ∷ 32 ∷ 49 ∷ 10
    ∷ 65 ∷ 32 ∷ 53 ∷ 32 ∷ 52 ∷ 32 ∷ 48 ∷ 10
    ∷ 67 ∷ 82 ∷ 67 ∷ 32 ∷ 48 ∷ 120 ∷ 53 ∷ 32 ∷ 49 ∷ 10 ∷ []
unfolding flat_map up_from digit digits numeral decimal octal hexadecimal line wORDER wEVENTS wPATHS w_a wCRC of_weight order_line count_line polynomial_line row_text
document_row = refl

-- NO 7
threshold_refused : refusal_text 7 ≡ 78 ∷ 79 ∷ 32 ∷ 55 ∷ 10 ∷ []
unfolding flat_map digit digits numeral decimal line wNO refusal_text
threshold_refused = refl
