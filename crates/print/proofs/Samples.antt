-- What is printed for document 01's record and for no bytes at all, by computation.
-- Assumes nothing.
use mathlib.Core.Path.{◌≡◌, refl}
use mathlib.Core.List.{[], ◌∷◌, flat_map}
use lib.Count.{ones_in, ones}
use Rattle.lists.specs.Lists.{up_from, filter, count, all, any, padded, cleared}
use Rattle.poly.specs.Poly.{bit, ◌⊕◌, digits_through, horner, ◌⊗◌, register, remainder}
use Rattle.gcd.specs.SharedFactor.{divides, total, share_factor}
use Rattle.code.specs.Links.{terminated, steps_of, output, event_states}
use Rattle.code.specs.Weight.{weight_of, weight}
use Rattle.code.specs.Trellis.{next, tapped, step_output, step_weight, walk_weight, first_meets}
use Rattle.order.specs.Questions.{first_no, from_to, in_range, has_bit, work_size, shape_questions, generator_questions}
use Rattle.order.specs.Order.{of_weight, be16, read_generators, read_fields, length_right, version_right, count_right, record_questions, with_length, if_taken, number_questions, order_questions, read}
use Rattle.order.specs.Answer.{unless, unless_refused}
use Rattle.events.specs.Events.{is_listed, events_of_length, events_of_state, events, entry, no_event, event_table}
use Rattle.poly.specs.Word.{halves}
use Rattle.paths.specs.Paths.{words, words_of_weight, weights, paths, plain_counts, path_table, path_room}
use Rattle.undetected.specs.Undetected.{passes, undetected_count, undetected_counts}
use Rattle.choice.specs.Choice.{candidates, fewer, unbettered, best, first_of, choice_among, choice}
use Rattle.jobs.specs.Jobs.{unless_too_many, cleared_search, filled_search, chosen, rows_of, made, ran}
use Rattle.calls.specs.Calls.{job_questions, questions, call}
use Rattle.search.specs.Calls.{search_questions, search_call}
use Rattle.lines.specs.Lines.{digit, digits, numeral, decimal, octal, hexadecimal, line, wORDER, wEVENTS, wPATHS, w_a, wCRC, wNO, order_line, count_line, polynomial_line}
use Rattle.text.specs.Text.{row_text, refusal_text, answer_text}
use Rattle.print.specs.Printed.{lent, printed_search, printed_reading, printed}

-- 00 0A 01 02 01 04 02 06 00 01 00 03
document_printed : printed (0 ∷ 10 ∷ 1 ∷ 2 ∷ 1 ∷ 4 ∷ 2 ∷ 6 ∷ 0 ∷ 1 ∷ 0 ∷ 3 ∷ [])
    ≡ 79 ∷ 82 ∷ 68 ∷ 69 ∷ 82 ∷ 32 ∷ 50 ∷ 32 ∷ 49 ∷ 32 ∷ 52 ∷ 32 ∷ 50 ∷ 32 ∷ 54 ∷ 32 ∷ 49 ∷ 32 ∷ 51 ∷ 10
    ∷ 69 ∷ 86 ∷ 69 ∷ 78 ∷ 84 ∷ 83 ∷ 32 ∷ 53 ∷ 10
    ∷ 80 ∷ 65 ∷ 84 ∷ 72 ∷ 83 ∷ 32 ∷ 49 ∷ 51 ∷ 10
    ∷ 65 ∷ 32 ∷ 49 ∷ 32 ∷ 48 ∷ 32 ∷ 48 ∷ 10
    ∷ 65 ∷ 32 ∷ 50 ∷ 32 ∷ 48 ∷ 32 ∷ 48 ∷ 10
    ∷ 65 ∷ 32 ∷ 51 ∷ 32 ∷ 52 ∷ 32 ∷ 48 ∷ 10
    ∷ 65 ∷ 32 ∷ 52 ∷ 32 ∷ 53 ∷ 32 ∷ 49 ∷ 10
    ∷ 65 ∷ 32 ∷ 53 ∷ 32 ∷ 52 ∷ 32 ∷ 48 ∷ 10
    ∷ 67 ∷ 82 ∷ 67 ∷ 32 ∷ 48 ∷ 120 ∷ 53 ∷ 32 ∷ 49 ∷ 10 ∷ []
unfolding flat_map ones_in ones up_from filter count all any padded cleared bit ◌⊕◌ digits_through horner ◌⊗◌ register remainder terminated steps_of output event_states weight_of weight next tapped
    step_output step_weight walk_weight first_meets first_no from_to in_range has_bit work_size divides total share_factor shape_questions with_length if_taken number_questions generator_questions order_questions
    unless unless_refused is_listed events_of_length events_of_state events entry no_event event_table words words_of_weight weights paths plain_counts halves path_table path_room passes undetected_count
    undetected_counts candidates fewer unbettered best first_of choice_among choice unless_too_many cleared_search filled_search job_questions questions search_questions chosen rows_of made ran call search_call
    digit digits numeral decimal octal hexadecimal line wORDER wEVENTS wPATHS w_a wCRC of_weight order_line count_line polynomial_line row_text be16 read_generators read_fields length_right version_right
    count_right record_questions read lent answer_text printed_search printed_reading printed
document_printed = refl

-- NO 1
nothing_printed : printed [] ≡ 78 ∷ 79 ∷ 32 ∷ 49 ∷ 10 ∷ []
unfolding flat_map first_no be16 length_right record_questions unless read digit digits numeral decimal line wNO refusal_text printed_reading printed
nothing_printed = refl
