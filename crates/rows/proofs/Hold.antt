-- Every line of the table of document 01's ● rows is what the definitions give: one equation, by computation.
-- Assumes nothing.
use mathlib.Core.Path.{◌≡◌, refl}
use mathlib.Core.List.{map, flat_map}
use lib.Count.{ones_in, ones}
use Rattle.lists.specs.Lists.{up_from, filter, count, all, any, sum, padded, cleared}
use Rattle.poly.specs.Poly.{bit, ◌⊕◌, digits_through, horner, ◌⊗◌, register, remainder}
use Rattle.gcd.specs.SharedFactor.{divides, total, share_factor}
use Rattle.crc.specs.Check.{append, polynomial_questions, word_questions, append_call}
use Rattle.code.specs.Links.{terminated, steps_of, output, event_states}
use Rattle.code.specs.Weight.{weight_of, weight}
use Rattle.code.specs.Trellis.{next, tapped, step_output, step_weight, walk_weight, first_meets}
use Rattle.order.specs.Questions.{first_no, from_to, in_range, has_bit, work_size, shape_questions, generator_questions}
use Rattle.order.specs.Order.{with_length, of_weight, if_taken, number_questions, order_questions}
use Rattle.order.specs.Answer.{unless, unless_refused}
use Rattle.events.specs.Events.{is_listed, events_of_length, events_of_state, events, entry, no_event, event_table}
use Rattle.poly.specs.Word.{halves}
use Rattle.paths.specs.Paths.{words, words_of_weight, weights, paths, plain_counts, path_table, path_room}
use Rattle.paths.specs.Part.{paths_to, part_fits, part_of, part_number}
use Rattle.undetected.specs.Undetected.{passes, undetected_count, undetected_counts}
use Rattle.undetected.specs.FirstUndetected.{first_above0, first_undetected}
use Rattle.narrowing.specs.Narrowed.{largest, narrowed, longest, set_choice}
use Rattle.lengths.specs.Shorter.{for_each}
use Rattle.choice.specs.Choice.{candidates, fewer, unbettered, best, first_of, choice_among, choice}
use Rattle.jobs.specs.Jobs.{unless_too_many, cleared_search, filled_search, chosen, rows_of, made, ran}
use Rattle.calls.specs.Calls.{job_questions, questions, call}
use Rattle.search.specs.Calls.{search_questions, search_call}
use Rattle.quote.specs.Calls.{longest_quoted, quote_questions, quote_call}
use Rattle.set.specs.Calls.{all_below, falling, shortest, kind_questions, length_questions, set_questions, set_row, set_call}
use Rattle.rows.specs.Rows.{lent, figures_of, told, filled_with7, marked, paths₄, rows}

pub rows_hold : map (λ line. told line.0) rows ≡ map (λ line. line.1) rows
unfolding flat_map ones_in ones up_from filter count all any padded cleared bit ◌⊕◌ digits_through horner ◌⊗◌ register remainder append polynomial_questions word_questions append_call terminated steps_of
    output event_states weight_of weight next tapped step_output step_weight walk_weight first_meets first_no from_to in_range has_bit work_size divides total share_factor with_length shape_questions if_taken
    number_questions generator_questions order_questions unless unless_refused is_listed events_of_length events_of_state events entry no_event event_table words words_of_weight weights paths plain_counts halves
    path_table path_room passes undetected_count undetected_counts candidates fewer unbettered best first_of choice_among choice unless_too_many cleared_search filled_search job_questions questions
    search_questions chosen rows_of made ran call search_call longest_quoted quote_questions quote_call first_above0 first_undetected largest narrowed
    longest set_choice for_each all_below falling shortest kind_questions length_questions set_questions set_row set_call paths_to part_fits part_of part_number of_weight sum lent figures_of told filled_with7 marked paths₄ rows
rows_hold = refl
