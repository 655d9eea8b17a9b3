-- The error events of a link (document 01: events; document 000: irreducible error events), as one ordered list.
-- Assumes nothing.
use Rattle.std.specs.Prelude.{ℕ, ◌/◌, ◌%◌, ◌^◌, Bool, ◌&&◌, ltb}
use mathlib.Core.List.{List, map, flat_map}
use Rattle.lists.specs.Lists.{up_from, filter, padded}
use Rattle.code.specs.Links.{steps_of, event_states}
use Rattle.code.specs.Trellis.{walk_weight, first_meets}
use Rattle.order.specs.Order.{Order}
use Rattle.events.specs.declared.Event.{Event}

-- an event of `state`: a walk of `length` steps from it back to it, above it in between; `input` has the first input as bit 0
pub record ErrorEvent : Type 0 where
  pub state : ℕ
  pub length : ℕ
  pub weight : ℕ
  pub input : ℕ

-- the walk of l steps from i with input number c is an event, and weighs less than the threshold
unfoldable pub is_listed : Order → ℕ → ℕ → ℕ → Bool
is_listed o i l c = first_meets o.v i l i c && ltb (walk_weight o.generators o.v l i c) o.d

-- the events of state i and length l, by input number
unfoldable pub events_of_length : Order → ℕ → ℕ → List ErrorEvent
events_of_length o i l =
    map (λ c. record { state = i; length = l; weight = walk_weight o.generators o.v l i c; input = c })
    (filter (is_listed o i l) (up_from 0 (2 ^ l)))

-- the events of state i, by length
unfoldable pub events_of_state : Order → ℕ → List ErrorEvent
events_of_state o i = flat_map (events_of_length o i) (up_from 1 (steps_of o))

-- all events below the threshold, by state, length and input number
unfoldable pub events : Order → List ErrorEvent
events o = flat_map (events_of_state o) (up_from 0 (event_states o))

-- ---- the lent table

-- an event as the table's record: the input in two halves of 64 bits
unfoldable pub entry : ErrorEvent → Event
entry e = record { state = e.state; length = e.length; weight = e.weight; low = e.input % 2 ^ 64; high = e.input / 2 ^ 64 }

unfoldable pub no_event : Event
no_event = record { state = 0; length = 0; weight = 0; low = 0; high = 0 }

-- what a table of `size` entries holds after an accepted call: the events in order, zero records after the last
unfoldable pub event_table : ℕ → Order → List Event
event_table size o = padded size no_event (map entry (events o))
