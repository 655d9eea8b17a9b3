-- Chains of error events (document 01: events joined one after another until the lengths sum to the steps of a word), and what the theorem of
-- document 000 says of a word: it is, in one way only, a chain of events of its smallest state, begun so that place 0 lies inside the first event.
-- The states are those of the word's walk round its steps; on a terminated link the zeros after the word are steps of it too, so it begins at state 0.
-- `proofs/Theorem.antt` proves it (`made_of_events`, `one_state`, `one_back`, `one_chain`). Paths and counts are defined without it.
-- Assumes nothing.
use Rattle.std.specs.Prelude.{ℕ, ◌+◌, ◌-◌, ◌*◌, ◌^◌, ◌≤◌, ◌<◌, ◌≡◌, ◌≢◌, true}
use mathlib.Core.List.{List, [], ◌∷◌, Memᴰ}
use Rattle.code.specs.Links.{terminated, steps_of}
use Rattle.code.specs.Weight.{weight}
use Rattle.code.specs.Trellis.{state_at, rotate}
use Rattle.order.specs.Order.{Order}
use Rattle.events.specs.Events.{ErrorEvent, events_of_state}

-- how many steps
unfoldable pub steps : List ErrorEvent → ℕ
steps [] = 0
steps (e ∷ es) = e.length + steps es

-- what they weigh
unfoldable pub cost : List ErrorEvent → ℕ
cost [] = 0
cost (e ∷ es) = e.weight + cost es

-- the inputs of all steps as one number, the first input as bit 0
unfoldable pub input_number : List ErrorEvent → ℕ
input_number [] = 0
input_number (e ∷ es) = input_number es * 2 ^ e.length + e.input

-- the length of the first event
unfoldable pub first_length : List ErrorEvent → ℕ
first_length [] = 0
first_length (e ∷ es) = e.length

-- how word u is made of error events
pub record MadeOfEvents (o : Order) (u : ℕ) : Type 0 where
  -- the smallest state on the word's walk
  pub state : ℕ
  pub state_fits : state < 2 ^ o.v
  pub smallest : (t : ℕ) → state ≤ state_at o.v (steps_of o) u t
  -- how many steps back from place 0 (which is the place after the last) the walk is at that state for the first time
  pub back : ℕ
  pub back_fits : back < steps_of o
  pub visits : state_at o.v (steps_of o) u (steps_of o - back) ≡ state
  pub none_between : (t : ℕ) → steps_of o - back < t → t ≤ steps_of o → state_at o.v (steps_of o) u t ≢ state
  -- a terminated word begins at place 0, at state 0
  pub unturned : terminated o ≡ true → (state ≡ 0) × (back ≡ 0)
  -- the events from there on, as many steps as the word takes, place 0 inside the first
  pub chain : List ErrorEvent
  pub from_table : (e : ErrorEvent) → Memᴰ e chain → Memᴰ e (events_of_state o state)
  pub steps_are : steps chain ≡ steps_of o
  pub place_zero_inside : back < first_length chain
  -- the word is the chain's input number begun `back` steps later, and weighs what the events weigh
  pub word_is : rotate (steps_of o) back (input_number chain) ≡ u
  pub weight_is : weight o u ≡ cost chain
