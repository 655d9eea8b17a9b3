-- What the chaining finds, over the event table and the tables of `bounds` (a model: what the code computes).
-- Assumes nothing.
use Rattle.std.specs.Prelude.{ℕ, zero, suc, ◌+◌, ◌-◌, ◌*◌, ◌/◌, ◌%◌, ◌^◌, ◌≤◌, ◌<◌, List, [], ◌++◌, map, cond, T, ltb, length, get_or, set, ◌≡◌}
use Rattle.lists.specs.Lists.{up_from}
use Rattle.poly.specs.Word.{number}
use Rattle.events.specs.declared.Event.{Event}
use Rattle.events.specs.Events.{ErrorEvent, no_event}
use Rattle.paths.specs.Paths.{path_room}
use Rattle.paths.specs.Chains.{steps, cost}
use mathlib.Core.List.{Memᴰ}
use Rattle.paths.specs.Model.Joining.{first_or, joining, joined}
use Rattle.rotations.specs.Model.Put.{puts, ShortToTurn}
use Rattle.bounds.specs.declared.Chain.{Chain}
use Rattle.code.specs.Model.Steps.{most_steps}
use Rattle.bounds.specs.Model.Places.{state_count, too_heavy, light_place, area_size}
use Rattle.bounds.specs.Model.Tables.{first_of, start_at, fill_at, bits_at, end_at, light_at, whole_at, whole_kept, surveyed, opened, closed, is_zero_loop, light_of, Fits, Small, Ready, Segment}

-- a chain weighs at most
abbrev pub most_weight : ℕ
most_weight = 64

-- the input of an event
abbrev pub word_of : Event → ℕ
word_of e = e.high * 2 ^ 64 + e.low

unfoldable pub error_event : Event → ErrorEvent
error_event e = record { state = e.state; length = e.length; weight = e.weight; input = word_of e }

-- the events from place `from` to before place `to`
unfoldable pub events_between : List Event → ℕ → ℕ → List ErrorEvent
events_between table from to = map (λ k. error_event (get_or table k no_event)) (up_from from (to - from))

-- the events of the state at hand
unfoldable pub at_hand : List Event → List ℕ → List ErrorEvent
at_hand table work = map (λ k. error_event (get_or table k no_event)) (up_from (start_at work 0) (end_at work - start_at work 0))

-- event e joined to a chain begun
unfoldable pub extended : ℕ → Chain → Event → Chain
extended N begun e =
    let c : ℕ = number begun.inputs + word_of e * 2 ^ (N - begun.steps) in
    record {
      first = first_or begun.first e.length;
      steps = begun.steps - e.length;
      budget = begun.budget - e.weight;
      inputs = record { low = c % 2 ^ 64; high = c / 2 ^ 64 };
    }

-- the words of the chains that begin so
unfoldable pub found : List Event → List ℕ → Chain → List ℕ
found table work begun =
    joined begun.steps (at_hand table work) (bits_at work) begun.steps (number begun.inputs) begun.first begun.budget

-- those among them that go on with event e
unfoldable pub found_by : List Event → List ℕ → Chain → Event → List ℕ
found_by table work begun e =
    joining (bits_at work) (joined (begun.steps - 1) (at_hand table work) (bits_at work)) begun.steps (number begun.inputs)
    begun.first begun.budget (error_event e)

-- a chain that is not begun: all its steps are left. `first` is 0, or 1 where a chain is not turned: then one word is emitted, begun 0 steps later
unfoldable pub unbegun : ℕ → ℕ → ℕ → Chain
unbegun N first w = record { first = first; steps = N; budget = w; inputs = record { low = 0; high = 0 } }

-- ---- state by state

-- the place of the first of n events from place k on that is longer than `bits` steps; `to` where there is none
unfoldable pub fitting_end : List Event → ℕ → ℕ → ℕ → ℕ → ℕ
fitting_end table bits to zero k = to
fitting_end table bits to (suc n) k = cond (ltb bits (get_or table k no_event).length) k (fitting_end table bits to n (k + 1))

-- the place after the last event of state i that a word has the steps for: the events stand by length
unfoldable pub state_end : List Event → ℕ → List ℕ → ℕ
state_end table i work =
    let last : ℕ = first_of work (i + 1) in
    fitting_end table (bits_at work) last (last - first_of work i) (first_of work i)

-- the tables of state i, closed
unfoldable pub tabled : List Event → ℕ → List ℕ → List ℕ
tabled table i work =
    let from : ℕ = first_of work i in
    let to : ℕ = state_end table i work in
    closed from (surveyed table (to - from) from (opened to work))

-- what the events of a state weigh at least beside the zero loop, where that is their first; 0 where it is not
unfoldable pub light_from : List Event → ℕ → ℕ → List ℕ → ℕ
light_from table from to work = cond (ltb from to) (light_of work (get_or table from no_event) from) 0

unfoldable pub weighed : List Event → ℕ → ℕ → List ℕ → List ℕ
weighed table from to work = set work light_place (light_from table from to work)

-- the tables of state i
unfoldable pub at_state : List Event → ℕ → List ℕ → List ℕ
at_state table i work = weighed table (first_of work i) (state_end table i work) (tabled table i work)

-- the work area after state i: as it was where no word of the state is so light; else its tables, and what a word weighs at least is kept
unfoldable pub after_state : List Event → ℕ → ℕ → List ℕ → List ℕ
after_state table w i work = cond (ltb w (whole_at work i)) work (whole_kept i (at_state table i work))

-- the work area after n states from i on
unfoldable pub after_states : List Event → ℕ → ℕ → ℕ → List ℕ → List ℕ
after_states table w zero i work = work
after_states table w (suc n) i work = after_states table w n (i + 1) (after_state table w i work)

-- the words of weight w that n states from i on find
unfoldable pub found_from : List Event → ℕ → ℕ → ℕ → ℕ → List ℕ → List ℕ
found_from table first w zero i work = []
found_from table first w (suc n) i work =
    found table (at_state table i work) (unbegun (bits_at work) first w) ++ found_from table first w n (i + 1) (after_state table w i work)

-- the work area, and the words that state i finds appended to a path table
abbrev pub state_listed : List Event → ℕ → ℕ → ℕ → List ℕ → List ℕ × ℕ → List ℕ × (List ℕ × ℕ)
state_listed table first w i work s = (at_state table i work, puts (found table (at_state table i work) (unbegun (bits_at work) first w)) s)

-- the same where a state is passed over that has no word so light
abbrev pub lighter_listed : List Event → ℕ → ℕ → ℕ → List ℕ → List ℕ × ℕ → List ℕ × (List ℕ × ℕ)
lighter_listed table first w i work s = (after_state table w i work, puts (found table (at_state table i work) (unbegun (bits_at work) first w)) s)

-- the same of n states from state 0 on
abbrev pub weight_listed : List Event → ℕ → ℕ → ℕ → List ℕ → List ℕ × ℕ → List ℕ × (List ℕ × ℕ)
weight_listed table first w n work s = (after_states table w n 0 work, puts (found_from table first w n 0 work) s)

-- ---- what is asked of the tables and of a chain begun

-- an event that may stand in the table, longer than N steps or not; joined at any place that it fits, its input stays below 2^128
pub record Joinable (N : ℕ) (e : Event) : Type 0 where
  pub some_step : 1 ≤ e.length
  pub light : e.weight ≤ most_weight
  pub input_small : word_of e < 2 ^ e.length
  pub whole : word_of e * 2 ^ (N - e.length) < 2 ^ 128

-- the events from place `from` to before place `to` are in the table, and can be noted
pub record Noted (table : List Event) (from to : ℕ) : Type 0 where
  pub inside : to ≤ length table
  pub fits : (k : ℕ) → from ≤ k → k < to → Fits (get_or table k no_event)

-- the work area knows where each state's events begin, and they can be joined
pub record Indexed (table : List Event) (work : List ℕ) : Type 0 where
  pub enough : area_size ≤ length work
  pub some_bits : 1 ≤ bits_at work
  pub few_bits : bits_at work ≤ most_steps
  pub fill_small : (k : ℕ) → k ≤ most_steps → fill_at work k ≤ too_heavy
  pub rises : (i j : ℕ) → i ≤ j → j ≤ state_count → first_of work i ≤ first_of work j
  pub inside : first_of work state_count ≤ length table
  pub segment : (i : ℕ) → i < state_count → Segment table (first_of work i) (first_of work (i + 1))
  pub joinable : (k : ℕ) → k < first_of work state_count → Joinable (bits_at work) (get_or table k no_event)
  pub wholes : (i : ℕ) → i < state_count → (c : List ErrorEvent) → ((e : ErrorEvent) → Memᴰ e c → Memᴰ e (events_between table (first_of work i) (first_of work (i + 1))))
      → steps c ≡ bits_at work → whole_at work i ≤ cost c

-- the first event at hand is the zero loop, and the others weigh at least what the table says
pub record Calming (table : List Event) (work : List ℕ) : Type 0 where
  pub some : start_at work 0 < end_at work
  pub loop : T (is_zero_loop (get_or table (start_at work 0) no_event))
  pub weighs : (k : ℕ) → start_at work 0 < k → k < end_at work → light_at work ≤ (get_or table k no_event).weight

-- the tables are those of the events at hand
pub record Joins (table : List Event) (work : List ℕ) : Type 0 where
  pub ready : Ready table work (start_at work 0) (end_at work)
  pub inside : end_at work ≤ length table
  pub segment : Segment table (start_at work 0) (end_at work)
  pub joinable : (k : ℕ) → start_at work 0 ≤ k → k < end_at work → Joinable (bits_at work) (get_or table k no_event)
  pub calming : 1 ≤ light_at work → Calming table work

-- a chain begun that is not whole
pub record Unfinished (N : ℕ) (begun : Chain) : Type 0 where
  pub some_left : 1 ≤ begun.steps
  pub within : begun.steps ≤ N
  pub short_to_turn : ShortToTurn begun.first N
  pub light : begun.budget ≤ most_weight
  pub word_small : number begun.inputs < 2 ^ (N - begun.steps)

-- a place of a path table, or the one after its last
abbrev pub Near : List ℕ → ℕ → Type 0
Near paths at = at ≤ path_room (length paths) + 1

-- ---- what is asked

-- by `extend`
pub record ToExtend (work : List ℕ) (begun : Chain) (e : Event) : Type 0 where
  pub small : Small work
  pub unfinished : Unfinished (bits_at work) begun
  pub joinable : Joinable (bits_at work) e
  pub short : e.length ≤ begun.steps
  pub light : e.weight ≤ begun.budget

-- by `emit`
pub record ToEmit (work paths : List ℕ) (at : ℕ) (whole : Chain) : Type 0 where
  pub small : Small work
  pub some_bits : 1 ≤ bits_at work
  pub short_to_turn : ShortToTurn whole.first (bits_at work)
  pub word_small : number whole.inputs < 2 ^ bits_at work
  pub near : Near paths at

-- by `join`
pub record ToJoin (table : List Event) (work paths : List ℕ) (at : ℕ) (begun : Chain) (e : Event) : Type 0 where
  pub joins : Joins table work
  pub unfinished : Unfinished (bits_at work) begun
  pub joinable : Joinable (bits_at work) e
  pub near : Near paths at

-- by `chain`
pub record ToChain (table : List Event) (work paths : List ℕ) (at : ℕ) (begun : Chain) : Type 0 where
  pub joins : Joins table work
  pub unfinished : Unfinished (bits_at work) begun
  pub near : Near paths at

-- by `list_state`
pub record ToListState (table : List Event) (work paths : List ℕ) (at i first w : ℕ) : Type 0 where
  pub indexed : Indexed table work
  pub state_small : i < state_count
  pub short_to_turn : ShortToTurn first (bits_at work)
  pub light : w < most_weight
  pub near : Near paths at

-- by `list_weight`
pub record ToListWeight (table : List Event) (work paths : List ℕ) (at states first w : ℕ) : Type 0 where
  pub indexed : Indexed table work
  pub few_states : states ≤ state_count
  pub short_to_turn : ShortToTurn first (bits_at work)
  pub light : w < most_weight
  pub near : Near paths at
