-- What is kept in the work area while events are joined to chains, and what fills it (a model: what the code computes). Places.antt says where.
-- Assumes nothing.
use Rattle.std.specs.Prelude.{ℕ, zero, suc, ◌+◌, ◌-◌, ◌^◌, ◌≤◌, ◌<◌, min, max, ◌≡◌, Bool, cond, ◌&&◌, ◌||◌, List, leb, ltb, eqb, length, get_or, set}
use Rattle.events.specs.declared.Event.{Event}
use Rattle.events.specs.Events.{no_event}
use Rattle.bounds.specs.declared.Chain.{Chain}
use Rattle.bounds.specs.declared.Joining.{Joining}
use Rattle.bounds.specs.declared.Joining.TheVariants.{Skipped, Complete, Continued}
use Rattle.code.specs.Model.Steps.{most_steps}
use Rattle.bounds.specs.Model.Places.{length_count, state_count, too_heavy, first_place, state_end_place, least_place, length_end_place, start_place, fill_place, bits_place, end_place, light_place, whole_place, area_size}

-- the first event of state i or above
abbrev pub first_of : List ℕ → ℕ → ℕ
first_of work i = get_or work (first_place + i) 0

abbrev pub least_at : List ℕ → ℕ → ℕ
least_at work l = get_or work (least_place + l) 0

abbrev pub start_at : List ℕ → ℕ → ℕ
start_at work l = get_or work (start_place + l) 0

abbrev pub fill_at : List ℕ → ℕ → ℕ
fill_at work k = get_or work (fill_place + k) 0

abbrev pub bits_at : List ℕ → ℕ
bits_at work = get_or work bits_place 0

abbrev pub end_at : List ℕ → ℕ
end_at work = get_or work end_place 0

abbrev pub light_at : List ℕ → ℕ
light_at work = get_or work light_place 0

-- a weight that no word of state i is below
abbrev pub whole_at : List ℕ → ℕ → ℕ
whole_at work i = get_or work (whole_place + i) 0

-- ---- noting events

-- one event, before place `after`
unfoldable pub noted : List ℕ → Event → ℕ → List ℕ
noted work e after =
    let placed = set (set work (state_end_place + e.state) after) (length_end_place + e.length) after in
    set placed (least_place + e.length) (min e.weight (least_at placed e.length))

-- n events of a table from place k on
unfoldable pub surveyed : List Event → ℕ → ℕ → List ℕ → List ℕ
surveyed table zero k work = work
surveyed table (suc n) k work = surveyed table n (k + 1) (noted work (get_or table k no_event) (k + 1))

-- before the events of one state are noted, which end before place `end`: n lengths from l on are made ready
unfoldable pub reset_from : ℕ → ℕ → List ℕ → List ℕ
reset_from zero l work = work
reset_from (suc n) l work = reset_from n (l + 1) (set (set work (least_place + l) too_heavy) (length_end_place + l) 0)

unfoldable pub opened : ℕ → List ℕ → List ℕ
opened end work = reset_from length_count 0 (set work end_place end)

-- ---- what is made of the notes

-- n places of first events at `starts`, from the places after the last ones at `ends`: nothing stands before place `from`
unfoldable pub carried : ℕ → ℕ → ℕ → ℕ → List ℕ → List ℕ
carried ends starts zero from work = set work starts from
carried ends starts (suc n) from work = carried (ends + 1) (starts + 1) n (max from (get_or work ends 0)) (set work starts from)

-- the least weight of k steps that begin with an event of length 1 to l
unfoldable pub least_sum : List ℕ → ℕ → ℕ → ℕ
least_sum work k zero = too_heavy
least_sum work k (suc l) = min (least_sum work k l) (least_at work (suc l) + fill_at work (k - suc l))

unfoldable pub filled_from : ℕ → ℕ → List ℕ → List ℕ
filled_from zero k work = work
filled_from (suc n) k work = filled_from n (k + 1) (set work (fill_place + k) (least_sum work k k))

unfoldable pub filled : List ℕ → List ℕ
filled work = filled_from (bits_at work) 1 (set work fill_place 0)

-- once all events are noted: where each state's events begin
unfoldable pub indexed : ℕ → List ℕ → List ℕ
indexed bits work = set (carried state_end_place first_place state_count 0 work) bits_place bits

-- once the events of a state are noted, which begin at place `from`
unfoldable pub closed : ℕ → List ℕ → List ℕ
closed from work = filled (carried length_end_place start_place length_count from work)

-- ---- the zero loop

-- an event of one step that weighs nothing, whose input is 0
unfoldable pub is_zero_loop : Event → Bool
is_zero_loop e = eqb e.length 1 && (eqb e.weight 0 && (eqb e.low 0 && eqb e.high 0))

-- the least weight of an event of n lengths from 2 on
unfoldable pub lightest : List ℕ → ℕ → ℕ
lightest work zero = too_heavy
lightest work (suc n) = min (lightest work n) (least_at work (n + 2))

-- where e, the first event of the state, is the zero loop, and no other of one step follows it: the least weight of the others
unfoldable pub light_of : List ℕ → Event → ℕ → ℕ
light_of work e from = cond (is_zero_loop e && eqb (start_at work 2) (from + 1)) (lightest work (length_count - 2)) 0

-- once a state's tables are closed: what all steps of a word weigh at least
unfoldable pub whole_kept : ℕ → List ℕ → List ℕ
whole_kept i work = set work (whole_place + i) (fill_at work (bits_at work))

-- ---- which events are looked at

-- the place of the first length from l on, n lengths in all, that may begin a chain of `left` steps that weighs `budget`
unfoldable pub next_in : ℕ → List ℕ → ℕ → ℕ → ℕ → ℕ
next_in zero work left budget l = end_at work
next_in (suc n) work left budget l =
    cond (leb (least_at work l + fill_at work (left - l)) budget) (start_at work l) (next_in n work left budget (l + 1))

unfoldable pub next_length : List ℕ → ℕ → ℕ → ℕ → ℕ
next_length work left budget l = next_in (left + 1 - l) work left budget l

-- the first event to look at where a chain is begun; none where more than `room` paths are counted
unfoldable pub beginning : List ℕ → ℕ → ℕ → Chain → ℕ
beginning work at room begun = cond (ltb room at) (end_at work) (next_length work begun.steps begun.budget 1)

-- the event to look at after that at place k, which has length l
unfoldable pub following : List ℕ → ℕ → ℕ → Chain → ℕ → ℕ → ℕ
following work at room begun l k =
    let longer = next_length work begun.steps begun.budget (l + 1) in
    cond (ltb room at) (end_at work) (cond (ltb (k + 1) (start_at work (l + 1))) (k + 1) longer)

-- What an event comes to: it is passed over, it completes a chain, or it is joined and more follow. A chain is complete too where its weight is used up and
-- only zero loops can follow; and no event follows that weighs more than is left.
unfoldable pub decided : List ℕ → Chain → Event → Joining
decided work begun e =
    let last : Joining = cond (eqb e.weight begun.budget) Complete Skipped in
    let more : Joining = cond (leb (e.weight + fill_at work (begun.steps - e.length)) begun.budget) Continued Skipped in
    let fits = leb e.length begun.steps && leb e.weight begun.budget in
    let ends = eqb e.length begun.steps || ltb (begun.budget - e.weight) (light_at work) in
    cond fits (cond ends last more) Skipped

-- ---- what the tables promise

-- an event that can be noted
pub record Fits (e : Event) : Type 0 where
  pub state_small : e.state < state_count
  pub length_small : e.length ≤ most_steps

-- sums of the tables' weights are small
pub record Small (work : List ℕ) : Type 0 where
  pub enough : area_size ≤ length work
  pub bits_small : bits_at work ≤ most_steps
  pub least_small : (l : ℕ) → l ≤ most_steps → least_at work l ≤ too_heavy
  pub fill_small : (k : ℕ) → k ≤ most_steps → fill_at work k ≤ too_heavy

-- the tables are those of the events from place `from` to before place `to`, which are ordered by length
pub record Ready (table : List Event) (work : List ℕ) (from to : ℕ) : Type 0 where
  pub small : Small work
  pub some_bits : 1 ≤ bits_at work
  pub ends : end_at work ≡ to
  pub starts_rise : (l l' : ℕ) → l ≤ l' → l' ≤ length_count → start_at work l ≤ start_at work l'
  pub starts_from : from ≤ start_at work 0
  pub starts_to : start_at work length_count ≤ to
  pub placed : (k : ℕ) → from ≤ k → k < to
      → (start_at work (get_or table k no_event).length ≤ k) × (k < start_at work ((get_or table k no_event).length + 1))
  pub least_weighs : (k : ℕ) → from ≤ k → k < to → least_at work (get_or table k no_event).length ≤ (get_or table k no_event).weight
  pub fill_zero : fill_at work 0 ≡ 0
  pub fill_step : (k l : ℕ) → 1 ≤ l → l ≤ k → k ≤ bits_at work → fill_at work k ≤ least_at work l + fill_at work (k - l)

-- what is asked of the events from place `from` to before place `to` of a table
pub record Segment (table : List Event) (from to : ℕ) : Type 0 where
  pub states : (k : ℕ) → from ≤ k → k < to → (get_or table k no_event).state < state_count
  pub lengths : (k : ℕ) → from ≤ k → k < to → (1 ≤ (get_or table k no_event).length) × ((get_or table k no_event).length ≤ most_steps)
  pub ordered : (k k' : ℕ) → from ≤ k → k < k' → k' < to → (get_or table k no_event).length ≤ (get_or table k' no_event).length

-- ---- what is asked

-- by `next_length`
pub record ToLook (work : List ℕ) (left l : ℕ) : Type 0 where
  pub small : Small work
  pub left_small : left ≤ most_steps
  pub length_small : l ≤ length_count

-- by `follow`
pub record ToFollow (work : List ℕ) (begun : Chain) (l k : ℕ) : Type 0 where
  pub small : Small work
  pub steps_small : begun.steps ≤ most_steps
  pub length_small : l ≤ most_steps
  pub next_fits : k + 1 < 2 ^ 64

-- by `weigh_others`
pub record ToWeigh (work : List ℕ) (from : ℕ) : Type 0 where
  pub small : Small work
  pub next_fits : from + 1 < 2 ^ 64

-- by `decide`
pub record ToDecide (work : List ℕ) (begun : Chain) (e : Event) : Type 0 where
  pub small : Small work
  pub steps_small : begun.steps ≤ most_steps
  pub light : e.weight ≤ too_heavy
