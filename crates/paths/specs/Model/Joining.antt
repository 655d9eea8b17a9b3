-- What the recursion computes (a model): it joins events of one state until their lengths sum to the steps of a word, and emits the rotations of what
-- it joined; on a terminated link, what it joined alone. N is the number of steps here.
-- `proofs/Words.antt` joins the model to the definitions: what it emits over all states is the nonzero words of weight w, each once.
-- Assumes nothing.
use Rattle.std.specs.Prelude.{ℕ, zero, suc, ◌+◌, ◌-◌, ◌*◌, ◌^◌, Bool, cond, ◌&&◌, leb, ltb, eqb}
use mathlib.Core.List.{List, [], map, flat_map}
use Rattle.lists.specs.Lists.{up_from, filter}
use Rattle.code.specs.Links.{terminated, steps_of, event_states}
use Rattle.code.specs.Trellis.{rotate}
use Rattle.order.specs.Order.{Order}
use Rattle.events.specs.Events.{ErrorEvent, events_of_state}

-- the word c begun 0, 1, .., first - 1 steps later, without the zero word
unfoldable pub turns : ℕ → ℕ → ℕ → List ℕ
turns N first c = filter (λ u. ltb 0 u) (map (λ r. rotate N r c) (up_from 0 first))

-- the length of the first event, once there is one
unfoldable pub first_or : ℕ → ℕ → ℕ
first_or zero l = l
first_or (suc first) l = suc first

-- an event fits into the steps and the weight that are left
unfoldable pub fits_in : ℕ → ℕ → ErrorEvent → Bool
fits_in left budget e = leb e.length left && leb e.weight budget

-- what joining event e makes: nothing if it does not fit, the rotations if it is the last, or else what `more` makes of the steps left,
-- the number joined so far, the first event's length and the weight left
unfoldable pub joining : ℕ → (ℕ → ℕ → ℕ → ℕ → List ℕ) → ℕ → ℕ → ℕ → ℕ → ErrorEvent → List ℕ
joining N more left acc first budget e =
    let c = acc + e.input * 2 ^ (N - left) in
    let first' = first_or first e.length in
    let rest = more (left - e.length) c first' (budget - e.weight) in
    let last = cond (eqb e.weight budget) (turns N first' c) [] in
    let whole = cond (eqb e.length left) last rest in
    cond (fits_in left budget e) whole []

-- Every way to fill `left` more steps by events of weight `budget` in all. `acc` is the number joined so far, `first` the length of the first
-- event, 0 before there is one.
unfoldable pub joined : ℕ → List ErrorEvent → ℕ → ℕ → ℕ → ℕ → ℕ → List ℕ
joined zero es N left acc first budget = []
joined (suc fuel) es N left acc first budget = flat_map (joining N (joined fuel es N) left acc first budget) es

-- What is told as the first event's length before there is one: 0, none yet. On a terminated link 1, which stays: then a chain is emitted once, begun
-- 0 steps later.
unfoldable pub unbegun_first : Order → ℕ
unbegun_first o = cond (terminated o) 1 0

-- the words of weight w whose smallest state is i
unfoldable pub state_words : Order → ℕ → ℕ → List ℕ
state_words o i w = joined (steps_of o) (events_of_state o i) (steps_of o) (steps_of o) 0 (unbegun_first o) w

-- the nonzero words of weight w, in the order in which the recursion meets them
unfoldable pub chain_words : Order → ℕ → List ℕ
chain_words o w = flat_map (λ i. state_words o i w) (up_from 0 (event_states o))
