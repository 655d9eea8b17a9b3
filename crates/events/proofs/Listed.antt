-- The list of events is all of them, each once, by state, length and input number: its members are the walks that are events of weight below
-- the threshold (`mem_events`), and it is the one list in that order that has these members (`events_unique`).
-- Assumes nothing.
use Prim.Native.Nat.{ℕ, ◌≤◌, ◌<◌, ◌^◌}
use native.Mathlib.Omega.{arith}
use mathlib.Core.Path.{◌≡◌, refl, sym, ap, subst}
use mathlib.Core.Logic.{◌↔◌}
use mathlib.Core.List.Memᴰ
use mathlib.Core.List.{List, Memᴰ}
use lib.Dec.{T, ltb, ltb→lt, lt→ltb}
use Rattle.lists.specs.Lists.{up_from, filter}
use Rattle.lists.proofs.Tests.{T_and}
use Rattle.lists.proofs.Member.{up_from_bounds, in_up_from, of_filter, in_filter, of_flat_map, in_flat_map}
use Rattle.lists.proofs.Sorted.{Sorted, sorted_known, up_from-sorted, filter-sorted, map-sorted}
use Rattle.lists.proofs.Keys.{By, ByThen, by_asymmetric, by_then_asymmetric, blocks_sorted}
use Rattle.code.specs.Links.{steps_of, event_states}
use Rattle.code.specs.Trellis.{walk_weight, first_meets}
use Rattle.order.specs.Order.{Order}
use Rattle.events.specs.Events.{ErrorEvent, is_listed, events_of_length, events_of_state, events}

-- e is an event of a state that begins events, as long as a word at most, and of weight below d
pub record Listed (o : Order) (e : ErrorEvent) : Type 0 where
  pub state_fits : e.state < event_states o
  pub some_step : 1 ≤ e.length
  pub at_most_steps : e.length ≤ steps_of o
  pub input_fits : e.input < 2 ^ e.length
  pub meets : T (first_meets o.v e.state e.length e.state e.input)
  pub weighs : e.weight ≡ walk_weight o.generators o.v e.length e.state e.input
  pub below : e.weight < o.d

-- by length, then input number
abbrev pub Within : ErrorEvent → ErrorEvent → Type 0
Within = ByThen (λ e. e.length) (By (λ e. e.input))

-- by state, then so
abbrev pub Before : ErrorEvent → ErrorEvent → Type 0
Before = ByThen (λ e. e.state) Within

-- the walk of l steps from i with input number c, as an event
abbrev pub event_of : Order → ℕ → ℕ → ℕ → ErrorEvent
event_of o i l c = record { state = i; length = l; weight = walk_weight o.generators o.v l i c; input = c }

module _ (o : Order) where
  -- ---- the members

  pub of_events_of_length : (i l : ℕ) {e : ErrorEvent} → Memᴰ e (events_of_length o i l) → (c : ℕ) × (c < 2 ^ l) × T (is_listed o i l c) × (event_of o i l c ≡ e)
  unfolding events_of_length
  of_events_of_length i l m =
      let h = Memᴰ.of_map (event_of o i l) (filter (is_listed o i l) (up_from 0 (2 ^ l))) m in
      let k = of_filter (is_listed o i l) (up_from 0 (2 ^ l)) h.1 in
      let b = up_from_bounds 0 (2 ^ l) k.0 in
      (h.0, omega arith, k.1, h.2)

  pub in_events_of_length : (i l c : ℕ) → c < 2 ^ l → T (is_listed o i l c) → Memᴰ (event_of o i l c) (events_of_length o i l)
  unfolding events_of_length
  in_events_of_length i l c h t =
      Memᴰ.map (event_of o i l) (in_filter (is_listed o i l) (up_from 0 (2 ^ l)) (in_up_from 0 (2 ^ l) (omega arith) (omega arith)) t)

  of_events_of_state : (i : ℕ) {e : ErrorEvent} → Memᴰ e (events_of_state o i) → (l : ℕ) × (1 ≤ l) × (l ≤ steps_of o) × Memᴰ e (events_of_length o i l)
  unfolding events_of_state
  of_events_of_state i m =
      let h = of_flat_map (events_of_length o i) (up_from 1 (steps_of o)) m in
      let b = up_from_bounds 1 (steps_of o) h.1 in
      (h.0, b.0, omega arith, h.2)

  listed_event_of : (i l c : ℕ) → i < event_states o → 1 ≤ l → l ≤ steps_of o → c < 2 ^ l → T (is_listed o i l c) → Listed o (event_of o i l c)
  unfolding is_listed
  listed_event_of i l c hi hl hT hc t =
      let w : ℕ = walk_weight o.generators o.v l i c in
      let h = (T_and (first_meets o.v i l i c) (ltb w o.d)).0 t in
      record { state_fits = hi; some_step = hl; at_most_steps = hT; input_fits = hc; meets = h.0; weighs = refl; below = ltb→lt w o.d h.1 }

  pub of_events : {e : ErrorEvent} → Memᴰ e (events o) → Listed o e
  unfolding events
  of_events m =
      let s = of_flat_map (events_of_state o) (up_from 0 (event_states o)) m in
      let b = up_from_bounds 0 (event_states o) s.1 in
      let l = of_events_of_state s.0 s.2 in
      let c = of_events_of_length s.0 l.0 l.3 in
      subst (Listed o) c.3 (listed_event_of s.0 l.0 c.0 (omega arith) l.1 l.2 c.1 c.2)

  -- an event of the list is told by its state, length and input
  pub event_of_listed : {e : ErrorEvent} → Listed o e → e ≡ event_of o e.state e.length e.input
  event_of_listed {e} h = λ k. record { state = e.state; length = e.length; weight = h.weighs k; input = e.input }

  passes-listed : {e : ErrorEvent} → Listed o e → T (is_listed o e.state e.length e.input)
  unfolding is_listed
  passes-listed {e} h =
      let w : ℕ = walk_weight o.generators o.v e.length e.state e.input in
      let light : w < o.d = subst (λ x. x < o.d) h.weighs h.below in
      (T_and (first_meets o.v e.state e.length e.state e.input) (ltb w o.d)).1 (h.meets, lt→ltb w o.d light)

  pub in_events : {e : ErrorEvent} → Listed o e → Memᴰ e (events o)
  unfolding events_of_state events
  in_events {e} h =
      let inLength = in_events_of_length e.state e.length e.input h.input_fits (passes-listed h) in
      let inState = in_flat_map (events_of_length o e.state) (up_from 1 (steps_of o)) (in_up_from 1 (steps_of o) h.some_step (omega arith)) inLength in
      Memᴰ.cast (event_of_listed h) (in_flat_map (events_of_state o) (up_from 0 (event_states o)) (in_up_from 0 (event_states o) (omega arith) (omega arith)) inState)

  pub mem_events : (e : ErrorEvent) → Memᴰ e (events o) ↔ Listed o e
  mem_events e = (of_events, in_events)

  -- ---- the order

  pub events_of_length-sorted : (i l : ℕ) → Sorted (By (λ (e : ErrorEvent). e.input)) (events_of_length o i l)
  unfolding events_of_length
  events_of_length-sorted i l =
      map-sorted ◌<◌ (By (λ e. e.input)) (event_of o i l) (λ c c' h. h) (filter (is_listed o i l) (up_from 0 (2 ^ l)))
      (filter-sorted ◌<◌ (is_listed o i l) (up_from 0 (2 ^ l)) (up_from-sorted 0 (2 ^ l)))

  length_of_events : (i l : ℕ) (e : ErrorEvent) → Memᴰ e (events_of_length o i l) → e.length ≡ l
  length_of_events i l e m = sym (ap (λ (f : ErrorEvent). f.length) (of_events_of_length i l m).3)

  pub events_of_state-sorted : (i : ℕ) → Sorted Within (events_of_state o i)
  unfolding events_of_state
  events_of_state-sorted i =
      blocks_sorted (λ e. e.length) (By (λ e. e.input)) (events_of_length o i) (length_of_events i)
      (events_of_length-sorted i) (up_from 1 (steps_of o)) (up_from-sorted 1 (steps_of o))

  state_of_events : (i : ℕ) (e : ErrorEvent) → Memᴰ e (events_of_state o i) → e.state ≡ i
  state_of_events i e m =
      let l = of_events_of_state i m in
      sym (ap (λ (f : ErrorEvent). f.state) (of_events_of_length i l.0 l.3).3)

  pub events-sorted : Sorted Before (events o)
  unfolding events
  events-sorted =
      blocks_sorted (λ e. e.state) Within (events_of_state o) state_of_events events_of_state-sorted (up_from 0 (event_states o))
      (up_from-sorted 0 (event_states o))

-- no two events stand both before and after one another
pub within_asymmetric : (e f : ErrorEvent) → Within e f → Within f e → ⊥
within_asymmetric = by_then_asymmetric (λ e. e.length) (By (λ e. e.input)) (by_asymmetric (λ e. e.input))

pub before_asymmetric : (e f : ErrorEvent) → Before e f → Before f e → ⊥
before_asymmetric = by_then_asymmetric (λ e. e.state) Within within_asymmetric

-- a list in that order with these members is the list of events
pub events_unique : (o : Order) (l : List ErrorEvent) → Sorted Before l → ((e : ErrorEvent) → Memᴰ e l ↔ Listed o e) → l ≡ events o
events_unique o l s known = sorted_known Before before_asymmetric (Listed o) l (events o) s (events-sorted o) known (mem_events o)
