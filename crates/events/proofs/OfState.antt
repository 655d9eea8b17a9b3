-- The events of one state: the members are the events of that state (`mem_events_of_state`), and none stands twice (`events_of_state_distinct`).
-- Assumes nothing.
use Prim.Native.Nat.{ℕ, ◌<◌, ◌^◌}
use native.Mathlib.Omega.{arith}
use mathlib.Core.Path.{◌≡◌, sym, ap, ◌∙◌, subst}
use mathlib.Core.Logic.{◌↔◌, ◌≢◌}
use mathlib.Core.List.Memᴰ
use mathlib.Core.List.{Memᴰ}
use Rattle.lists.specs.Lists.{up_from, filter}
use Rattle.lists.proofs.Member.{in_up_from, of_flat_map, in_flat_map}
use Rattle.lists.proofs.Sorted.{up_from-sorted, filter-sorted, map-sorted, flat_map_sorted}
use Rattle.lists.proofs.Distinct.{Distinct}
use Rattle.code.specs.Links.{steps_of, event_states}
use Rattle.code.specs.Trellis.{walk_weight}
use Rattle.order.specs.Order.{Order}
use Rattle.events.specs.Events.{ErrorEvent, is_listed, events_of_length, events_of_state, events}
use Rattle.events.proofs.Listed.{Listed, of_events, in_events}

-- e is an event of the list, and its state is i
pub record EventOf (o : Order) (i : ℕ) (e : ErrorEvent) : Type 0 where
  pub state_is : e.state ≡ i
  pub event : Listed o e

module _ (o : Order) where
  -- the walk of l steps from i with input number c, as an event
  abbrev event_with : ℕ → ℕ → ℕ → ErrorEvent
  event_with i l c = record { state = i; length = l; weight = walk_weight o.generators o.v l i c; input = c }

  made_of : (i l : ℕ) {e : ErrorEvent} → Memᴰ e (events_of_length o i l) → (c : ℕ) × (event_with i l c ≡ e)
  unfolding events_of_length
  made_of i l m = let h = Memᴰ.of_map (event_with i l) (filter (is_listed o i l) (up_from 0 (2 ^ l))) m in (h.0, h.2)

  state_of_lem : (i : ℕ) {e : ErrorEvent} → Memᴰ e (events_of_state o i) → e.state ≡ i
  unfolding events_of_state
  state_of_lem i m =
      let h = of_flat_map (events_of_length o i) (up_from 1 (steps_of o)) m in
      sym (ap (λ (e : ErrorEvent). e.state) (made_of i h.0 h.2).1)

  pub of_events_of_state : (i : ℕ) {e : ErrorEvent} → i < event_states o → Memᴰ e (events_of_state o i) → EventOf o i e
  unfolding events
  of_events_of_state i h m =
      let all = in_flat_map (events_of_state o) (up_from 0 (event_states o)) (in_up_from 0 (event_states o) (omega arith) (omega arith)) m in
      record { state_is = state_of_lem i m; event = of_events o all }

  pub in_events_of_state : (i : ℕ) {e : ErrorEvent} → EventOf o i e → Memᴰ e (events_of_state o i)
  unfolding events
  in_events_of_state i {e} h =
      let found = of_flat_map (events_of_state o) (up_from 0 (event_states o)) (in_events o h.event) in
      subst (λ (j : ℕ). Memᴰ e (events_of_state o j)) (sym (state_of_lem found.0 found.2) ∙ h.state_is) found.2

  pub mem_events_of_state : (i : ℕ) (e : ErrorEvent) → i < event_states o → Memᴰ e (events_of_state o i) ↔ EventOf o i e
  mem_events_of_state i e h = (of_events_of_state i h, in_events_of_state i)

  events_of_length_distinct : (i l : ℕ) → Distinct (events_of_length o i l)
  unfolding events_of_length
  events_of_length_distinct i l =
      map-sorted ◌<◌ (λ x y. x ≢ y) (event_with i l) (λ c c' h p. let q = ap (λ (e : ErrorEvent). e.input) p in omega arith)
      (filter (is_listed o i l) (up_from 0 (2 ^ l))) (filter-sorted ◌<◌ (is_listed o i l) (up_from 0 (2 ^ l)) (up_from-sorted 0 (2 ^ l)))

  length_of : (i l : ℕ) {e : ErrorEvent} → Memᴰ e (events_of_length o i l) → e.length ≡ l
  length_of i l m = sym (ap (λ (e : ErrorEvent). e.length) (made_of i l m).1)

  pub events_of_state_distinct : (i : ℕ) → Distinct (events_of_state o i)
  unfolding events_of_state
  events_of_state_distinct i =
      flat_map_sorted ◌<◌ (λ x y. x ≢ y) (events_of_length o i) (events_of_length_distinct i)
      (λ l l' h e e' m m' p. let q = ap (λ (f : ErrorEvent). f.length) p in omega (arith, length_of i l m, length_of i l' m'))
      (up_from 1 (steps_of o)) (up_from-sorted 1 (steps_of o))
