-- The events for shorter words are, in their order, those of the events that have no more steps (`events_shorter`), for both kinds of link; so are the
-- events of one state (`events_of_state_shorter`). In a table of the events, that is how many entries have no more steps (`counted_shorter`).
-- Assumes nothing.
use Prim.Native.Nat.{ℕ, ◌-◌, ◌≤◌, ◌<◌}
use native.Mathlib.Nat.{le_trans}
use mathlib.Core.Path.{◌≡◌, sym, ap, ◌∙◌, subst}
use mathlib.Core.Bool.{Bool}
use mathlib.Core.Logic.{◌↔◌}
use mathlib.Core.List.{List, [], ◌++◌, map}
use lib.Dec.{T, leb, leb→le, le→leb}
use lib.ListN.{length, get_or, replicate, length-map}
use Rattle.lists.specs.Lists.{up_from, filter, count, padded}
use Rattle.lists.proofs.Member.{of_filter, in_filter}
use Rattle.lists.proofs.Lengths.{block_at}
use Rattle.lists.proofs.Filters.{count_map}
use Rattle.lists.proofs.Sorted.{sorted_known, filter-sorted}
use Rattle.order.specs.Order.{Order, with_length}
use Rattle.order.specs.Model.Lengths.{NoLonger}
use Rattle.code.specs.Links.{steps_of, event_states}
use Rattle.code.proofs.Links.{steps_shorter, states_alike}
use Rattle.events.specs.declared.Event.{Event}
use Rattle.events.specs.Events.{ErrorEvent, events_of_state, events, entry, no_event, event_table}
use Rattle.events.specs.Model.Counting.{count_within}
use Rattle.events.proofs.Listed.{Listed, Before, Within, within_asymmetric, events_of_state-sorted, of_events, in_events, events-sorted, events_unique}
use Rattle.events.proofs.OfState.{EventOf, of_events_of_state, in_events_of_state, mem_events_of_state}

-- an event of at most so many steps
abbrev pub at_most : ℕ → ErrorEvent → Bool
at_most steps e = leb e.length steps

module _ (o : Order) (N : ℕ) (shorter : N ≤ o.N) where
  abbrev short : Order
  short = with_length N o

  abbrev fits : ErrorEvent → Bool
  fits = at_most (steps_of short)

  listed_shorter : (e : ErrorEvent) → Listed short e ↔ (Listed o e × T (fits e))
  unfolding with_length
  listed_shorter e = (
    λ h. (
      record {
        state_fits = subst (λ (x : ℕ). e.state < x) (states_alike o N) h.state_fits;
        some_step = h.some_step;
        at_most_steps = le_trans h.at_most_steps (steps_shorter o N shorter);
        input_fits = h.input_fits;
        meets = h.meets;
        weighs = h.weighs;
        below = h.below;
      },
      le→leb e.length (steps_of short) h.at_most_steps,
    ),
    λ h. record {
      state_fits = subst (λ (x : ℕ). e.state < x) (sym (states_alike o N)) h.0.state_fits;
      some_step = h.0.some_step;
      at_most_steps = leb→le e.length (steps_of short) h.1;
      input_fits = h.0.input_fits;
      meets = h.0.meets;
      weighs = h.0.weighs;
      below = h.0.below;
    },
  )

  pub events_shorter : events short ≡ filter (at_most (steps_of short)) (events o)
  events_shorter =
      sym (events_unique short (filter fits (events o)) (filter-sorted Before fits (events o) (events-sorted o)) (λ e. (
        λ m. let h = of_filter fits (events o) m in (listed_shorter e).1 (of_events o h.0, h.1),
        λ l. let h = (listed_shorter e).0 l in in_filter fits (events o) (in_events o h.0) h.1,
      )))

  pub events_of_state_shorter : (i : ℕ) → i < event_states o → events_of_state short i ≡ filter (at_most (steps_of short)) (events_of_state o i)
  events_of_state_shorter i low =
      let low-short : i < event_states short = subst (λ (x : ℕ). i < x) (sym (states_alike o N)) low in
      sorted_known Within within_asymmetric (EventOf short i) (events_of_state short i) (filter fits (events_of_state o i))
      (events_of_state-sorted short i) (filter-sorted Within fits (events_of_state o i) (events_of_state-sorted o i))
      (λ e. mem_events_of_state short i e low-short) (λ e. (
        λ m.
            let h = of_filter fits (events_of_state o i) m in
            let of = of_events_of_state o i low h.0 in
            record { state_is = of.state_is; event = (listed_shorter e).1 (of.event, h.1) },
        λ l.
            let h = (listed_shorter e).0 l.event in
            in_filter fits (events_of_state o i) (in_events_of_state o i record { state_is = l.state_is; event = h.0 }) h.1,
      ))

-- the same of an order that is no longer
pub events_of_state_no_longer : {o c : Order} → NoLonger o c → (i : ℕ) → i < event_states c
    → events_of_state o i ≡ filter (at_most (steps_of o)) (events_of_state c i)
events_of_state_no_longer {o} {c} h i low =
    subst (λ (x : Order). events_of_state x i ≡ filter (at_most (steps_of x)) (events_of_state c i)) (sym h.same) (events_of_state_shorter c o.N h.at_most i low)

-- the entries of a table that have so few steps are as many as the events
counted-listed : (o : Order) (size steps : ℕ) → count_within (event_table size o) (length (events o)) steps ≡ count (at_most steps) (events o)
unfolding count_within event_table padded entry
counted-listed o size steps =
    let entries : List Event = map entry (events o) in
    let all : length (events o) ≡ length entries = sym (length-map (events o) entry) in
    let at : ℕ → Event = λ k. get_or (entries ++ replicate (size - length entries) no_event) k no_event in
    let short : Event → Bool = λ e. leb e.length steps in
    ap (λ (n : ℕ). count (λ k. short (at k)) (up_from 0 n)) all
    ∙ sym (count_map short at (up_from 0 (length entries)))
    ∙ ap (count short) (block_at no_event [] entries (replicate (size - length entries) no_event))
    ∙ count_map short entry (events o)

pub counted_shorter : {o c : Order} → NoLonger o c → (size : ℕ) → count_within (event_table size c) (length (events c)) (steps_of o) ≡ length (events o)
unfolding count
counted_shorter {o} {c} h size =
    counted-listed c size (steps_of o)
    ∙ sym (ap length (subst (λ (x : Order). events x ≡ filter (at_most (steps_of x)) (events c)) (sym h.same) (events_shorter c o.N h.at_most)))
