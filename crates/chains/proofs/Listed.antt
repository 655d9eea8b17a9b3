-- What the chaining finds is what the model of the recursion joins (`paths`' specs/Model/Joining.antt), where the table holds the events of an order c, the
-- order itself or the same for longer words, and the work area tells where each state's begin: state by state (`found_is_state_words`), and over all
-- states that begin events (`found_from_is_chain_words`). Of a longer order's events those are at hand that are the order's own (`at_hand_is`).
-- Assumes nothing.
use Prim.Native.Nat.{ℕ, zero, suc, ◌+◌, ◌-◌, ◌≤◌, ◌<◌}
use native.Mathlib.Nat.{lt_of_lt_of_le}
use native.Mathlib.Numerals.{add-one}
use native.Mathlib.Omega.{arith}
use mathlib.Core.Path.{◌≡◌, refl, sym, ap, ap₂, ◌∙◌, subst}
use mathlib.Core.Logic.{inl, inr}
use mathlib.Core.List.Memᴰ
use mathlib.Core.List.{List, ◌++◌, map, flat_map, Memᴰ}
use lib.Pow.{split}
use lib.ListN.{length, get_or}
use Rattle.lists.specs.Lists.{up_from, filter}
use Rattle.lists.proofs.Member.{up_from_bounds, in_up_from}
use Rattle.lists.proofs.Sorted.{Sorted, sorted_known}
use Rattle.code.specs.Links.{steps_of, event_states}
use Rattle.code.proofs.Links.{same_states}
use Rattle.order.specs.Order.{Order}
use Rattle.order.specs.Model.Lengths.{NoLonger}
use Rattle.events.specs.declared.Event.{Event}
use Rattle.events.specs.Events.{ErrorEvent, events_of_state, events, entry, no_event}
use Rattle.events.proofs.Listed.{Within, Before, within_asymmetric, of_events, in_events, events_of_state-sorted, events-sorted}
use Rattle.events.proofs.OfState.{EventOf, mem_events_of_state}
use Rattle.events.proofs.Shorter.{at_most, events_of_state_no_longer}
use Rattle.paths.specs.Model.Joining.{joined, unbegun_first, state_words, chain_words}
use Rattle.bounds.specs.Model.Places.{state_count}
use Rattle.bounds.specs.Model.Tables.{first_of, bits_at}
use Rattle.chains.specs.Model.Chaining.{error_event, events_between, at_hand, at_state, after_state, after_states, found, found_from, unbegun, Indexed}
use Rattle.chains.proofs.Slices.{get_or_in, PlaceOf, place_of, sorted_at, range_sorted}
use Rattle.chains.proofs.States.{bits_at_state, fit_filters, at_hand_between, indexed_after_state, bits_after_state, first_after_state}

abbrev pub no_error_event : ErrorEvent
no_error_event = record { state = 0; length = 0; weight = 0; input = 0 }

-- the table begins with the events of c, and the work area tells where each state's stand; its words are those of o
pub record Delimits (o c : Order) (table : List Event) (work : List ℕ) : Type 0 where
  pub indexed : Indexed table work
  pub no_longer : NoLonger o c
  pub bits : bits_at work ≡ steps_of o
  pub few_states : event_states c ≤ state_count
  pub entries : (k : ℕ) → k < length (events c) → get_or table k no_event ≡ entry (get_or (events c) k no_error_event)
  pub last : (i : ℕ) → i ≤ state_count → first_of work i ≤ length (events c)
  pub placed : (k : ℕ) → k < length (events c)
      → (first_of work (get_or table k no_event).state ≤ k) × (k < first_of work ((get_or table k no_event).state + 1))
  pub between : (k s : ℕ) → s < state_count → first_of work s ≤ k → k < first_of work (s + 1) → (get_or table k no_event).state ≡ s

-- an entry of the table is the event that it was made of
error_event-entry : (e : ErrorEvent) → error_event (entry e) ≡ e
unfolding error_event entry
error_event-entry e =
    ap (λ (x : ℕ). record { state = e.state; length = e.length; weight = e.weight; input = x }) (split e.input 64)

state_entry : (e : ErrorEvent) → (entry e).state ≡ e.state
unfolding entry
state_entry e = refl

-- ---- the events of a state, by length and input

within_state : (e f : ErrorEvent) → e.state ≡ f.state → Before e f → Within e f
within_state e f same (inl less) = absurd (omega arith)
within_state e f same (inr h) = h.1

module _ (o c : Order) (table : List Event) (work : List ℕ) (d : Delimits o c table work) where
  abbrev count : ℕ
  count = length (events c)

  abbrev event : ℕ → ErrorEvent
  event k = get_or (events c) k no_error_event

  -- the event at a place of the table
  read : ℕ → ErrorEvent
  read k = error_event (get_or table k no_event)

  read_is : (k : ℕ) → k < count → read k ≡ event k
  unfolding read
  read_is k h = ap error_event (d.entries k h) ∙ error_event-entry (event k)

  state_is : (k : ℕ) → k < count → (get_or table k no_event).state ≡ (event k).state
  state_is k h = ap (λ (e : Event). e.state) (d.entries k h) ∙ state_entry (event k)

  module _ (i : ℕ) (low : i < event_states c) where
    inside : i < state_count
    inside = lt_of_lt_of_le low d.few_states

    abbrev from : ℕ
    from = first_of work i

    abbrev to : ℕ
    to = first_of work (i + 1)

    rising : from ≤ to
    rising = let s = inside in d.indexed.rises i (i + 1) (omega arith) (omega arith)

    before_count : (k : ℕ) → k < from + (to - from) → k < count
    before_count k h = let s = inside in let l = d.last (i + 1) (omega arith) in let r = rising in omega arith

    of_state : (k : ℕ) → from ≤ k → k < from + (to - from) → (event k).state ≡ i
    of_state k h g = let r = rising in sym (state_is k (before_count k g)) ∙ d.between k i inside h (omega arith)

    slice : List ErrorEvent
    slice = map read (up_from from (to - from))

    slice_sorted : Sorted Within slice
    unfolding slice
    slice_sorted =
        range_sorted Within read from (to - from) (λ k l h g m.
        let k-in : k < count = before_count k (omega arith) in
        let l-in : l < count = before_count l m in
        let b : Before (event k) (event l) = sorted_at no_error_event Before (events c) (events-sorted c) k l g l-in in
        let w : Within (event k) (event l) =
        within_state (event k) (event l) (of_state k h (omega arith) ∙ sym (of_state l (omega arith) m)) b in
        subst (λ (x : ErrorEvent). Within x (read l)) (sym (read_is k k-in)) (subst (Within (event k)) (sym (read_is l l-in)) w))

    of_slice : (e : ErrorEvent) → Memᴰ e slice → EventOf c i e
    unfolding slice
    of_slice e m =
        let h = Memᴰ.of_map read (up_from from (to - from)) m in
        let b = up_from_bounds from (to - from) h.1 in
        let at : h.0 < count = before_count h.0 b.1 in
        let is : event h.0 ≡ e = sym (read_is h.0 at) ∙ h.2 in
        subst (EventOf c i) is record {
          state_is = of_state h.0 b.0 b.1;
          event = of_events c
              (get_or_in no_error_event (events c) h.0 at);
        }

    in_slice : (e : ErrorEvent) → EventOf c i e → Memᴰ e slice
    unfolding slice
    in_slice e h =
        let p : PlaceOf no_error_event (events c) e = place_of no_error_event (events c) (in_events c h.event) in
        let k : ℕ = p.place in
        let same : (get_or table k no_event).state ≡ i =
        state_is k p.inside ∙ ap (λ (x : ErrorEvent). x.state) p.is ∙ h.state_is in
        let at = d.placed k p.inside in
        let a : from ≤ k = subst (λ (s : ℕ). first_of work s ≤ k) same at.0 in
        let b : k < to = subst (λ (s : ℕ). k < first_of work (s + 1)) same at.1 in
        subst (λ (x : ErrorEvent). Memᴰ x (map read (up_from from (to - from)))) (read_is k p.inside ∙ p.is)
        (Memᴰ.map read (in_up_from from (to - from) a (omega arith)))

    slice_is : slice ≡ events_of_state c i
    slice_is =
        sorted_known Within within_asymmetric (EventOf c i) slice (events_of_state c i) slice_sorted (events_of_state-sorted c i)
        (λ e. (of_slice e, in_slice e)) (λ e. mem_events_of_state c i e low)

    between_is : events_between table from to ≡ events_of_state c i
    unfolding events_between slice read
    between_is = slice_is

    -- those at hand have no more steps than a word: they are the order's own
    pub at_hand_is : at_hand table (at_state table i work) ≡ events_of_state o i
    at_hand_is =
        at_hand_between d.indexed i inside ∙ fit_filters d.indexed i inside
        ∙ ap₂ (λ (N : ℕ) (es : List ErrorEvent). filter (at_most N) es) d.bits between_is
        ∙ sym (events_of_state_no_longer d.no_longer i low)

    pub found_is_state_words : (w : ℕ) → found table (at_state table i work) (unbegun (bits_at work) (unbegun_first o) w) ≡ state_words o i w
    unfolding found unbegun state_words
    found_is_state_words w =
        ap₂ (λ (es : List ErrorEvent) (N : ℕ). joined (bits_at work) es N (bits_at work) 0 (unbegun_first o) w) at_hand_is
        (bits_at_state d.indexed i inside)
        ∙ ap (λ (N : ℕ). joined N (events_of_state o i) N N 0 (unbegun_first o) w) d.bits

    -- the next state finds the same index
    pub delimits_next : (w : ℕ) → Delimits o c table (after_state table w i work)
    delimits_next w =
        let same : (j : ℕ) → j ≤ state_count → first_of (after_state table w i work) j ≡ first_of work j =
        first_after_state d.indexed i inside w in
        record {
          indexed = indexed_after_state d.indexed i inside w;
          no_longer = d.no_longer;
          bits = bits_after_state d.indexed i inside w ∙ d.bits;
          few_states = d.few_states;
          entries = d.entries;
          last = λ j h. subst (λ (x : ℕ). x ≤ count) (sym (same j h)) (d.last j h);
          placed = λ k h.
              let s : ℕ = (get_or table k no_event).state in
              let s-in : s < state_count = subst (λ (x : ℕ). x < state_count) (sym (state_is k h))
              (lt_of_lt_of_le (of_events c (get_or_in no_error_event (events c) k h)).state_fits d.few_states) in
              let at = d.placed k h in (
                subst (λ (x : ℕ). x ≤ k) (sym (same s (omega arith))) at.0,
                subst (λ (x : ℕ). k < x)
                    (sym (same (s + 1) (omega arith))) at.1,
              );
          between = λ k s h a b. d.between k s h (subst (λ (x : ℕ). x ≤ k) (same s (omega arith)) a)
              (subst (λ (x : ℕ). k < x) (same (s + 1) (omega arith)) b);
        }

-- n states from state i on
found_from_lem : (o c : Order) (table : List Event) (w n i : ℕ) (work : List ℕ) → Delimits o c table work → i + n ≤ event_states c
    → found_from table (unbegun_first o) w n i work ≡ flat_map (λ j. state_words o j w) (up_from i n)
unfolding found_from up_from flat_map
found_from_lem o c table w zero i work d h = refl
found_from_lem o c table w (suc n) i work d h =
    let low : i < event_states c = omega arith in
    ap₂ ◌++◌ (found_is_state_words o c table work d i low w)
    (ap (λ (x : ℕ). found_from table (unbegun_first o) w n x (after_state table w i work)) (add-one i) ∙ found_from_lem o c table w n (suc i)
    (after_state table w i work) (delimits_next o c table work d i low w) (omega arith))

-- the index stays, however many states were at hand
pub delimits_after : (o c : Order) (table : List Event) (w n i : ℕ) (work : List ℕ) → Delimits o c table work → i + n ≤ event_states c
    → Delimits o c table (after_states table w n i work)
unfolding after_states
delimits_after o c table w zero i work d h = d
delimits_after o c table w (suc n) i work d h =
    delimits_after o c table w n (i + 1) (after_state table w i work) (delimits_next o c table work d i (omega arith) w) (omega arith)

pub found_from_is_chain_words : (o c : Order) (table : List Event) (work : List ℕ) (w : ℕ) → Delimits o c table work
    → found_from table (unbegun_first o) w (event_states o) 0 work ≡ chain_words o w
unfolding chain_words
found_from_is_chain_words o c table work w d = found_from_lem o c table w (event_states o) 0 work d (all (event_states o) (event_states c) (same_states d.no_longer))
  where
    all : (x y : ℕ) → x ≡ y → 0 + x ≤ y
    all x y e = omega arith
