-- Once the table holds an order's events, or those of the same order for longer words, and all are noted, the work area tells where each state's begin
-- (`delimits_order`).
-- Assumes nothing.
use Prim.Native.Nat.{ℕ, ◌+◌, ◌-◌, ◌*◌, ◌^◌, ◌≤◌, ◌<◌}
use native.Mathlib.Nat.{le_trans, lt_of_lt_of_le, lt_of_le_of_lt, mul-le-mul_left}
use native.Mathlib.Omega.{arith}
use mathlib.Core.Path.{◌≡◌, refl, sym, ap, ◌∙◌, subst}
use mathlib.Core.Logic.{inl, inr}
use mathlib.Core.List.{List, map}
use lib.ListN.{length, get_or, replicate, length-replicate, get_or-map, length-map}
use lib.Pow.{pow_mono}
use Rattle.lists.proofs.Lengths.{get_or-padded_inside}
use Rattle.code.specs.Links.{steps_of, event_states}
use Rattle.code.proofs.Links.{states_le, no_more_steps}
use Rattle.order.specs.Order.{Order}
use Rattle.order.specs.Model.Lengths.{NoLonger}
use Rattle.events.specs.declared.Event.{Event}
use Rattle.events.specs.Events.{ErrorEvent, events, entry, no_event, event_table}
use Rattle.events.proofs.Listed.{Listed, Before, of_events, events-sorted}
use Rattle.code.specs.Model.Steps.{most_steps}
use Rattle.bounds.specs.Model.Places.{state_count, area_size}
use Rattle.bounds.specs.Model.Tables.{first_of, bits_at, surveyed, indexed, Segment}
use Rattle.bounds.proofs.Kept.{Noteworthy, surveyed_keeps, indexed_keeps}
use Rattle.bounds.proofs.States.{states_indexed, first_of_rises, first_of_last, states_between, states_bits, states_fill, states_whole}
use Rattle.chains.specs.Model.Chaining.{most_weight, word_of, Joinable, Indexed}
use Rattle.chains.proofs.Slices.{get_or_in, sorted_at}
use Rattle.chains.proofs.Listed.{no_error_event, Delimits}

-- where the event ends a word of T steps, its input stays below 2^128
abbrev pub InputWhole : ℕ → ErrorEvent → Type 0
InputWhole T e = e.input * 2 ^ (T - e.length) < 2 ^ 128

whole_shorter : (T T' : ℕ) (e : ErrorEvent) → T ≤ T' → InputWhole T' e → InputWhole T e
whole_shorter T T' e h whole =
    let fewer : 2 ^ (T - e.length) ≤ 2 ^ (T' - e.length) = pow_mono {i = T - e.length} {j = T' - e.length} (omega arith) in
    lt_of_le_of_lt (mul-le-mul_left e.input fewer) whole

-- what an entry of the table says of its event
entry_state : (e : ErrorEvent) → (entry e).state ≡ e.state
unfolding entry
entry_state e = refl

entry_length : (e : ErrorEvent) → (entry e).length ≡ e.length
unfolding entry
entry_length e = refl

entry_joinable : (c : Order) (T : ℕ) (e : ErrorEvent) → c.d ≤ most_weight → InputWhole T e → Listed c e → Joinable T (entry e)
unfolding entry
entry_joinable c T e light whole h =
    let b = h.below in
    record {
      some_step = h.some_step;
      light = omega arith;
      input_small = subst
          (λ (x : ℕ). x < 2 ^ e.length) (sym (halves e.input)) h.input_fits;
      whole = subst (λ (x : ℕ). x * 2 ^ (T - e.length) < 2 ^ 128) (sym (halves e.input)) whole;
    }
  where
    halves : (c : ℕ) → word_of (entry (record { state = e.state; length = e.length; weight = e.weight; input = c })) ≡ c
    halves c = omega arith

before_states : (e f : ErrorEvent) → Before e f → e.state ≤ f.state
before_states e f (inl h) = omega arith
before_states e f (inr h) = let q = h.0 in omega arith

before_lengths : (e f : ErrorEvent) → e.state ≡ f.state → Before e f → e.length ≤ f.length
before_lengths e f same (inl h) = absurd (omega arith)
before_lengths e f same (inr (q, inl h)) = omega arith
before_lengths e f same (inr (q, inr h)) = let l = h.0 in omega arith

module _ {o c : Order} (no_longer : NoLonger o c) (some_bits : 1 ≤ steps_of o) (few_bits : steps_of c ≤ most_steps) (memory : c.v ≤ 8) (light : c.d ≤ most_weight)
    (whole : (e : ErrorEvent) → Listed c e → InputWhole (steps_of c) e)
    (table : List Event) (size : ℕ) (room : area_size ≤ size) (fits : length (events c) ≤ length table)
    (entries : (k : ℕ) → k < length (events c) → get_or table k no_event ≡ entry (get_or (events c) k no_error_event)) where
  abbrev count : ℕ
  count = length (events c)

  abbrev event : ℕ → ErrorEvent
  event k = get_or (events c) k no_error_event

  abbrev work : List ℕ
  work = indexed (steps_of o) (surveyed table count 0 (replicate size 0))

  few_states : event_states c ≤ state_count
  few_states = le_trans (states_le c) (pow_mono {i = c.v} {j = 8} memory)

  known : (k : ℕ) → k < count → Listed c (event k)
  known k h = of_events c (get_or_in no_error_event (events c) k h)

  state_at_lem : (k : ℕ) → k < count → (get_or table k no_event).state ≡ (event k).state
  state_at_lem k h = ap (λ (e : Event). e.state) (entries k h) ∙ entry_state (event k)

  length_at : (k : ℕ) → k < count → (get_or table k no_event).length ≡ (event k).length
  length_at k h = ap (λ (e : Event). e.length) (entries k h) ∙ entry_length (event k)

  before_at : (k l : ℕ) → k < l → l < count → Before (event k) (event l)
  before_at k l h g = sorted_at no_error_event Before (events c) (events-sorted c) k l h g

  state_small : (k : ℕ) → k < count → (get_or table k no_event).state < state_count
  state_small k h = subst (λ (x : ℕ). x < state_count) (sym (state_at_lem k h)) (lt_of_lt_of_le (known k h).state_fits few_states)

  length_few : (k : ℕ) → k < count → (event k).length ≤ most_steps
  length_few k h = le_trans (known k h).at_most_steps few_bits

  pub noteworthy : Noteworthy table count 0
  noteworthy k h g =
      let in_table : k < count = omega arith in
      record {
        state_small = state_small k in_table;
        length_small = subst (λ (x : ℕ). x ≤ most_steps) (sym (length_at k in_table))
            (length_few k in_table);
      }

  ordered : (k l : ℕ) → k < l → l < count → (get_or table k no_event).state ≤ (get_or table l no_event).state
  ordered k l h g =
      let a = state_at_lem k (omega arith) in
      let b = state_at_lem l g in
      let c = before_states (event k) (event l) (before_at k l h g) in
      omega (arith, a, b, c)

  last : (i : ℕ) → i ≤ state_count → first_of work i ≤ count
  last = first_of_last table count (steps_of o) size room noteworthy ordered

  between : (k s : ℕ) → s < state_count → first_of work s ≤ k → k < first_of work (s + 1) → (get_or table k no_event).state ≡ s
  between = states_between table count (steps_of o) size room noteworthy ordered

  bits_are : bits_at work ≡ steps_of o
  bits_are = states_bits table count (steps_of o) size room noteworthy ordered

  segment : (i : ℕ) → i < state_count → Segment table (first_of work i) (first_of work (i + 1))
  segment i h = record {
    states = λ k a b. state_small k (in_table k b);
    lengths = λ k a b.
        let e = known k (in_table k b) in (
          subst (λ (x : ℕ). 1 ≤ x) (sym (length_at k (in_table k b))) e.some_step,
          subst (λ (x : ℕ). x ≤ most_steps) (sym (length_at k (in_table k b))) (length_few k (in_table k b)),
        );
    ordered = λ k l a c b.
        let k-in : k < count = in_table k (omega arith) in
        let same : (event k).state ≡ (event l).state = sym (state_at_lem k k-in) ∙ between k i h a (omega arith)
        ∙ sym (between l i h (omega arith) b) ∙ state_at_lem l (in_table l b) in
        let p = length_at k k-in in
        let q = length_at l (in_table l b) in
        let r = before_lengths (event k) (event l) same (before_at k l c (in_table l b)) in
        omega (arith, p, q, r);
  }
    where
      in_table : (k : ℕ) → k < first_of work (i + 1) → k < count
      in_table k b = lt_of_lt_of_le b (last (i + 1) (omega arith))

  index : Indexed table work
  index = record {
    enough = let a = (indexed_keeps (steps_of o) (surveyed table count 0 (replicate size 0))).size in
        let b = (surveyed_keeps table count 0 (replicate size 0) noteworthy).size in let c =
        length-replicate {A = ℕ} size 0 in omega (arith, a, b, c, room);
    some_bits = subst (λ (x : ℕ). 1 ≤ x) (sym bits_are) some_bits;
    few_bits = subst (λ (x : ℕ). x ≤ most_steps) (sym bits_are) (le_trans (no_more_steps no_longer) few_bits);
    fill_small = λ k h. let z = states_fill table count (steps_of o) size room noteworthy ordered k h in omega (arith, z);
    rises = first_of_rises table count (steps_of o) size room noteworthy ordered;
    inside = le_trans (last state_count (omega arith)) fits;
    segment = segment;
    joinable = λ k h.
        let in_table : k < count = lt_of_lt_of_le h (last state_count (omega arith)) in
        subst (λ (x : ℕ). Joinable x (get_or table k no_event)) (sym bits_are) (subst (Joinable (steps_of o)) (sym (entries k in_table))
        (entry_joinable c (steps_of o) (event k) light
        (whole_shorter (steps_of o) (steps_of c) (event k) (no_more_steps no_longer) (whole (event k) (known k in_table))) (known k in_table)));
    wholes = λ i h k m s. let z = states_whole table count (steps_of o) size room noteworthy ordered i h in omega (arith, z);
  }

  pub delimits_order : Delimits o c table work
  delimits_order = record {
    indexed = index;
    no_longer = no_longer;
    bits = bits_are;
    few_states = few_states;
    entries = entries;
    last = last;
    placed = states_indexed table count (steps_of o) size room noteworthy ordered;
    between = between;
  }

-- a table that an accepted call filled has these entries
pub entries_listed : (o : Order) (size : ℕ) (k : ℕ) → k < length (events o)
    → get_or (event_table size o) k no_event ≡ entry (get_or (events o) k no_error_event)
unfolding event_table entry no_event
entries_listed o size k h =
    let same : length (map entry (events o)) ≡ length (events o) = length-map (events o) entry in
    get_or-padded_inside size no_event (map entry (events o)) k no_event (omega (arith, same, h))
    ∙ get_or-map entry (events o) k no_error_event
