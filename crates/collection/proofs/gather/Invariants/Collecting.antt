-- The collection as it goes: what stands before turn k (`Standing`), that it stands before the first turn and after each, and what the call answers at
-- the end.
-- Assumes nothing.
use Prim.Native.Nat.{ℕ, suc, ◌+◌, ◌-◌, ◌*◌, ◌/◌, ◌%◌, ◌^◌, ◌≤◌, ◌<◌}
use native.Mathlib.Nat.{mod-lt, div-lt_iff_lt-mul, div-add-mod', mod-eq_of_lt, suc-mul, mul-mod_left}
use native.Mathlib.Decide.{ℕ_discrete, dec_le}
use native.Mathlib.Omega.{arith}
use mathlib.Core.Path.{◌≡◌, refl, sym, ap, ap₂, ◌∙◌, subst}
use mathlib.Core.Logic.{◌≢◌}
use mathlib.Core.List.{List, ◌++◌, map}
use lib.Arith.{digits_div}
use lib.Pow.{pow_mono}
use lib.ListN.{length, replicate, length-replicate, length-map}
use Rattle.std.specs.Prelude.{Ok, Err}
use Rattle.lists.specs.Lists.{padded, cleared}
use Rattle.code.specs.Links.{steps_of, event_states}
use Rattle.code.specs.Model.Steps.{most_steps}
use Rattle.code.proofs.Links.{few_steps, some_steps, states_le}
use Rattle.order.specs.Order.{Order}
use Rattle.order.specs.Questions.{work_size}
use Rattle.order.specs.Model.Accepted.{Accepted}
use Rattle.order.specs.declared.refusal.Refusal.TheVariants as R
use Rattle.events.specs.declared.Event.{Event}
use Rattle.events.specs.Events.{entry, events, no_event, event_table}
use Rattle.needed.specs.Model.Tables.{row_words, tables_end, length_at, prepared, turned, Tables}
use Rattle.collection.specs.declared.Node.{Node}
use Rattle.collection.specs.Model.Backward.{found, appends, first, Walkable, Descent}
use Rattle.collection.specs.Model.Gathered.{AllEvents, Gathered}
use Rattle.needed.proofs.Places.{tables_inside}
use Rattle.needed.proofs.Rows.{Filled}
use Rattle.collection.proofs.Ready.{Ready, ready_tables}
use Rattle.collection.proofs.Backward.{found_is}
use Rattle.collection.proofs.Turns.{Turned, turn_ready, length-turned, length-prepared, prepared_ready, turn_events, turns_from, turns_more, turns_none, all-turns}
use Rattle.collection.proofs.Nodes.{first_node}
use Rattle.collection.proofs.Appends.{Kept, appends_none, appends-append, appends_kept, all_fit, all_past}

-- ---- turns and their states

-- the state stays until the last length
same_state : (k steps : ℕ) → 1 ≤ steps → (k + 1) % steps ≢ 0 → (k + 1) / steps ≡ k / steps
same_state k steps pos n =
    let rem : k % steps < steps = mod-lt k pos in
    let parts : k / steps * steps + (k % steps + 1) ≡ k + 1 = moved (k / steps * steps) (k % steps) k (div-add-mod' k steps) in
    elim (ℕ_discrete (k % steps + 1) steps) [
      | yes e ↦ absurd (n (sym (ap (λ (x : ℕ). x % steps) (parts_full (k / steps) e parts)) ∙ whole (k / steps)))
      | no ne ↦ ap (λ (x : ℕ). x / steps) (sym parts) ∙ digits_div (k / steps) (omega arith)
    ]
  where
    moved : (x y z : ℕ) → x + y ≡ z → x + (y + 1) ≡ z + 1
    moved x y z e = omega arith

    parts_full : (q : ℕ) → k % steps + 1 ≡ steps → q * steps + (k % steps + 1) ≡ k + 1 → suc q * steps ≡ k + 1
    parts_full q e p = suc-mul q steps ∙ ap (λ (x : ℕ). q * steps + x) (sym e) ∙ p

    whole : (q : ℕ) → suc q * steps % steps ≡ 0
    whole q = mul-mod_left (suc q) steps

-- an accepted order, and what is lent: how long the two are
pub record Job : Type 0 where
  pub order : Order
  pub nt : ℕ
  pub nw : ℕ
  pub acc : Accepted order
  pub enough : work_size ≤ nw

module _ (j : Job) where
  abbrev order : Order
  order = j.order

  abbrev gs : List ℕ
  gs = j.order.generators

  abbrev v : ℕ
  v = j.order.v

  abbrev steps : ℕ
  steps = steps_of order

  abbrev d : ℕ
  d = j.order.d

  abbrev nt : ℕ
  nt = j.nt

  abbrev nw : ℕ
  nw = j.nw

  abbrev acc : Accepted order
  acc = j.acc

  abbrev pub words : ℕ
  words = (2 ^ v + 7) / 8

  abbrev pub last : ℕ
  last = event_states order * steps

  -- all events, and the table that they are to be listed in
  abbrev pub whole : List Event × ℕ
  whole = appends (map entry (events order)) (replicate nt no_event, 0)

  states_few : 2 ^ v ≤ 256
  states_few = pow_mono acc.code.small_memory

  some : 1 ≤ steps
  some = some_steps order acc.code

  pub words_few : words ≤ row_words
  words_few = let few = states_few in omega arith

  covers : 2 ^ v ≤ 8 * words
  covers = omega arith

  pub record Standing (k at : ℕ) (zs : List Event) (us : List ℕ) : Type 0 where
    pub kept : Kept nt (zs, at)
    pub work_size_is : length us ≡ nw
    pub ready : Ready gs v d us
    pub filled : k % steps ≢ 0 → Filled (k / steps) words steps us
    pub rest : appends (turns_from order (last - k) k) (zs, at) ≡ whole

  pub standing_first : (work : List ℕ) → length work ≡ nw → Standing 0 0 (replicate nt no_event) (prepared gs v d work)
  standing_first work size =
      record {
        kept = record { size = length-replicate nt no_event; near = omega arith };
        work_size_is = length-prepared gs v d work ∙ size;
        ready = prepared_ready gs v d work (subst (λ (n : ℕ). tables_end ≤ n) (sym size) (tables_inside j.enough));
        filled = λ n. absurd (n (mod-eq_of_lt some));
        rest = ap (λ (es : List Event). appends es (replicate nt no_event, 0)) (ap (λ (n : ℕ). turns_from order n 0) (all_left last) ∙ all-turns order);
      }
    where
      all_left : (x : ℕ) → x - 0 ≡ x
      all_left x = omega arith

  module _ (k at : ℕ) (zs : List Event) (us : List ℕ) (s : Standing k at zs us) where
    pub tables_before : Tables us
    tables_before = ready_tables gs v d us acc.code.few_generators acc.code.small_memory s.ready

    abbrev pub next_work : List ℕ
    next_work = turned words steps k us

    abbrev pub next_table : List Event × ℕ
    next_table = appends (found next_work (first steps k)) (zs, at)

    pub work_turned : length next_work ≡ nw
    work_turned = length-turned words steps k us ∙ s.work_size_is

    turned_well : Turned gs v d words steps k next_work
    turned_well = turn_ready gs v d words steps k us (few_steps order acc.code) words_few acc.code.small_memory s.ready s.filled

    pub tables_turned : Tables next_work
    tables_turned = ready_tables gs v d next_work acc.code.few_generators acc.code.small_memory turned_well.ready

    rem : k % steps < steps
    rem = mod-lt k some

    pub length_short : length_at next_work ≤ most_steps
    length_short = let is = turned_well.length_is in let r = rem in let most = few_steps order acc.code in omega arith

    module _ (less : k < last) where
      state_begins : k / steps < event_states order
      state_begins = (div-lt_iff_lt-mul some).1 less

      pub node_first : Walkable (first steps k)
      node_first = let few = states_few in let fit = states_le order in let begins = state_begins in first_node steps k (few_steps order acc.code) (omega arith) rem

      met_here : found next_work (first steps k) ≡ turn_events order k
      unfolding turn_events
      met_here =
          let r = rem in
          found_is order acc.code next_work words k turned_well.ready turned_well.filled covers state_begins (omega arith) acc.threshold.at_most_64 turned_well.length_is

      pub standing_next : Standing (k + 1) next_table.1 next_table.0 next_work
      standing_next = record {
        kept = appends_kept (found next_work (first steps k)) nt (zs, at) s.kept;
        work_size_is = work_turned;
        ready = turned_well.ready;
        filled = λ n. subst (λ (i : ℕ). Filled i words steps next_work) (sym (same_state k steps some n)) turned_well.filled;
        rest =
            ap (λ (es : List Event). appends (turns_from order (last - (k + 1)) (k + 1)) (appends es (zs, at))) met_here
            ∙ appends-append (turn_events order k) (turns_from order (last - (k + 1)) (k + 1)) (zs, at)
            ∙ ap (λ (es : List Event). appends es (zs, at)) (ap (λ (j : ℕ). turn_events order k ++ turns_from order (last - (k + 1)) j) one_on ∙ sym (turns_more order (last - (k + 1)) k) ∙ ap (λ (n : ℕ). turns_from order n k) one_left)
            ∙ s.rest;
      }
        where
          one_on : k + 1 ≡ suc k
          one_on = omega arith

          one_left : suc (last - (k + 1)) ≡ last - k
          one_left = omega arith

    pub standing_last : last ≤ k → (zs, at) ≡ whole
    standing_last over = appends_none (zs, at) ∙ ap (λ (es : List Event). appends es (zs, at)) (sym (turns_none order k) ∙ ap (λ (n : ℕ). turns_from order n k) none) ∙ s.rest
      where
        none : 0 ≡ last - k
        none = omega arith

  -- ---- the loop at turn k, at the position `at`, with the table and the work area

  pub begun : (work : List ℕ) → length work ≡ nw → (zs : List Event) (us : List ℕ) → zs ≡ replicate nt no_event → us ≡ prepared gs v d work → Standing 0 0 zs us
  begun work e zs us ez eu =
      subst (λ (z : List Event). Standing 0 0 z us) (sym ez) (subst (λ (u : List ℕ). Standing 0 0 (replicate nt no_event) u) (sym eu) (standing_first work e))

  module _ {k at : ℕ} {zs : List Event} {us : List ℕ} (x : Standing k at zs us) where
    pub tables_at : Tables us
    tables_at = tables_before k at zs us x

    pub all_met : last ≤ k → (zs, at) ≡ whole
    all_met over = standing_last k at zs us x over

    -- a turn, whatever its lists and its node are called
    module _ (small : k < last) (us' : List ℕ) (is_us : us' ≡ turned words steps k us) (e : Node) (is-e : e ≡ first steps k) where
      pub descent : Descent us' zs at e
      descent = record {
        tables = subst Tables (sym is_us) (tables_turned k at zs us x);
        short = subst (λ (u : List ℕ). length_at u ≤ most_steps) (sym is_us) (length_short k at zs us x);
        walkable = subst Walkable (sym is-e) (node_first k at zs us x small);
        near = let size = x.kept.size in let near = x.kept.near in omega arith;
      }

      pub after : (zs' : List Event) (p : ℕ) → (zs', p) ≡ appends (found us' e) (zs, at) → Standing (k + 1) p zs' us'
      after zs' p φ =
          let is : (zs', p) ≡ next_table k at zs us x = φ ∙ ap₂ (λ (u : List ℕ) (y : Node). appends (found u y) (zs, at)) is_us is-e in
          subst (λ (u : List ℕ). Standing (k + 1) p zs' u) (sym is_us)
          (subst (λ (s : List Event × ℕ). Standing (k + 1) s.1 s.0 (next_work k at zs us x)) (sym is) (standing_next k at zs us x small))

-- what the loop keeps: the order is accepted and the work area long enough, and turn k stands
pub record Before (o : Order) (nt nw k at : ℕ) (zs : List Event) (us : List ℕ) : Type 0 where
  pub acc : Accepted o
  pub enough : work_size ≤ nw
  pub stands : Standing record { order = o; nt = nt; nw = nw; acc = acc; enough = enough } k at zs us

-- ---- the answer

module _ (o : Order) (table : List Event) (zs : List Event) (at : ℕ) (e : (zs, at) ≡ appends (map entry (events o)) (replicate (length table) no_event, 0)) where
  abbrev all : List Event
  all = map entry (events o)

  count_same : length all ≡ length (events o)
  count_same = length-map (events o) entry

  too_many : length table < at → length table < length (events o)
  too_many past = elim (dec_le (length all) (length table)) [
    | yes fit ↦ let listed = ap (λ (s : List Event × ℕ). s.1) (e ∙ all_fit no_event (length table) all fit) in absurd (omega arith)
    | no more ↦ let same = count_same in omega arith
  ]

  all_listed : at ≤ length table → AllEvents o table zs at
  unfolding event_table
  all_listed inside = elim (dec_le (length all) (length table)) [
    | yes fit ↦
        let same = count_same in
        let both : ◌≡◌ {A = List Event × ℕ} (zs, at) (padded (length table) no_event all, length all) = e ∙ all_fit no_event (length table) all fit in
        record { fits = omega arith; number = ap (λ (s : List Event × ℕ). s.1) both ∙ same; table = ap (λ (s : List Event × ℕ). s.0) both }
    | no more ↦
        let past : length table < (appends all (replicate (length table) no_event, 0)).1 = all_past no_event (length table) all (omega arith) in
        let is = ap (λ (s : List Event × ℕ). s.1) e in
        absurd (omega arith)
  ]

  module _ (work left : List ℕ) (zeros : left ≡ replicate (length work) 0) where
    pub all_gathered : at ≤ length table → Gathered o table zs work left (Ok at)
    unfolding cleared
    all_gathered inside = record { inside = all_listed inside; past = tt; zeros = zeros }

    pub past_gathered : length table < at → Gathered o table zs work left (Err R.TooManyEvents)
    unfolding cleared
    past_gathered past = record { inside = tt; past = (refl, too_many past); zeros = zeros }
