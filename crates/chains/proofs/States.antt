-- The tables of one state: what noting its events asks, what joining them asks, and that the index of the states stays as it was.
-- Assumes nothing.
use Prim.Native.Nat.{ℕ, ◌+◌, ◌-◌, ◌≤◌, ◌<◌}
use native.Mathlib.Nat.{le_trans}
use native.Mathlib.Decide.{ℕ_discrete}
use native.Mathlib.Omega.{arith}
use mathlib.Core.Path.{◌≡◌, refl, sym, ap, ap₂, ◌∙◌, subst}
use mathlib.Core.Bool.{Bool, true, false, cond}
use lib.Dec.{T, ltb, ltb→lt, lt→ltb}
use Rattle.lists.proofs.Choices.{cond_true}
use mathlib.Core.List.{List, [], map, Memᴰ}
use Rattle.lists.specs.Lists.{up_from, filter}
use Rattle.lists.proofs.Sorted.{Within}
use Rattle.code.specs.Model.Steps.{most_steps}
use Rattle.events.specs.Events.{ErrorEvent}
use Rattle.events.proofs.Shorter.{at_most}
use Rattle.paths.specs.Chains.{steps, cost}
use Rattle.paths.proofs.Pruned.{joined_none}
use lib.ListN.{length, get_or}
use Rattle.events.specs.declared.Event.{Event}
use Rattle.events.specs.Events.{no_event}
use Rattle.bounds.specs.Model.Places.{state_count, too_heavy}
use Rattle.bounds.specs.Model.Tables.{first_of, start_at, end_at, bits_at, fill_at, light_at, whole_at, whole_kept, surveyed, opened, is_zero_loop, light_of, Small, Ready, Segment}
use Rattle.bounds.proofs.Kept.{Noteworthy, length_survives, first_of_survives, whole_at_survives, bits_at_survives}
use Rattle.bounds.proofs.Wholes.{length_kept, bits_kept, first_kept, fill_kept, whole_same, whole_other}
use Rattle.bounds.proofs.Carried.{highest}
use Rattle.bounds.proofs.ZeroLoops.{loop-told}
use Rattle.bounds.proofs.Weighed.{length-weighed, bits_weighed, first-weighed, whole_weighed, start_weighed, light_weighed, ready_weighed, first_loop, weighs_least}
use Rattle.bounds.proofs.Ready.{segment_noteworthy, closed_start, segment_small, ready}
use Rattle.chains.specs.Model.Chaining.{error_event, events_between, at_hand, found, unbegun, state_end, tabled, light_from, weighed, at_state, after_state, Joinable, Calming, Joins, Noted, Indexed}
use Rattle.chains.proofs.Found.{some_step, least_whole}
use Rattle.chains.proofs.Fitting.{fitting_after, fitting_inside, fitting_segment, fitting_filters, fitting_are, chain_fits}

module _ {table : List Event} {work : List ℕ} (ix : Indexed table work) (i : ℕ) (inside : i < state_count) where
  abbrev from : ℕ
  from = first_of work i

  abbrev to : ℕ
  to = state_end table i work

  -- the place after the last event of the state, too long or not
  abbrev next : ℕ
  next = first_of work (i + 1)

  all_rising : from ≤ next
  all_rising = ix.rises i (i + 1) (omega arith) (omega arith)

  rising : from ≤ to
  unfolding state_end
  rising = fitting_after table (bits_at work) from next all_rising (ix.segment i inside)

  last : to ≤ first_of work state_count
  unfolding state_end
  last =
      le_trans (fitting_inside table (bits_at work) from next all_rising (ix.segment i inside))
      (ix.rises (i + 1) state_count (omega arith) (omega arith))

  seg : Segment table from to
  unfolding state_end
  seg = fitting_segment table (bits_at work) from next all_rising (ix.segment i inside)

  -- they are those that a word has the steps for
  pub fit_filters : events_between table (first_of work i) (state_end table i work)
      ≡ filter (at_most (bits_at work)) (events_between table (first_of work i) (first_of work (i + 1)))
  unfolding state_end
  fit_filters = fitting_filters table (bits_at work) from next all_rising (ix.segment i inside)

  fit_are : Within (events_between table from to) (events_between table from next)
  unfolding state_end
  fit_are = fitting_are table (bits_at work) from next all_rising (ix.segment i inside)

  chain_fit : (c : List ErrorEvent) → Within c (events_between table from next) → steps c ≡ bits_at work → Within c (events_between table from to)
  unfolding state_end
  chain_fit = chain_fits table (bits_at work) from next all_rising (ix.segment i inside)

  noteworthy : Noteworthy table (to - from) from
  noteworthy = segment_noteworthy table from to rising seg

  -- its events can be noted
  pub state_noted : Noted table from to
  state_noted = record {
    inside = le_trans last ix.inside;
    fits = λ k h g. record { state_small = seg.states k h g; length_small = (seg.lengths k h g).1 };
  }

  -- and the tables closed
  pub state_small : Small (surveyed table (to - from) from (opened to work))
  state_small =
      segment_small table from to work seg ix.some_bits ix.few_bits rising ix.enough ix.fill_small

  tabled_ready : Ready table (tabled table i work) from to
  unfolding tabled
  tabled_ready =
      ready table from to work seg ix.some_bits ix.few_bits rising ix.enough ix.fill_small

  pub tabled_small : Small (tabled table i work)
  tabled_small = tabled_ready.small

  abbrev light : ℕ
  light = light_from table from to (tabled table i work)

  pub state_ready : Ready table (at_state table i work) from to
  unfolding at_state weighed
  state_ready = ready_weighed (tabled table i work) light table from to seg tabled_ready

  pub length-at_state : length (at_state table i work) ≡ length work
  unfolding at_state weighed tabled
  length-at_state =
      length-weighed (tabled table i work) light ∙ length_survives table (to - from) from from to work noteworthy ix.few_bits

  pub bits_at_state : bits_at (at_state table i work) ≡ bits_at work
  unfolding at_state weighed tabled
  bits_at_state = bits_weighed (tabled table i work) light ∙ bits_at_survives table (to - from) from from to work noteworthy ix.few_bits

  pub first-at_state : (j : ℕ) → j ≤ state_count → first_of (at_state table i work) j ≡ first_of work j
  unfolding at_state weighed tabled
  first-at_state j h =
      first-weighed (tabled table i work) light j h ∙ first_of_survives table (to - from) from from to work noteworthy ix.few_bits j h

  whole_at_state : (j : ℕ) → j < state_count → whole_at (at_state table i work) j ≡ whole_at work j
  unfolding at_state weighed tabled
  whole_at_state j h =
      whole_weighed (tabled table i work) light j h ∙ whole_at_survives table (to - from) from from to work noteworthy ix.few_bits j h

  -- they are those of its events
  pub start_at_state : start_at (at_state table i work) 0 ≡ from
  unfolding at_state weighed tabled highest
  start_at_state =
      start_weighed (tabled table i work) light 0 (omega arith)
      ∙ closed_start from (surveyed table (to - from) from (opened to work)) state_small 0 (omega arith)

  pub end_at_state : end_at (at_state table i work) ≡ to
  end_at_state = state_ready.ends

  light_at_state : light_at (at_state table i work) ≡ light
  unfolding at_state weighed
  light_at_state = light_weighed (tabled table i work) light tabled_small.enough

  some_of : (b : Bool) (x : ℕ) → b ≡ ltb from to → 1 ≤ cond b x 0 → from < to
  some_of true x e h = ltb→lt from to (subst T e tt)
  some_of false x e h = absurd (omega arith)

  some_events : 1 ≤ light → from < to
  unfolding light_from
  some_events h = some_of (ltb from to) _ refl h

  light_is : from < to → light ≡ light_of (tabled table i work) (get_or table from no_event) from
  unfolding light_from
  light_is h = cond_true (ltb from to) (light_of (tabled table i work) (get_or table from no_event) from) 0 (lt→ltb from to h)

  -- where the table tells something of the zero loop, it is so
  state_calming : 1 ≤ light_at (at_state table i work) → Calming table (at_state table i work)
  state_calming h =
      let told : 1 ≤ light = subst (λ (x : ℕ). 1 ≤ x) light_at_state h in
      let some : from < to = some_events told in
      let is : light ≡ light_of (tabled table i work) (get_or table from no_event) from = light_is some in
      let told' : 1 ≤ light_of (tabled table i work) (get_or table from no_event) from = subst (λ (x : ℕ). 1 ≤ x) is told in
      let loop = first_loop table (tabled table i work) from to tabled_ready seg told' in
      let start = start_at_state in
      let end = end_at_state in
      record {
        some = omega arith;
        loop = subst (λ (x : ℕ). T (is_zero_loop (get_or table x no_event))) (sym start) (loop-told (get_or table from no_event) loop);
        weighs = λ k g below. subst (λ (x : ℕ). x ≤ (get_or table k no_event).weight) (sym (light_at_state ∙ is))
            (weighs_least table (tabled table i work) from to tabled_ready seg told' k (omega arith) (omega arith));
      }

  state_joinable : (k : ℕ) → start_at (at_state table i work) 0 ≤ k → k < end_at (at_state table i work)
      → Joinable (bits_at (at_state table i work)) (get_or table k no_event)
  state_joinable k h g =
      let e = end_at_state in
      let l = last in
      subst (λ (N : ℕ). Joinable N (get_or table k no_event)) (sym bits_at_state) (ix.joinable k (omega arith))

  state_segment : Segment table (start_at (at_state table i work) 0) (end_at (at_state table i work))
  state_segment =
      subst (λ (x : ℕ). Segment table x (end_at (at_state table i work))) (sym start_at_state)
      (subst (λ (x : ℕ). Segment table from x) (sym end_at_state) seg)

  pub joins_at_state : Joins table (at_state table i work)
  joins_at_state = record {
    ready = subst (λ (x : ℕ). Ready table (at_state table i work) x (end_at (at_state table i work))) (sym start_at_state)
        (subst (λ (x : ℕ). Ready table (at_state table i work) from x) (sym end_at_state) state_ready);
    inside = subst (λ (x : ℕ). x ≤ length table) (sym end_at_state) state_noted.inside;
    segment = state_segment;
    joinable = state_joinable;
    calming = state_calming;
  }

  -- an area with this index
  module _ (us : List ℕ) (size : length us ≡ length work) (same_bits : bits_at us ≡ bits_at work)
      (same_first : (j : ℕ) → j ≤ state_count → first_of us j ≡ first_of work j) (fill_small : (k : ℕ) → k ≤ most_steps → fill_at us k ≤ too_heavy)
      (wholes : (j : ℕ) → j < state_count → (c : List ErrorEvent)
      → Within c (events_between table (first_of work j) (first_of work (j + 1))) → steps c ≡ bits_at work → whole_at us j ≤ cost c) where
    segments : (j : ℕ) → j < state_count → Segment table (first_of us j) (first_of us (j + 1))
    segments j h =
        subst (λ (x : ℕ). Segment table x (first_of us (j + 1))) (sym (same_first j (omega arith)))
        (subst (λ (x : ℕ). Segment table (first_of work j) x) (sym (same_first (j + 1) (omega arith))) (ix.segment j h))

    indexed_as : Indexed table us
    indexed_as = record {
      enough = let e = ix.enough in omega (arith, size, e);
      some_bits = let e = ix.some_bits in omega (arith, same_bits, e);
      few_bits = let e = ix.few_bits in omega (arith, same_bits, e);
      fill_small = fill_small;
      rises = λ j l h g. let a = same_first j (omega arith) in let b = same_first l g in let c = ix.rises j l h g in omega (arith, a, b, c);
      inside = let a = same_first state_count (omega arith) in let c = ix.inside in omega (arith, a, c);
      segment = segments;
      joinable = λ k h. let a = same_first state_count (omega arith) in subst (λ (N : ℕ). Joinable N (get_or table k no_event))
          (sym same_bits) (ix.joinable k (omega (arith, a, h)));
      wholes = λ j h c m s. wholes j h c
          (λ e n. subst (Memᴰ e) (ap₂ (events_between table) (same_first j (omega arith)) (same_first (j + 1) (omega arith))) (m e n)) (s ∙ same_bits);
    }

  -- the events at hand are those of the state that fit
  pub at_hand_between : at_hand table (at_state table i work) ≡ events_between table (first_of work i) (state_end table i work)
  unfolding at_hand events_between
  at_hand_between =
      ap₂ (λ (x y : ℕ). map (λ k. error_event (get_or table k no_event)) (up_from x (y - x))) start_at_state end_at_state

  -- what is kept of it
  kept_whole : (j : ℕ) → j < state_count → (c : List ErrorEvent) → Within c (events_between table (first_of work j) (first_of work (j + 1)))
      → steps c ≡ bits_at work → whole_at (whole_kept i (at_state table i work)) j ≤ cost c
  kept_whole j h c m s =
      let us : List ℕ = at_state table i work in
      let size = length-at_state in
      let enough = ix.enough in
      elim (ℕ_discrete j i) [
        | yes same ↦
            let of_state : Within c (events_between table from next) = λ e n. subst (Memᴰ e)
            (ap (λ (x : ℕ). events_between table (first_of work x) (first_of work (x + 1))) same) (m e n) in
            let at_hand_lem : Within c (at_hand table us) = λ e n. subst (Memᴰ e) (sym at_hand_between) (chain_fit c of_state s e n) in
            let all : steps c ≡ bits_at us = s ∙ sym bits_at_state in
            let least = least_whole joins_at_state c at_hand_lem (omega arith) in
            subst (λ (x : ℕ). x ≤ cost c) (sym (ap (whole_at (whole_kept i us)) same ∙ whole_same us i inside (omega arith) ∙ ap (fill_at us) (sym all))) least
        | no apart ↦ subst (λ (x : ℕ). x ≤ cost c) (sym (whole_other us i inside j apart ∙ whole_at_state j h)) (ix.wholes j h c m s)
      ]

  indexed_kept : Indexed table (whole_kept i (at_state table i work))
  indexed_kept =
      let us : List ℕ = at_state table i work in
      indexed_as (whole_kept i us) (length_kept us i inside ∙ length-at_state) (bits_kept us i inside ∙ bits_at_state)
      (λ j h. first_kept us i inside j h ∙ first-at_state j h)
      (λ k h. subst (λ (x : ℕ). x ≤ too_heavy) (sym (fill_kept us i inside k h)) (state_ready.small.fill_small k h)) kept_whole

  -- ---- a state that may be passed over

  module _ (w : ℕ) where
    after_either : (P : List ℕ → Type 0) → P work → P (whole_kept i (at_state table i work)) → P (after_state table w i work)
    unfolding after_state
    after_either P p q = by (ltb w (whole_at work i))
      where
        by : (b : Bool) → P (cond b work (whole_kept i (at_state table i work)))
        by true = p
        by false = q

    pub indexed_after_state : Indexed table (after_state table w i work)
    indexed_after_state = after_either (Indexed table) ix indexed_kept

    pub bits_after_state : bits_at (after_state table w i work) ≡ bits_at work
    bits_after_state =
        after_either (λ us. bits_at us ≡ bits_at work) refl (bits_kept (at_state table i work) i inside ∙ bits_at_state)

    pub first_after_state : (j : ℕ) → j ≤ state_count → first_of (after_state table w i work) j ≡ first_of work j
    first_after_state j h =
        after_either (λ us. first_of us j ≡ first_of work j) refl (first_kept (at_state table i work) i inside j h ∙ first-at_state j h)

    -- it has no word that is so light
    pub passed_none : w < whole_at work i → (first : ℕ) → found table (at_state table i work) (unbegun (bits_at work) first w) ≡ []
    unfolding found unbegun
    passed_none light first =
        let us : List ℕ = at_state table i work in
        let same = bits_at_state in
        joined_none (bits_at us) (at_hand table us) (some_step joins_at_state) (bits_at work) (bits_at work) 0 first w (omega arith) (λ c f.
        let costs = f.cost_is in
        let least = ix.wholes i inside c (λ e n. fit_are e (subst (Memᴰ e) at_hand_between (f.from e n))) f.steps_are in
        omega arith)
