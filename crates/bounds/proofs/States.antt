-- The index of states: after one survey of the whole table each event stands at or after its state's place and before the next state's.
-- Assumes nothing.
use Prim.Native.Nat.{ℕ, ◌+◌, ◌≤◌, ◌<◌}
use native.Mathlib.Omega.{arith}
use mathlib.Core.Path.{◌≡◌, ◌∙◌, subst}
use mathlib.Core.Logic.{inl, inr, ⊎_elim}
use mathlib.Core.List.{List}
use lib.ListN.{length, get_or, replicate, length-replicate, get_or-replicate}
use lib.Seq.{get_or-set_other, get_or-set_same}
use Rattle.events.specs.declared.Event.{Event}
use Rattle.events.specs.Events.{no_event}
use Rattle.code.specs.Model.Steps.{most_steps}
use Rattle.bounds.specs.Model.Places.{state_count, first_place, state_end_place, fill_place, whole_place, bits_place, area_size, state_ends, fills, wholes}
use Rattle.bounds.specs.Model.Tables.{first_of, fill_at, bits_at, whole_at, surveyed, carried, indexed}
use Rattle.bounds.proofs.Regions.{kept}
use Rattle.bounds.proofs.Kept.{Noteworthy, surveyed_keeps, carried_keeps, indexed_keeps}
use Rattle.bounds.proofs.Survey.{LastOf, state_key, survey_last, survey_after}
use Rattle.bounds.proofs.Carried.{highest, carried_at, highest_rises}
use Rattle.bounds.proofs.Placed.{lt_or_ge, Marks, place_at, place_after, places_end}

module _ (bits : ℕ) (work : List ℕ) (room : area_size ≤ length work) where
  abbrev places : List ℕ
  places = carried state_end_place first_place state_count 0 work

  pub indexed-first : (i : ℕ) → i ≤ state_count → first_of (indexed bits work) i ≡ highest work state_end_place 0 i
  unfolding indexed
  indexed-first i h =
      get_or-set_other places bits_place (first_place + i) bits 0 (λ e. absurd (omega arith))
      ∙ carried_at state_end_place first_place state_count 0 work i h (omega arith) (inl (omega arith))

  pub indexed_bits : bits_at (indexed bits work) ≡ bits
  unfolding indexed
  indexed_bits =
      let size = (carried_keeps state_end_place first_place state_count 0 work).size in
      get_or-set_same places bits_place bits 0 (omega arith)

module _ (table : List Event) (count bits size : ℕ) (room : area_size ≤ size) (ok : Noteworthy table count 0)
    (ordered : (k k' : ℕ) → k < k' → k' < count → (get_or table k no_event).state ≤ (get_or table k' no_event).state) where
  survey : List ℕ
  survey = surveyed table count 0 (replicate size 0)

  blank : area_size ≤ length {A = ℕ} (replicate size 0)
  blank = let e = length-replicate {A = ℕ} size 0 in omega arith

  survey_room : area_size ≤ length survey
  unfolding survey
  survey_room = let e = (surveyed_keeps table count 0 (replicate size 0) ok).size in let b = blank in omega arith

  all : 0 + count ≡ count
  all = omega arith

  states_marks : Marks table (λ e. e.state) state_ends 0 count survey
  unfolding survey
  states_marks = record {
    after = λ k h g. survey_after state_ends (λ e. e.state) state_key table count 0 (replicate size 0) k blank ok h (omega arith);
    only = λ i h. ⊎_elim
        (λ (q : get_or survey (state_end_place + i) 0 ≡ get_or (replicate size 0) (state_end_place + i) 0). inl
        (q ∙ get_or-replicate size (state_end_place + i) 0 0 (omega arith)))
        (λ (l : LastOf table (λ e. e.state) 0 (0 + count) i (get_or survey (state_end_place + i) 0)).
        inr (subst (λ (x : ℕ). LastOf table (λ e. e.state) 0 x i (get_or survey (state_end_place + i) 0)) all l))
        (survey_last state_ends (λ e. e.state) state_key table count 0 (replicate size 0) i blank ok h);
    below = λ k h g. (ok k h (omega arith)).state_small;
    ordered = λ k k' h g l. ordered k k' g l;
  }

  first : (i : ℕ) → i ≤ state_count
      → first_of (indexed bits (surveyed table count 0 (replicate size 0))) i ≡ highest survey state_end_place 0 i
  unfolding survey
  first i h = indexed-first bits survey survey_room i h

  -- event k stands among those of its state
  pub states_indexed : (k : ℕ) → k < count
      → (first_of (indexed bits (surveyed table count 0 (replicate size 0))) (get_or table k no_event).state ≤ k)
      × (k < first_of (indexed bits (surveyed table count 0 (replicate size 0))) ((get_or table k no_event).state + 1))
  states_indexed k h =
      let s : (get_or table k no_event).state < state_count = (ok k (omega arith) (omega arith)).state_small in
      let a = first (get_or table k no_event).state (omega arith) in
      let b = first ((get_or table k no_event).state + 1) (omega arith) in
      let c = place_at table (λ e. e.state) state_ends 0 count survey states_marks k (omega arith) h in
      let d = place_after table (λ e. e.state) state_ends 0 count survey states_marks k (omega arith) h in
      (omega arith, omega arith)

  pub first_of_rises : (i j : ℕ) → i ≤ j → j ≤ state_count
      → first_of (indexed bits (surveyed table count 0 (replicate size 0))) i ≤ first_of
      (indexed bits (surveyed table count 0 (replicate size 0))) j
  first_of_rises i j h g =
      let a = first i (omega arith) in
      let b = first j g in
      let c = highest_rises survey state_end_place 0 i j h in
      omega arith

  pub first_of_last : (i : ℕ) → i ≤ state_count → first_of (indexed bits (surveyed table count 0 (replicate size 0))) i ≤ count
  first_of_last i h =
      let a = first i h in
      let b = places_end table (λ e. e.state) state_ends 0 count survey states_marks i h (omega arith) in
      omega arith

  -- and what stands among those of state s is of state s
  pub states_between : (k s : ℕ) → s < state_count → first_of (indexed bits (surveyed table count 0 (replicate size 0))) s ≤ k
      → k < first_of (indexed bits (surveyed table count 0 (replicate size 0))) (s + 1) → (get_or table k no_event).state ≡ s
  states_between k s h low high =
      let last = first_of_last (s + 1) (omega arith) in
      let own : (get_or table k no_event).state < state_count = (ok k (omega arith) (omega arith)).state_small in
      let at = states_indexed k (omega arith) in
      let low' = at.0 in
      let high' = at.1 in
      elim (lt_or_ge (get_or table k no_event).state s) [
        | inl less ↦ let a = first_of_rises ((get_or table k no_event).state + 1) s (omega arith) (omega arith) in absurd (omega arith)
        | inr more ↦ elim (lt_or_ge s (get_or table k no_event).state) [
          | inl greater ↦ let a = first_of_rises (s + 1) (get_or table k no_event).state
              (omega arith) (omega arith) in absurd (omega arith)
          | inr same ↦ omega arith
        ]
      ]

  pub states_bits : bits_at (indexed bits (surveyed table count 0 (replicate size 0))) ≡ bits
  unfolding survey
  states_bits = indexed_bits bits survey survey_room

  pub states_whole : (i : ℕ) → i < state_count → whole_at (indexed bits (surveyed table count 0 (replicate size 0))) i ≡ 0
  unfolding survey
  states_whole i h =
      kept (indexed_keeps bits survey) wholes tt i h ∙ kept (surveyed_keeps table count 0 (replicate size 0) ok) wholes tt i h
      ∙ get_or-replicate size (whole_place + i) 0 0 (omega arith)

  -- no chain is weighed yet
  pub states_fill : (k : ℕ) → k ≤ most_steps → fill_at (indexed bits (surveyed table count 0 (replicate size 0))) k ≡ 0
  unfolding survey
  states_fill k h =
      kept (indexed_keeps bits survey) fills tt k (omega arith)
      ∙ kept (surveyed_keeps table count 0 (replicate size 0) ok) fills tt k (omega arith)
      ∙ get_or-replicate size (fill_place + k) 0 0 (omega arith)
