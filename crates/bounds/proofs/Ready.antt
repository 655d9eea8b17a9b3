-- The tables of a state keep what `Ready` promises, once the state's events are noted and the tables closed.
-- Assumes nothing.
use Prim.Native.Nat.{ℕ, ◌+◌, ◌-◌, ◌≤◌}
use native.Mathlib.Omega.{arith}
use mathlib.Core.Path.{◌≡◌, ◌∙◌, subst}
use mathlib.Core.Logic.{inl, inr, ⊎_elim}
use mathlib.Core.List.{List}
use lib.ListN.{length, get_or}
use Rattle.events.specs.declared.Event.{Event}
use Rattle.events.specs.Events.{no_event}
use Rattle.code.specs.Model.Steps.{most_steps}
use Rattle.bounds.specs.Model.Places.{length_count, too_heavy, length_end_place, start_place, area_size, leasts, length_ends, starts, bits_cell, end_cell}
use Rattle.bounds.specs.Model.Tables.{least_at, start_at, fill_at, bits_at, surveyed, opened, carried, closed, Small, Ready, Segment}
use Rattle.bounds.proofs.Regions.{kept}
use Rattle.bounds.proofs.Kept.{Noteworthy, opened_keeps, surveyed_keeps, lengths_keeps, filled_keeps, closed_keeps, small_closed, bits_at_survives}
use Rattle.bounds.proofs.Survey.{LastOf, length_key, survey_last, survey_after, survey_weighs, opened_ends, opened_end, small_opened}
use Rattle.bounds.proofs.Carried.{highest, carried_at, highest_from, highest_rises, filled_zero, filled_step}
use Rattle.bounds.proofs.Placed.{Marks, place_at, place_after, places_end}

-- the events of a segment can be noted
pub segment_noteworthy : (table : List Event) (from to : ℕ) → from ≤ to → Segment table from to → Noteworthy table (to - from) from
segment_noteworthy table from to le seg j h g =
    let l = (seg.lengths j h (omega arith)).1 in
    record { state_small = seg.states j h (omega arith); length_small = omega arith }

-- where the tables of places and of least weights are read, once closed
module _ (from : ℕ) (work : List ℕ) (small : Small work) where
  abbrev places : List ℕ
  places = carried length_end_place start_place length_count from work

  bits_carried : bits_at places ≡ bits_at work
  bits_carried = kept (lengths_keeps from work) bits_cell tt 0 (omega arith)

  pub closed_start : (l : ℕ) → l ≤ length_count → start_at (closed from work) l ≡ highest work length_end_place from l
  unfolding closed
  closed_start l h =
      let few = small.bits_small in
      let same = bits_carried in
      let enough = small.enough in
      kept (filled_keeps places (omega arith)) starts tt l (omega arith)
      ∙ carried_at length_end_place start_place length_count from work l h (omega arith) (inr (omega arith))

  pub closed_zero : fill_at (closed from work) 0 ≡ 0
  unfolding closed
  closed_zero = let size = (lengths_keeps from work).size in let enough = small.enough in filled_zero places (omega arith)

  pub closed_step : (k l : ℕ) → 1 ≤ l → l ≤ k → k ≤ bits_at work
      → fill_at (closed from work) k ≤ least_at (closed from work) l + fill_at (closed from work) (k - l)
  unfolding closed
  closed_step k l p q h =
      let size = (lengths_keeps from work).size in
      let enough = small.enough in
      let same = bits_carried in
      let few = small.bits_small in
      filled_step places k l (omega arith) (omega arith) p q (omega arith)

module _ (table : List Event) (from to : ℕ) (work : List ℕ) (seg : Segment table from to)
    (some : 1 ≤ bits_at work) (most : bits_at work ≤ most_steps)
    (le : from ≤ to) (room : area_size ≤ length work) (fill : (k : ℕ) → k ≤ most_steps → fill_at work k ≤ too_heavy) where
  noteworthy : Noteworthy table (to - from) from
  noteworthy = segment_noteworthy table from to le seg

  surveyed_state : List ℕ
  surveyed_state = surveyed table (to - from) from (opened to work)

  all : from + (to - from) ≡ to
  all = omega arith

  size : area_size ≤ length (opened to work)
  size = let s = (opened_keeps to work).size in omega arith

  pub segment_small : Small (surveyed table (to - from) from (opened to work))
  segment_small = small_opened table (to - from) from to work noteworthy room (omega arith) fill

  segment_marks : Marks table (λ e. e.length) length_ends from to surveyed_state
  unfolding surveyed_state
  segment_marks = record {
    after = λ k h g. survey_after length_ends (λ e. e.length) length_key table (to - from) from
        (opened to work) k size noteworthy h (let e = all in omega arith);
    only = λ i h. ⊎_elim
        (λ (q : get_or surveyed_state (length_end_place + i) 0 ≡ get_or (opened to work) (length_end_place + i) 0). inl
        (q ∙ opened_ends to work room i (omega arith)))
        (λ (l : LastOf table (λ e. e.length) from (from + (to - from)) i (get_or surveyed_state (length_end_place + i) 0)).
        inr (subst (λ (x : ℕ). LastOf table (λ e. e.length) from x i (get_or surveyed_state (length_end_place + i) 0)) all l))
        (survey_last length_ends (λ e. e.length) length_key table (to - from) from (opened to work) i size noteworthy h);
    below = λ k h g. let l = (seg.lengths k h g).1 in omega arith;
    ordered = seg.ordered;
  }

  pub ready : Ready table (closed from (surveyed table (to - from) from (opened to work))) from to
  unfolding surveyed_state
  ready =
      let survey : List ℕ = surveyed table (to - from) from (opened to work) in
      let small : Small survey = segment_small in
      let bits_small : bits_at survey ≤ most_steps = small.bits_small in
      let bits : bits_at (closed from survey) ≡ bits_at work =
      bits_at_survives table (to - from) from from to work noteworthy (omega arith) in
      let closing = closed_keeps from survey bits_small in
      let same_bits : bits_at (closed from survey) ≡ bits_at survey = kept closing bits_cell tt 0 (omega arith) in
      let start : (l : ℕ) → l ≤ length_count → start_at (closed from survey) l ≡ highest survey length_end_place from l =
      closed_start from survey small in
      record {
        small = small_closed from survey small;
        some_bits = omega arith;
        ends =
            kept closing end_cell tt 0 (omega arith)
            ∙ kept (surveyed_keeps table (to - from) from (opened to work) noteworthy) end_cell tt 0 (omega arith)
            ∙ opened_end to work room;
        starts_rise = λ l l' h g. let a = start l (omega arith) in let b = start l' g in
            let c = highest_rises survey length_end_place from l l' h in omega arith;
        starts_from = let a = start 0 (omega arith) in let b = highest_from survey length_end_place from 0 in omega arith;
        starts_to = let a = start length_count (omega arith) in
            let b = places_end table (λ e. e.length) length_ends from to survey segment_marks length_count (omega arith) le in
            omega arith;
        placed = λ k h g.
            let l : ℕ = (get_or table k no_event).length in
            let short : l ≤ most_steps = (seg.lengths k h g).1 in
            let a = start l (omega arith) in
            let b = start (l + 1) (omega arith) in
            let c = place_at table (λ e. e.length) length_ends from to survey segment_marks k h g in
            let d = place_after table (λ e. e.length) length_ends from to survey segment_marks k h g in
            (omega arith, omega arith);
        least_weighs = λ k h g.
            let l : ℕ = (get_or table k no_event).length in
            let short : l ≤ most_steps = (seg.lengths k h g).1 in
            let same : least_at (closed from survey) l ≡ least_at survey l = kept closing leasts tt l (omega arith) in
            let e = all in
            let w = survey_weighs table (to - from) from (opened to work) k size noteworthy h (omega arith) in
            omega arith;
        fill_zero = closed_zero from survey small;
        fill_step = λ k l p q h. closed_step from survey small k l p q (omega arith);
      }
