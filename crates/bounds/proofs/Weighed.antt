-- What the events beside the zero loop weigh at least, once it is stored: the other tables stay as they were (`ready_weighed`), and where it is not 0 the first
-- event of the state is the zero loop, and no other weighs less (`weighs_least`).
-- Assumes nothing.
use Prim.Native.Nat.{ℕ, zero, suc, ◌+◌, ◌-◌, ◌≤◌, ◌<◌}
use native.Mathlib.Omega.{arith}
use mathlib.Core.Path.{◌≡◌, ◌∙◌}
use mathlib.Core.Logic.{inl}
use mathlib.Core.List.{List, [], ◌∷◌}
use lib.ListN.{length, get_or, set}
use lib.Seq.{get_or-set_same}
use Rattle.events.specs.declared.Event.{Event}
use Rattle.events.specs.Events.{no_event}
use Rattle.code.specs.Model.Steps.{most_steps}
use Rattle.bounds.specs.Model.Places.{length_count, state_count, light_place, area_size, firsts, leasts, starts, fills, bits_cell, end_cell, light_cell, wholes}
use Rattle.bounds.specs.Model.Tables.{first_of, least_at, start_at, fill_at, bits_at, end_at, light_at, whole_at, lightest, light_of, Small, Ready, Segment}
use Rattle.bounds.proofs.Regions.{Keeps, keeps_set, kept}
use Rattle.bounds.proofs.ZeroLoops.{ZeroLoop, lightest_le, light_means}

module _ (work : List ℕ) (x : ℕ) where
  abbrev after : List ℕ
  after = set work light_place x

  keeps : Keeps (light_cell ∷ []) work after
  keeps = keeps_set work light_place x (inl (omega arith, omega arith))

  pub length-weighed : length (set work light_place x) ≡ length work
  length-weighed = keeps.size

  pub bits_weighed : bits_at (set work light_place x) ≡ bits_at work
  bits_weighed = kept keeps bits_cell tt 0 (omega arith)

  pub end_weighed : end_at (set work light_place x) ≡ end_at work
  end_weighed = kept keeps end_cell tt 0 (omega arith)

  pub first-weighed : (i : ℕ) → i ≤ state_count → first_of (set work light_place x) i ≡ first_of work i
  first-weighed i h = kept keeps firsts tt i (omega arith)

  pub whole_weighed : (i : ℕ) → i < state_count → whole_at (set work light_place x) i ≡ whole_at work i
  whole_weighed i h = kept keeps wholes tt i h

  pub start_weighed : (l : ℕ) → l ≤ length_count → start_at (set work light_place x) l ≡ start_at work l
  start_weighed l h = kept keeps starts tt l (omega arith)

  least_weighed : (l : ℕ) → l ≤ most_steps → least_at after l ≡ least_at work l
  least_weighed l h = kept keeps leasts tt l (omega arith)

  fill_weighed : (k : ℕ) → k ≤ most_steps → fill_at after k ≡ fill_at work k
  fill_weighed k h = kept keeps fills tt k (omega arith)

  pub light_weighed : area_size ≤ length work → light_at (set work light_place x) ≡ x
  light_weighed h = get_or-set_same work light_place x 0 (omega arith)

  small_weighed : Small work → Small after
  small_weighed ok =
      let size = length-weighed in
      let bits = bits_weighed in
      record {
        enough = let e = ok.enough in omega arith;
        bits_small = let b = ok.bits_small in omega arith;
        least_small = λ l p. let e = least_weighed l p in let s = ok.least_small l p in omega arith;
        fill_small = λ k p. let e = fill_weighed k p in let s = ok.fill_small k p in omega arith;
      }

  pub ready_weighed : (table : List Event) (from to : ℕ) → Segment table from to → Ready table work from to
      → Ready table (set work light_place x) from to
  ready_weighed table from to seg r =
      let bits = bits_weighed in
      let few = r.small.bits_small in
      record {
        small = small_weighed r.small;
        some_bits = let s = r.some_bits in omega arith;
        ends = end_weighed ∙ r.ends;
        starts_rise = λ l l' h g. let a = start_weighed l (omega arith) in let b = start_weighed l' g in let c = r.starts_rise l l' h g in omega arith;
        starts_from = let a = start_weighed 0 (omega arith) in let c = r.starts_from in omega arith;
        starts_to = let a = start_weighed length_count (omega arith) in let c = r.starts_to in omega arith;
        placed = λ k h g.
            let l : ℕ = (get_or table k no_event).length in
            let short : l ≤ most_steps = (seg.lengths k h g).1 in
            let a = start_weighed l (omega arith) in
            let b = start_weighed (l + 1) (omega arith) in
            let c = r.placed k h g in
            (omega (arith, c.0), omega (arith, c.1));
        least_weighs = λ k h g.
            let l : ℕ = (get_or table k no_event).length in
            let short : l ≤ most_steps = (seg.lengths k h g).1 in
            let a = least_weighed l short in
            let c = r.least_weighs k h g in
            omega arith;
        fill_zero = fill_weighed 0 (omega arith) ∙ r.fill_zero;
        fill_step = λ k l p q h.
            let a = fill_weighed k (omega arith) in
            let b = least_weighed l (omega arith) in
            let c = fill_weighed (k - l) (omega arith) in
            let d = r.fill_step k l p q (omega arith) in
            omega arith;
      }

-- what it says of the events of the state
module _ (table : List Event) (work : List ℕ) (from to : ℕ) (r : Ready table work from to) (seg : Segment table from to) where
  abbrev e : Event
  e = get_or table from no_event

  pub first_loop : 1 ≤ light_of work e from → ZeroLoop e
  first_loop h = (light_means work e from h).0

  pub weighs_least : 1 ≤ light_of work e from → (k : ℕ) → from < k → k < to → light_of work e from ≤ (get_or table k no_event).weight
  weighs_least h k g below =
      let means = (light_means work e from h).1 in
      let one : start_at work 2 ≡ from + 1 = means.0 in
      let light : light_of work e from ≡ lightest work (length_count - 2) = means.1 in
      let l : ℕ = (get_or table k no_event).length in
      let lengths = seg.lengths k (omega arith) below in
      let some : 1 ≤ l = lengths.0 in
      let few : l ≤ most_steps = lengths.1 in
      let upper : k < start_at work (l + 1) = (r.placed k (omega arith) below).1 in
      let longer : 2 ≤ l = two l k some upper one g in
      let least = lightest_le work (length_count - 2) l longer (omega arith) in
      let weighs = r.least_weighs k (omega arith) below in
      omega arith
    where
      two : (l k : ℕ) → 1 ≤ l → k < start_at work (l + 1) → start_at work 2 ≡ from + 1 → from < k → 2 ≤ l
      two zero k some upper one g = absurd (omega arith)
      two (suc zero) k some upper one g = absurd (omega arith)
      two (suc (suc l)) k some upper one g = omega arith
