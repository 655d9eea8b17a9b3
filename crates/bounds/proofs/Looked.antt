-- Which events are looked at: the next one stands after the one at hand and in the segment, and those between are not worth looking at.
-- Assumes nothing.
use Prim.Native.Nat.{ℕ, zero, suc, ◌+◌, ◌-◌, ◌≤◌, ◌<◌}
use native.Mathlib.Decide.{ℕ_discrete}
use native.Mathlib.Omega.{arith}
use mathlib.Core.Path.{◌≡◌, refl, sym, subst}
use mathlib.Core.Logic.{◌⊎◌, inl, inr}
use mathlib.Core.List.{List}
use lib.Dec.{leb, le→leb}
use lib.ListN.{get_or}
use Rattle.lists.proofs.Choices.{cond_true, cond_false}
use Rattle.events.specs.declared.Event.{Event}
use Rattle.events.specs.Events.{no_event}
use Rattle.bounds.specs.declared.Chain.{Chain}
use Rattle.code.specs.Model.Steps.{most_steps}
use Rattle.bounds.specs.Model.Places.{length_count}
use Rattle.bounds.specs.Model.Tables.{least_at, start_at, fill_at, next_in, next_length, beginning, following, Ready, Segment}
use Rattle.bounds.proofs.Cases.{leb_fails, beginning_full, beginning-found, following_full, following-next, following_longer}
use Rattle.bounds.proofs.Placed.{lt_or_ge}

-- the tables tell that no chain of `left` steps that weighs `budget` begins with an event of length l
abbrev pub Useless : List ℕ → ℕ → ℕ → ℕ → Type 0
Useless work left budget l = (left < l) ⊎ (budget < least_at work l + fill_at work (left - l))

module _ (table : List Event) (work : List ℕ) (from to : ℕ) (r : Ready table work from to) where
  module _ (left budget : ℕ) where
    taken : (n l : ℕ) → least_at work l + fill_at work (left - l) ≤ budget → next_in (suc n) work left budget l ≡ start_at work l
    unfolding next_in
    taken n l h =
        cond_true (leb (least_at work l + fill_at work (left - l)) budget) (start_at work l)
        (next_in n work left budget (l + 1)) (le→leb _ budget h)

    skipped : (n l : ℕ) → budget < least_at work l + fill_at work (left - l)
        → next_in (suc n) work left budget l ≡ next_in n work left budget (l + 1)
    unfolding next_in
    skipped n l h =
        cond_false (leb (least_at work l + fill_at work (left - l)) budget) (start_at work l)
        (next_in n work left budget (l + 1)) (leb_fails _ budget h)

    none : (l : ℕ) → next_in zero work left budget l ≡ to
    unfolding next_in
    none l = r.ends

    next_bounds : (n l low : ℕ) → l + n ≤ length_count → low ≤ start_at work l → low ≤ to
        → (low ≤ next_in n work left budget l) × (next_in n work left budget l ≤ to)
    next_bounds zero l low h a b = let e = none l in (omega arith, omega arith)
    next_bounds (suc n) l low h a b =
        elim (lt_or_ge budget (least_at work l + fill_at work (left - l))) [
          | inl over ↦
              let e = skipped n l over in
              let rise = r.starts_rise l (l + 1) (omega arith) (omega arith) in
              let rest = next_bounds n (l + 1) low (omega arith) (omega arith) b in
              (subst (λ (x : ℕ). low ≤ x) (sym e) rest.0, subst (λ (x : ℕ). x ≤ to) (sym e) rest.1)
          | inr fits ↦
              let e = taken n l fits in
              let rise = r.starts_rise l length_count (omega arith) (omega arith) in
              let last = r.starts_to in
              (omega arith, omega arith)
        ]

    -- an event of length m, l or above, that stands before the next one
    next_skips : (n l m x : ℕ) → left + 1 ≤ l + n → l ≤ m → m ≤ most_steps → start_at work m ≤ x
        → x < next_in n work left budget l → Useless work left budget m
    next_skips zero l m x h g most at before = inl (omega arith)
    next_skips (suc n) l m x h g most at before =
        elim (lt_or_ge budget (least_at work l + fill_at work (left - l))) [
          | inl over ↦ elim (ℕ_discrete m l) [
            | yes same ↦ inr (subst (λ (y : ℕ). budget < least_at work y + fill_at work (left - y)) (sym same) over)
            | no apart ↦ next_skips n (l + 1) m x (omega arith) (omega arith) most at
                (subst (λ (y : ℕ). x < y) (skipped n l over) before)
          ]
          | inr fits ↦ let e = taken n l fits in let rise = r.starts_rise l m g (omega arith) in absurd (omega arith)
        ]

    length_bounds : (l low : ℕ) → l ≤ length_count → left ≤ most_steps → low ≤ start_at work l → low ≤ to
        → (low ≤ next_length work left budget l) × (next_length work left budget l ≤ to)
    unfolding next_length
    length_bounds l low h g a b = next_bounds (left + 1 - l) l low (omega arith) a b

    length_skips : (l m x : ℕ) → l ≤ m → m ≤ most_steps → start_at work m ≤ x
        → x < next_length work left budget l → Useless work left budget m
    unfolding next_length
    length_skips l m x g most at before = next_skips (left + 1 - l) l m x (omega arith) g most at before

  from_to : from ≤ to
  from_to =
      let a = r.starts_from in
      let b = r.starts_rise 0 length_count (omega arith) (omega arith) in
      let c = r.starts_to in
      omega arith

  module _ (at room : ℕ) (begun : Chain) (short : begun.steps ≤ most_steps) where
    pub beginning_bounds : (from ≤ beginning work at room begun) × (beginning work at room begun ≤ to)
    beginning_bounds =
        elim (lt_or_ge room at) [
          | inl full ↦ let e = beginning_full work at room begun full in let f = r.ends in
              let g = from_to in (omega arith, omega arith)
          | inr open_room ↦
              let a = r.starts_from in
              let b = r.starts_rise 0 1 (omega arith) (omega arith) in
              let e = beginning-found work at room begun (next_length work begun.steps begun.budget 1) open_room refl in
              let f = length_bounds begun.steps begun.budget 1 from (omega arith) short (omega arith) from_to in
              (subst (λ (x : ℕ). from ≤ x) e f.0, subst (λ (x : ℕ). x ≤ to) e f.1)
        ]

    pub following_bounds : (k l : ℕ) → from ≤ k → k < to → l ≡ (get_or table k no_event).length → l ≤ most_steps
        → (k < following work at room begun l k) × (following work at room begun l k ≤ to)
    following_bounds k l h g is most =
        let placed : k < start_at work (l + 1) = subst (λ (x : ℕ). k < start_at work (x + 1)) (sym is) (r.placed k h g).1 in
        elim (lt_or_ge room at) [
          | inl full ↦ let e = following_full work at room begun l k full in let f = r.ends in (omega arith, omega arith)
          | inr open_room ↦ elim (lt_or_ge (k + 1) (start_at work (l + 1))) [
            | inl inside ↦
                let e = following-next work at room begun l k open_room inside in
                let rise = r.starts_rise (l + 1) length_count (omega arith) (omega arith) in
                let last = r.starts_to in
                (omega arith, omega arith)
            | inr passed ↦
                let e = following_longer work at room begun l k
                (next_length work begun.steps begun.budget (l + 1)) open_room passed refl in
                let f = length_bounds begun.steps begun.budget (l + 1) (k + 1)
                (omega arith) short (omega arith) (omega arith) in
                let lower : k + 1 ≤ following work at room begun l k = subst (λ (x : ℕ). k + 1 ≤ x) e f.0 in
                (omega arith, subst (λ (x : ℕ). x ≤ to) e f.1)
          ]
        ]

    module _ (seg : Segment table from to) (counted : at ≤ room) where
      -- no event before the first one is worth looking at
      pub beginning_skips : (x : ℕ) → from ≤ x → x < beginning work at room begun
          → Useless work begun.steps begun.budget (get_or table x no_event).length
      beginning_skips x h before =
          let last = beginning_bounds.1 in
          let inside : x < to = omega arith in
          let lengths = seg.lengths x h inside in
          let long : 1 ≤ (get_or table x no_event).length = lengths.0 in
          let few : (get_or table x no_event).length ≤ most_steps = lengths.1 in
          let e = beginning-found work at room begun (next_length work begun.steps begun.budget 1) counted refl in
          length_skips begun.steps begun.budget 1 (get_or table x no_event).length x long (omega arith)
          (r.placed x h inside).0 (subst (λ (y : ℕ). x < y) (sym e) before)

      -- nor any between that at k and the next one
      pub following_skips : (k l x : ℕ) → from ≤ k → k < to → l ≡ (get_or table k no_event).length
          → k < x → x < following work at room begun l k
          → Useless work begun.steps begun.budget (get_or table x no_event).length
      following_skips k l x h g is after before =
          let short-k : (get_or table k no_event).length ≤ most_steps = (seg.lengths k h g).1 in
          let last = (following_bounds k l h g is (omega arith)).1 in
          let inside : x < to = omega arith in
          let few : (get_or table x no_event).length ≤ most_steps = (seg.lengths x (omega arith) inside).1 in
          let placed = r.placed x (omega arith) inside in
          elim (lt_or_ge (k + 1) (start_at work (l + 1))) [
            | inl within ↦ let e = following-next work at room begun l k counted within in absurd (omega arith)
            | inr passed ↦
                let e = following_longer work at room begun l k
                (next_length work begun.steps begun.budget (l + 1)) counted passed refl in
                elim (lt_or_ge l (get_or table x no_event).length) [
                  | inl longer ↦
                      length_skips begun.steps begun.budget (l + 1) (get_or table x no_event).length x (omega arith)
                      (omega arith) placed.0 (subst (λ (y : ℕ). x < y) (sym e) before)
                  | inr not-longer ↦
                      let rise = r.starts_rise ((get_or table x no_event).length + 1) (l + 1) (omega arith) (omega arith) in
                      let upper : x < start_at work ((get_or table x no_event).length + 1) = placed.1 in
                      absurd (omega arith)
                ]
          ]
