-- What the notes say: the number under a state or a length is the place after the last event of it, no noted event is lighter than the least weight
-- of its length, and sums stay small.
-- Assumes nothing.
use Prim.Native.Nat.{ℕ, zero, suc, ◌+◌, ◌≤◌, ◌<◌, min}
use native.Mathlib.Decide.{ℕ_discrete}
use native.Mathlib.Omega.{arith}
use mathlib.Core.Path.{◌≡◌, refl, sym, ap, ◌∙◌, subst}
use mathlib.Core.Logic.{◌⊎◌, inl, inr, ⊎_elim, ◌≢◌}
use mathlib.Core.List.{List, [], ◌∷◌}
use lib.ListN.{length, get_or, set, length-set}
use lib.Seq.{get_or-set_other, get_or-set_same}
use Rattle.events.specs.declared.Event.{Event}
use Rattle.events.specs.Events.{no_event}
use Rattle.code.specs.Model.Steps.{most_steps}
use Rattle.bounds.specs.Model.Places.{length_count, too_heavy, state_end_place, least_place, length_end_place, end_place, area_size, Region, state_ends, leasts, length_ends, fills, bits_cell, end_cell}
use Rattle.bounds.specs.Model.Tables.{least_at, fill_at, bits_at, end_at, noted, surveyed, reset_from, opened, Fits, Small}
use Rattle.bounds.proofs.Regions.{Keeps, keeps_set, kept}
use Rattle.bounds.proofs.Kept.{Noteworthy, later_noteworthy, set_le, noted_keeps, surveyed_keeps, opened_keeps, reset_from_keeps}

-- ---- one event

module _ (work : List ℕ) (e : Event) (after : ℕ) (fit : Fits e) (room : area_size ≤ length work) where
  abbrev first : List ℕ
  first = set work (state_end_place + e.state) after

  abbrev placed : List ℕ
  placed = set first (length_end_place + e.length) after

  abbrev weighed : List ℕ
  weighed = set placed (least_place + e.length) (min e.weight (least_at placed e.length))

  -- what each of the three stores keeps
  first_keeps : Keeps (state_ends ∷ []) work first
  first_keeps =
      let h : e.state < state_ends.size =
      fit.state_small in keeps_set work (state_end_place + e.state) after (inl (omega arith, omega arith))

  second_keeps : Keeps (length_ends ∷ []) first placed
  second_keeps =
      let h : e.length ≤ most_steps =
      fit.length_small in keeps_set first (length_end_place + e.length) after (inl (omega arith, omega arith))

  third_keeps : Keeps (leasts ∷ []) placed weighed
  third_keeps =
      let h : e.length ≤ most_steps =
      fit.length_small in keeps_set placed (least_place + e.length) _ (inl (omega arith, omega arith))

  pub noted_state : get_or (noted work e after) (state_end_place + e.state) 0 ≡ after
  unfolding noted
  noted_state =
      let s : e.state < state_ends.size = fit.state_small in
      kept third_keeps state_ends tt e.state s ∙ kept second_keeps state_ends tt e.state s
      ∙ get_or-set_same work (state_end_place + e.state) after 0 (omega arith)

  pub noted_other_state : (i : ℕ) → i < state_ends.size → i ≢ e.state
      → get_or (noted work e after) (state_end_place + i) 0 ≡ get_or work (state_end_place + i) 0
  unfolding noted
  noted_other_state i h n =
      kept third_keeps state_ends tt i h ∙ kept second_keeps state_ends tt i h ∙ get_or-set_other work (state_end_place + e.state)
      (state_end_place + i) after 0 (λ q. n (omega arith))

  pub noted-length : get_or (noted work e after) (length_end_place + e.length) 0 ≡ after
  unfolding noted
  noted-length =
      let l : e.length ≤ most_steps = fit.length_small in
      let size = first_keeps.size in
      kept third_keeps length_ends tt e.length (omega arith)
      ∙ get_or-set_same first (length_end_place + e.length) after 0 (omega arith)

  pub noted_other_length : (i : ℕ) → i < length_ends.size → i ≢ e.length
      → get_or (noted work e after) (length_end_place + i) 0 ≡ get_or work (length_end_place + i) 0
  unfolding noted
  noted_other_length i h n =
      kept third_keeps length_ends tt i h ∙ get_or-set_other first (length_end_place + e.length)
      (length_end_place + i) after 0 (λ q. n (omega arith))
      ∙ kept first_keeps length_ends tt i h

  placed_least : (i : ℕ) → i ≤ most_steps → least_at placed i ≡ least_at work i
  placed_least i h = kept second_keeps leasts tt i (omega arith) ∙ kept first_keeps leasts tt i (omega arith)

  -- a smaller number stored leaves no number larger
  set-min : (l : List ℕ) (i j x : ℕ) → get_or (set l i (min x (get_or l i 0))) j 0 ≤ get_or l j 0
  set-min [] i j x = omega arith
  set-min (y ∷ l) zero zero x = omega arith
  set-min (y ∷ l) zero (suc j) x = omega arith
  set-min (y ∷ l) (suc i) zero x = omega arith
  set-min (y ∷ l) (suc i) (suc j) x = set-min l i j x

  pub noted_falls : (i : ℕ) → i ≤ most_steps → least_at (noted work e after) i ≤ least_at work i
  unfolding noted
  noted_falls i h =
      let same = placed_least i h in
      let falls : least_at weighed i ≤ least_at placed i = set-min placed (least_place + e.length) (least_place + i) e.weight in
      omega arith

  pub noted_weighs : least_at (noted work e after) e.length ≤ e.weight
  unfolding noted
  noted_weighs =
      let l : e.length ≤ most_steps = fit.length_small in
      let size : length placed ≡ length work = second_keeps.size ∙ first_keeps.size in
      let is : least_at weighed e.length ≡ min e.weight (least_at placed e.length) =
      get_or-set_same placed (least_place + e.length) _ 0 (omega arith) in
      omega arith

-- ---- many events, under a key that is noted in region r: their states or their lengths

pub record Key (r : Region) (key : Event → ℕ) : Type 0 where
  pub below : (e : Event) → Fits e → key e < r.size
  pub same : (work : List ℕ) (e : Event) (after : ℕ) → Fits e → area_size ≤ length work
      → get_or (noted work e after) (r.start + key e) 0 ≡ after
  pub other : (work : List ℕ) (e : Event) (after : ℕ) → Fits e → area_size ≤ length work → (i : ℕ) → i < r.size → i ≢ key e
      → get_or (noted work e after) (r.start + i) 0 ≡ get_or work (r.start + i) 0

pub state_key : Key state_ends (λ e. e.state)
state_key = record { below = λ e fit. fit.state_small; same = noted_state; other = noted_other_state }

pub length_key : Key length_ends (λ e. e.length)
length_key =
    record {
      below = λ e fit. let h : e.length ≤ most_steps = fit.length_small in
          omega arith;
      same = noted-length;
      other = noted_other_length;
    }

-- an event of the key i whose next place is x
pub record LastOf (table : List Event) (key : Event → ℕ) (from to i x : ℕ) : Type 0 where
  pub place : ℕ
  pub not_before : from ≤ place
  pub before : place < to
  pub key_is : key (get_or table place no_event) ≡ i
  pub next : x ≡ place + 1

module _ (r : Region) (key : Event → ℕ) (laws : Key r key) (table : List Event) where
  -- a number is as it was, or the place after an event of its key
  pub survey_last : (n k : ℕ) (work : List ℕ) (i : ℕ) → area_size ≤ length work → Noteworthy table n k → i < r.size
      → (get_or (surveyed table n k work) (r.start + i) 0 ≡ get_or work (r.start + i) 0) ⊎ LastOf table key k (k + n) i
      (get_or (surveyed table n k work) (r.start + i) 0)
  unfolding surveyed
  survey_last zero k work i room ok h = inl refl
  survey_last (suc n) k work i room ok h =
      let e : Event = get_or table k no_event in
      let fit : Fits e = ok k (omega arith) (omega arith) in
      let next : List ℕ = noted work e (k + 1) in
      let size : length next ≡ length work = (noted_keeps work e (k + 1) fit).size in
      let value : ℕ = get_or (surveyed table n (k + 1) next) (r.start + i) 0 in
      let later : (value ≡ get_or next (r.start + i) 0) ⊎ LastOf table key (k + 1) (k + 1 + n) i value =
      survey_last n (k + 1) next i (omega arith) (later_noteworthy table n k ok) h in
      ⊎_elim
      (λ (q : value ≡ get_or next (r.start + i) 0). elim (ℕ_discrete i (key e)) [
        | yes is ↦ inr (record {
          place = k;
          not_before = omega arith;
          before = omega arith;
          key_is = sym is;
          next = q ∙ ap (λ (x : ℕ). get_or next (r.start + x) 0) is ∙ laws.same work e (k + 1) fit room;
        })
        | no apart ↦ inl (q ∙ laws.other work e (k + 1) fit room i h apart)
      ])
      (λ (l : LastOf table key (k + 1) (k + 1 + n) i value).
      let a = l.not_before in
      let b = l.before in
      inr (record { place = l.place; not_before = omega arith; before = omega arith; key_is = l.key_is; next = l.next }))
      later

  -- a noted event stands before the number of its key
  pub survey_after : (n k : ℕ) (work : List ℕ) (j : ℕ) → area_size ≤ length work → Noteworthy table n k → k ≤ j → j < k + n
      → j < get_or (surveyed table n k work) (r.start + key (get_or table j no_event)) 0
  unfolding surveyed
  survey_after zero k work j room ok h g = absurd (omega arith)
  survey_after (suc n) k work j room ok h g =
      let e : Event = get_or table k no_event in
      let fit : Fits e = ok k (omega arith) (omega arith) in
      let next : List ℕ = noted work e (k + 1) in
      let size : length next ≡ length work = (noted_keeps work e (k + 1) fit).size in
      let value : ℕ = get_or (surveyed table n (k + 1) next) (r.start + key e) 0 in
      elim (ℕ_discrete j k) [
        | yes is ↦
            let reached : k < value = ⊎_elim
            (λ (q : value ≡ get_or next (r.start + key e) 0). let s = laws.same work e (k + 1) fit room in omega arith)
            (λ (l : LastOf table key (k + 1) (k + 1 + n) (key e) value). let a = l.not_before in let b = l.next in omega arith)
            (survey_last n (k + 1) next (key e) (omega arith) (later_noteworthy table n k ok) (laws.below e fit)) in
            subst (λ (x : ℕ). x < get_or (surveyed table n (k + 1) next) (r.start + key (get_or table x no_event)) 0) (sym is) reached
        | no apart ↦ survey_after n (k + 1) next j (omega arith) (later_noteworthy table n k ok) (omega arith) (omega arith)
      ]

-- ---- least weights

pub survey_falls : (table : List Event) (n k : ℕ) (work : List ℕ) (i : ℕ)
    → area_size ≤ length work → Noteworthy table n k → i ≤ most_steps
    → least_at (surveyed table n k work) i ≤ least_at work i
unfolding surveyed
survey_falls table zero k work i room ok h = omega arith
survey_falls table (suc n) k work i room ok h =
    let e : Event = get_or table k no_event in
    let fit : Fits e = ok k (omega arith) (omega arith) in
    let next : List ℕ = noted work e (k + 1) in
    let size : length next ≡ length work = (noted_keeps work e (k + 1) fit).size in
    let first = noted_falls work e (k + 1) fit room i h in
    let rest = survey_falls table n (k + 1) next i (omega arith) (later_noteworthy table n k ok) h in
    omega arith

pub survey_weighs : (table : List Event) (n k : ℕ) (work : List ℕ) (j : ℕ) → area_size ≤ length work
    → Noteworthy table n k → k ≤ j → j < k + n
    → least_at (surveyed table n k work) (get_or table j no_event).length ≤ (get_or table j no_event).weight
unfolding surveyed
survey_weighs table zero k work j room ok h g = absurd (omega arith)
survey_weighs table (suc n) k work j room ok h g =
    let e : Event = get_or table k no_event in
    let fit : Fits e = ok k (omega arith) (omega arith) in
    let next : List ℕ = noted work e (k + 1) in
    let size : length next ≡ length work = (noted_keeps work e (k + 1) fit).size in
    elim (ℕ_discrete j k) [
      | yes is ↦
          let first = noted_weighs work e (k + 1) fit room in
          let rest = survey_falls table n (k + 1) next e.length (omega arith)
          (later_noteworthy table n k ok) fit.length_small in
          let both : least_at (surveyed table n (k + 1) next) e.length ≤ e.weight = omega arith in
          subst (λ (x : ℕ). least_at (surveyed table n (k + 1) next) (get_or table x no_event).length ≤ (get_or table x no_event).weight)
          (sym is) both
      | no apart ↦ survey_weighs table n (k + 1) next j (omega arith) (later_noteworthy table n k ok) (omega arith) (omega arith)
    ]

-- ---- before the first note of a state

reset_le : (n l : ℕ) (work : List ℕ) (i : ℕ) → get_or work i 0 ≤ too_heavy → get_or (reset_from n l work) i 0 ≤ too_heavy
unfolding reset_from
reset_le zero l work i h = h
reset_le (suc n) l work i h =
    reset_le n (l + 1) (set (set work (least_place + l) too_heavy) (length_end_place + l) 0) i
    (set_le (set work (least_place + l) too_heavy) (length_end_place + l) i 0 too_heavy (omega arith)
    (set_le work (least_place + l) i too_heavy too_heavy (omega arith) h))

reset_least : (n l : ℕ) (work : List ℕ) (j : ℕ) → area_size ≤ length work → l + n ≤ length_count → l ≤ j → j < l + n
    → least_at (reset_from n l work) j ≤ too_heavy
unfolding reset_from
reset_least zero l work j room most h g = absurd (omega arith)
reset_least (suc n) l work j room most h g =
    let first : List ℕ = set work (least_place + l) too_heavy in
    let size : length (set first (length_end_place + l) 0) ≡ length work = length-set first (length_end_place + l) 0
    ∙ length-set work (least_place + l) too_heavy in
    elim (ℕ_discrete j l) [
      | yes is ↦
          let stored : get_or first (least_place + j) 0 ≡ too_heavy = ap (λ (x : ℕ). get_or first (least_place + x) 0) is
          ∙ get_or-set_same work (least_place + l) too_heavy 0 (omega arith) in
          reset_le n (l + 1) (set first (length_end_place + l) 0) (least_place + j)
          (set_le first (length_end_place + l) (least_place + j) 0 too_heavy (omega arith) (omega arith))
      | no apart ↦ reset_least n (l + 1) (set first (length_end_place + l) 0) j (omega arith)
          (omega arith) (omega arith) (omega arith)
    ]

reset_stays : (n l : ℕ) (work : List ℕ) (j : ℕ) → l + n ≤ length_count → get_or work (length_end_place + j) 0 ≤ 0
    → get_or (reset_from n l work) (length_end_place + j) 0 ≤ 0
unfolding reset_from
reset_stays zero l work j most h = h
reset_stays (suc n) l work j most h =
    let kept : get_or (set work (least_place + l) too_heavy) (length_end_place + j) 0 ≡ get_or work (length_end_place + j) 0 =
    get_or-set_other work (least_place + l) (length_end_place + j) too_heavy 0 (λ q. absurd (omega arith)) in
    reset_stays n (l + 1) (set (set work (least_place + l) too_heavy) (length_end_place + l) 0) j (omega arith)
    (set_le (set work (least_place + l) too_heavy) (length_end_place + l) (length_end_place + j) 0 0 (omega arith) (omega arith))

reset_ends : (n l : ℕ) (work : List ℕ) (j : ℕ) → area_size ≤ length work → l + n ≤ length_count → l ≤ j → j < l + n
    → get_or (reset_from n l work) (length_end_place + j) 0 ≤ 0
unfolding reset_from
reset_ends zero l work j room most h g = absurd (omega arith)
reset_ends (suc n) l work j room most h g =
    let first : List ℕ = set work (least_place + l) too_heavy in
    let size : length first ≡ length work = length-set work (least_place + l) too_heavy in
    let size' : length (set first (length_end_place + l) 0) ≡ length first = length-set first (length_end_place + l) 0 in
    elim (ℕ_discrete j l) [
      | yes is ↦
          let stored : get_or (set first (length_end_place + l) 0) (length_end_place + j) 0 ≡ 0 =
          ap (λ (x : ℕ). get_or (set first (length_end_place + l) 0) (length_end_place + x) 0) is
          ∙ get_or-set_same first (length_end_place + l) 0 0 (omega arith) in
          reset_stays n (l + 1) (set first (length_end_place + l) 0) j (omega arith) (omega arith)
      | no apart ↦ reset_ends n (l + 1) (set first (length_end_place + l) 0) j (omega arith)
          (omega arith) (omega arith) (omega arith)
    ]

module _ (end : ℕ) (work : List ℕ) (room : area_size ≤ length work) where
  abbrev ended : List ℕ
  ended = set work end_place end

  size_ended : area_size ≤ length ended
  size_ended = let s = length-set work end_place end in omega arith

  pub opened_least : (j : ℕ) → j ≤ most_steps → least_at (opened end work) j ≤ too_heavy
  unfolding opened
  opened_least j h = reset_least length_count 0 ended j size_ended (omega arith) (omega arith) (omega arith)

  pub opened_ends : (j : ℕ) → j ≤ most_steps → get_or (opened end work) (length_end_place + j) 0 ≡ 0
  unfolding opened
  opened_ends j h =
      let none = reset_ends length_count 0 ended j size_ended (omega arith) (omega arith) (omega arith) in omega arith

  pub opened_end : end_at (opened end work) ≡ end
  unfolding opened
  opened_end =
      kept (reset_from_keeps length_count 0 ended (omega arith)) end_cell tt 0 (omega arith)
      ∙ get_or-set_same work end_place end 0 (omega arith)

-- once the events of a state are noted, sums are small: the tables can be closed
pub small_opened : (table : List Event) (n k end : ℕ) (work : List ℕ) → Noteworthy table n k
    → area_size ≤ length work → bits_at work ≤ most_steps
    → ((i : ℕ) → i ≤ most_steps → fill_at work i ≤ too_heavy) → Small (surveyed table n k (opened end work))
small_opened table n k end work ok room few fill =
    let ready : List ℕ = opened end work in
    let opening = opened_keeps end work in
    let noting = surveyed_keeps table n k ready ok in
    let size : length ready ≡ length work = opening.size in
    let size' : length (surveyed table n k ready) ≡ length ready = noting.size in
    let same : bits_at (surveyed table n k ready) ≡ bits_at work = kept noting bits_cell tt 0 (omega arith)
    ∙ kept opening bits_cell tt 0 (omega arith) in
    record {
      enough = omega arith;
      bits_small = omega arith;
      least_small = λ l h. let a = survey_falls table n k ready l (omega arith) ok h in
          let b = opened_least end work room l h in omega arith;
      fill_small = λ i h. let a = kept noting fills tt i (omega arith) in let b = kept opening fills tt i
          (omega arith) in let c = fill i h in omega arith;
    }
