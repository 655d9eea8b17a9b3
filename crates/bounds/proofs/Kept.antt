-- What each step leaves as it was: the length of the work area, and every table that it does not store to. And that sums stay small.
-- Assumes nothing.
use Prim.Native.Nat.{ℕ, zero, suc, ◌+◌, ◌≤◌, ◌<◌, max}
use native.Mathlib.Omega.{arith}
use mathlib.Core.Path.{◌≡◌, ◌∙◌}
use mathlib.Core.Logic.{inl, inr}
use mathlib.Core.List.{List, [], ◌∷◌}
use lib.ListN.{length, get_or, set}
use Rattle.events.specs.declared.Event.{Event}
use Rattle.events.specs.Events.{no_event}
use Rattle.code.specs.Model.Steps.{most_steps}
use Rattle.bounds.specs.Model.Places.{length_count, state_count, too_heavy, first_place, state_end_place, least_place, length_end_place, start_place, fill_place, bits_place, end_place, Region, firsts, state_ends, leasts, length_ends, starts, fills, bits_cell, end_cell, wholes}
use Rattle.bounds.specs.Model.Tables.{first_of, bits_at, whole_at, noted, surveyed, reset_from, opened, carried, least_sum, filled_from, filled, indexed, closed, Fits, Small}
use Rattle.bounds.proofs.Regions.{Keeps, keeps_all, keeps_then, keeps_set, keeps_also, keeps_within, kept}

-- ---- noting events

-- what is asked of the n events from place k on
abbrev pub Noteworthy : List Event → ℕ → ℕ → Type 0
Noteworthy table n k = (j : ℕ) → k ≤ j → j < k + n → Fits (get_or table j no_event)

pub later_noteworthy : (table : List Event) (n k : ℕ) → Noteworthy table (suc n) k → Noteworthy table n (k + 1)
later_noteworthy table n k ok j h g = ok j (omega arith) (omega arith)

abbrev pub notes : List Region
notes = state_ends ∷ leasts ∷ length_ends ∷ []

pub noted_keeps : (work : List ℕ) (e : Event) (after : ℕ) → Fits e → Keeps notes work (noted work e after)
unfolding noted
noted_keeps work e after fits =
    keeps_then (keeps_set work (state_end_place + e.state) after (inl (omega arith, omega arith)))
    (keeps_then (keeps_set _ (length_end_place + e.length) after (inr (inr (inl (omega arith, omega arith)))))
    (keeps_set _ (least_place + e.length) _ (inr (inl (omega arith, omega arith)))))

pub surveyed_keeps : (table : List Event) (n k : ℕ) (work : List ℕ) → Noteworthy table n k
    → Keeps notes work (surveyed table n k work)
unfolding surveyed
surveyed_keeps table zero k work ok = keeps_all work
surveyed_keeps table (suc n) k work ok =
    keeps_then (noted_keeps work _ (k + 1) (ok k (omega arith) (omega arith)))
    (surveyed_keeps table n (k + 1) _ (later_noteworthy table n k ok))

pub reset_from_keeps : (n l : ℕ) (work : List ℕ) → l + n ≤ length_count → Keeps (leasts ∷ length_ends ∷ []) work (reset_from n l work)
unfolding reset_from
reset_from_keeps zero l work h = keeps_all work
reset_from_keeps (suc n) l work h =
    keeps_then (keeps_set work (least_place + l) too_heavy (inl (omega arith, omega arith)))
    (keeps_then (keeps_set _ (length_end_place + l) 0 (inr (inl (omega arith, omega arith))))
    (reset_from_keeps n (l + 1) _ (omega arith)))

pub opened_keeps : (end : ℕ) (work : List ℕ) → Keeps (end_cell ∷ leasts ∷ length_ends ∷ []) work (opened end work)
unfolding opened
opened_keeps end work =
    keeps_then (keeps_set work end_place end (inl (omega arith, omega arith)))
    (keeps_also (reset_from_keeps length_count 0 _ (omega arith)))

-- ---- what is made of the notes

pub carried_keeps : (ends starts n from : ℕ) (work : List ℕ)
    → Keeps (record { start = starts; size = n + 1 } ∷ []) work (carried ends starts n from work)
unfolding carried
carried_keeps ends starts zero from work = keeps_set work starts from (inl (omega arith, omega arith))
carried_keeps ends starts (suc n) from work =
    keeps_then (keeps_set work starts from (inl (omega arith, omega arith)))
    (keeps_within (record { start = starts + 1; size = n + 1 }) (omega arith) (omega arith)
    (carried_keeps (ends + 1) (starts + 1) n (max from (get_or work ends 0)) _))

pub filled_from_keeps : (n k : ℕ) (work : List ℕ)
    → Keeps (record { start = fill_place + k; size = n } ∷ []) work (filled_from n k work)
unfolding filled_from
filled_from_keeps zero k work = keeps_all work
filled_from_keeps (suc n) k work =
    keeps_then (keeps_set work (fill_place + k) (least_sum work k k) (inl (omega arith, omega arith)))
    (keeps_within (record { start = fill_place + (k + 1); size = n }) (omega arith) (omega arith) (filled_from_keeps n (k + 1) _))

pub filled_keeps : (work : List ℕ) → bits_at work ≤ most_steps → Keeps (fills ∷ []) work (filled work)
unfolding filled
filled_keeps work few =
    keeps_then (keeps_set work fill_place 0 (inl (omega arith, omega arith)))
    (keeps_within (record { start = fill_place + 1; size = bits_at work }) (omega arith)
    (omega arith) (filled_from_keeps (bits_at work) 1 _))

pub lengths_keeps : (from : ℕ) (work : List ℕ)
    → Keeps (starts ∷ []) work (carried length_end_place start_place length_count from work)
lengths_keeps from work = carried_keeps length_end_place start_place length_count from work

pub indexed_keeps : (N : ℕ) (work : List ℕ) → Keeps (bits_cell ∷ firsts ∷ []) work (indexed N work)
unfolding indexed
indexed_keeps N work =
    keeps_then (keeps_also (carried_keeps state_end_place first_place state_count 0 work))
    (keeps_set _ bits_place N (inl (omega arith, omega arith)))

pub closed_keeps : (from : ℕ) (work : List ℕ) → bits_at work ≤ most_steps → Keeps (fills ∷ starts ∷ []) work (closed from work)
unfolding closed
closed_keeps from work few =
    let places = lengths_keeps from work in
    let same : bits_at (carried length_end_place start_place length_count from work) ≡ bits_at work =
    kept places bits_cell tt 0 (omega arith) in
    keeps_then (keeps_also places) (keeps_within fills (omega arith) (omega arith) (filled_keeps _ (omega arith)))

-- ---- the index of states and the number of steps survive the tables of a state

module _ (table : List Event) (n k from to : ℕ) (work : List ℕ) (ok : Noteworthy table n k) (few : bits_at work ≤ most_steps) where
  abbrev survey : List ℕ
  survey = surveyed table n k (opened to work)

  survey_bits : bits_at survey ≡ bits_at work
  survey_bits =
      kept (surveyed_keeps table n k _ ok) bits_cell tt 0 (omega arith) ∙ kept (opened_keeps to work) bits_cell tt 0 (omega arith)

  state_keeps : Keeps (fills ∷ starts ∷ []) survey (closed from survey)
  state_keeps = let e = survey_bits in closed_keeps from survey (omega arith)

  pub length_survives : length (closed from survey) ≡ length work
  length_survives = state_keeps.size ∙ (surveyed_keeps table n k _ ok).size ∙ (opened_keeps to work).size

  pub first_of_survives : (i : ℕ) → i ≤ state_count → first_of (closed from survey) i ≡ first_of work i
  first_of_survives i h =
      kept state_keeps firsts tt i (omega arith) ∙ kept (surveyed_keeps table n k _ ok) firsts tt i (omega arith)
      ∙ kept (opened_keeps to work) firsts tt i (omega arith)

  pub whole_at_survives : (i : ℕ) → i < state_count → whole_at (closed from survey) i ≡ whole_at work i
  whole_at_survives i h =
      kept state_keeps wholes tt i h ∙ kept (surveyed_keeps table n k _ ok) wholes tt i h ∙ kept (opened_keeps to work) wholes tt i h

  pub bits_at_survives : bits_at (closed from survey) ≡ bits_at work
  bits_at_survives = kept state_keeps bits_cell tt 0 (omega arith) ∙ survey_bits

-- ---- sums are small

pub set_le : (work : List ℕ) (i j x most : ℕ) → x ≤ most → get_or work j 0 ≤ most → get_or (set work i x) j 0 ≤ most
set_le [] i j x most h g = g
set_le (y ∷ work) zero zero x most h g = h
set_le (y ∷ work) zero (suc j) x most h g = g
set_le (y ∷ work) (suc i) zero x most h g = g
set_le (y ∷ work) (suc i) (suc j) x most h g = set_le work i j x most h g

pub least_sum_small : (work : List ℕ) (k l : ℕ) → least_sum work k l ≤ too_heavy
unfolding least_sum
least_sum_small work k zero = omega arith
least_sum_small work k (suc l) = let rest = least_sum_small work k l in omega arith

-- a least weight of some number of steps is stored
pub small_fill : (work : List ℕ) (k x : ℕ) → k ≤ most_steps → x ≤ too_heavy → Small work → Small (set work (fill_place + k) x)
small_fill work k x h g ok =
    let keeps : Keeps (fills ∷ []) work (set work (fill_place + k) x) =
    keeps_set work (fill_place + k) x (inl (omega arith, omega arith)) in
    let size = keeps.size in
    let same = kept keeps bits_cell tt 0 (omega arith) in
    record {
      enough = let e = ok.enough in omega arith;
      bits_small = let b = ok.bits_small in omega arith;
      least_small = λ l p. let e = kept keeps leasts tt l (omega arith) in let s = ok.least_small l p in omega arith;
      fill_small = λ l p. set_le work (fill_place + k) (fill_place + l) x too_heavy g (ok.fill_small l p);
    }

pub small_carried : (from : ℕ) (work : List ℕ) → Small work → Small (carried length_end_place start_place length_count from work)
small_carried from work ok =
    let keeps = lengths_keeps from work in
    let size = keeps.size in
    let same = kept keeps bits_cell tt 0 (omega arith) in
    record {
      enough = let e = ok.enough in omega arith;
      bits_small = let b = ok.bits_small in omega arith;
      least_small = λ l p. let e = kept keeps leasts tt l (omega arith) in let s = ok.least_small l p in omega arith;
      fill_small = λ l p. let e = kept keeps fills tt l (omega arith) in let s = ok.fill_small l p in omega arith;
    }

pub small_filled_from : (n k : ℕ) (work : List ℕ) → k + n ≤ length_count → Small work → Small (filled_from n k work)
unfolding filled_from
small_filled_from zero k work h ok = ok
small_filled_from (suc n) k work h ok =
    small_filled_from n (k + 1) _ (omega arith) (small_fill work k (least_sum work k k) (omega arith) (least_sum_small work k k) ok)

pub small_filled : (work : List ℕ) → Small work → Small (filled work)
unfolding filled
small_filled work ok =
    let few = ok.bits_small in
    small_filled_from (bits_at work) 1 _ (omega arith) (small_fill work 0 0 (omega arith) (omega arith) ok)

pub small_closed : (from : ℕ) (work : List ℕ) → Small work → Small (closed from work)
unfolding closed
small_closed from work ok = small_filled _ (small_carried from work ok)
