-- Where the events of a key stand, once the places are carried on: an event stands at or after the place of its key and before that of the next key.
-- Assumes nothing.
use Prim.Native.Nat.{ℕ, ◌+◌, ◌≤◌, ◌<◌}
use native.Mathlib.Decide.{ℕ_discrete}
use native.Mathlib.Omega.{arith}
use mathlib.Core.Path.{◌≡◌, ap}
use mathlib.Core.Logic.{◌⊎◌, inl, inr, ⊎_elim}
use mathlib.Core.List.{List}
use lib.Dec.{ltb, ltb→lt, nltb→le}
use lib.ListN.{get_or}
use Rattle.lists.proofs.Tests.{passes_or_fails}
use Rattle.events.specs.declared.Event.{Event}
use Rattle.events.specs.Events.{no_event}
use Rattle.bounds.specs.Model.Places.{Region}
use Rattle.bounds.proofs.Survey.{LastOf}
use Rattle.bounds.proofs.Carried.{highest, highest_above, highest_most}

pub lt_or_ge : (a b : ℕ) → (a < b) ⊎ (b ≤ a)
lt_or_ge a b = ⊎_elim (λ t. inl (ltb→lt a b t)) (λ t. inr (nltb→le a b t)) (passes_or_fails (ltb a b))

-- the notes of the events from place `from` to before place `to`, in region r of the work area, and the events' order by the key
pub record Marks (table : List Event) (key : Event → ℕ) (r : Region) (from to : ℕ) (work : List ℕ) : Type 0 where
  pub after : (k : ℕ) → from ≤ k → k < to → k < get_or work (r.start + key (get_or table k no_event)) 0
  pub only : (i : ℕ) → i < r.size → (get_or work (r.start + i) 0 ≡ 0) ⊎ LastOf table key from to i (get_or work (r.start + i) 0)
  pub below : (k : ℕ) → from ≤ k → k < to → key (get_or table k no_event) < r.size
  pub ordered : (k k' : ℕ) → from ≤ k → k < k' → k' < to → key (get_or table k no_event) ≤ key (get_or table k' no_event)

module _ (table : List Event) (key : Event → ℕ) (r : Region) (from to : ℕ) (work : List ℕ)
    (marks : Marks table key r from to work) where
  -- the events of a smaller key stand before event k
  earlier : (k i : ℕ) → from ≤ k → k < to → i < key (get_or table k no_event) → get_or work (r.start + i) 0 ≤ k
  earlier k i h g less =
      let x : ℕ = get_or work (r.start + i) 0 in
      let is_in_range = marks.below k h g in
      ⊎_elim (λ (none : x ≡ 0). omega arith)
      (λ (l : LastOf table key from to i x).
      let next : x ≡ l.place + 1 = l.next in
      let is : key (get_or table l.place no_event) ≡ i = l.key_is in
      let last : l.place < to = l.before in
      elim (lt_or_ge l.place k) [
        | inl before ↦ omega arith
        | inr after ↦ elim (ℕ_discrete k l.place) [
          | yes same ↦ let e = ap (λ (n : ℕ). key (get_or table n no_event)) same in absurd (omega arith)
          | no apart ↦ let o = marks.ordered k l.place h (omega arith) last in absurd (omega arith)
        ]
      ])
      (marks.only i (omega arith))

  pub place_at : (k : ℕ) → from ≤ k → k < to → highest work r.start from (key (get_or table k no_event)) ≤ k
  place_at k h g = highest_most work r.start from (key (get_or table k no_event)) k h (λ i less. earlier k i h g less)

  pub place_after : (k : ℕ) → from ≤ k → k < to → k < highest work r.start from (key (get_or table k no_event) + 1)
  place_after k h g =
      let a = marks.after k h g in
      let b = highest_above work r.start from (key (get_or table k no_event) + 1) (key (get_or table k no_event)) (omega arith) in
      omega arith

  pub places_end : (j : ℕ) → j ≤ r.size → from ≤ to → highest work r.start from j ≤ to
  places_end j h le = highest_most work r.start from j to le (λ i less. ⊎_elim
      (λ (none : get_or work (r.start + i) 0 ≡ 0). omega arith)
      (λ (l : LastOf table key from to i (get_or work (r.start + i) 0)). let a = l.next in let b = l.before in omega arith)
      (marks.only i (omega arith)))
