-- The events of a part of the table, which stand by length: the place that parts those that fit from the longer ones is the one sought.
-- Assumes nothing.
use Prim.Native.Nat.{ℕ, ◌+◌, ◌-◌, ◌≤◌, ◌<◌}
use native.Mathlib.Decide.{ℕ_discrete}
use native.Mathlib.Omega.{arith}
use mathlib.Core.Path.{◌≡◌, ap, ◌∙◌}
use mathlib.Core.Bool.{true, false}
use mathlib.Core.List.{List}
use lib.ListN.{length, get_or, take, drop}
use Rattle.std.specs.List.Sorted.{IsNonDecreasingBy, IsPartitionPoint}
use Rattle.std.proofs.Common.{leb, leb-true}
use Rattle.std.proofs.lemmas.Bool.{leb-false}
use Rattle.std.proofs.lemmas.List.{get_or-take, get_or-drop, length-take-le, length-drop}
use Rattle.std.proofs.lemmas.List.Sorted.{IsNonDecreasingBy-from_default}
use Rattle.events.specs.declared.Event.{Event}
use Rattle.events.specs.Events.{no_event}
use Rattle.bounds.specs.Model.Tables.{Segment}
use Rattle.chains.specs.Model.Chaining.{fitting_end}
use Rattle.chains.proofs.Fitting.{fitting_is}

module _ (table : List Event) (from to bits : ℕ) (inside : to ≤ length table) (rising : from ≤ to) (seg : Segment table from to) where
  abbrev part : List Event
  part = take (to - from) (drop from table)

  abbrev len : ℕ → ℕ
  len k = (get_or table k no_event).length

  size : length part ≡ to - from
  size = length-take-le (to - from) (drop from table) (simp length-drop (omega arith))

  read : (k : ℕ) → k < to - from → (get_or part k no_event).length ≡ len (from + k)
  read k h = ap (λ (e : Event). e.length) (get_or-take (to - from) (drop from table) k no_event h ∙ get_or-drop from table k no_event)

  pub by_length : IsNonDecreasingBy (λ (e : Event). e.length) part
  by_length =
      IsNonDecreasingBy-from_default (λ (e : Event). e.length) part no_event (λ i j h g.
      let n = size in
      let a = read i (omega arith) in
      let b = read j (omega arith) in
      elim (ℕ_discrete i j) [
        | yes same ↦ let e = ap len (ap (λ (x : ℕ). from + x) same) in omega arith
        | no apart ↦ let less = seg.ordered (from + i) (from + j) (omega arith) (omega arith) (omega arith) in omega arith
      ])

  pub end_is_point : (r : ℕ) → r ≤ length part
      → IsPartitionPoint (λ (e : Event). leb e.length bits ≡ true) (λ (e : Event). leb e.length bits ≡ false) part r
      → from + r ≡ fitting_end table bits to (to - from) from
  end_is_point r most point =
      let n = size in
      fitting_is table bits from to rising seg (from + r) (omega arith) (omega arith)
      (λ j h g.
      let k : from + (j - from) ≡ j = omega arith in
      let is = read (j - from) (omega arith) in
      let fits = leb-true _ bits (point.0 (j - from) no_event (omega arith) (omega arith)) in
      let same = ap len k in
      omega arith)
      (λ h.
      let is = read r (omega arith) in
      let long = leb-false _ bits (point.1 r no_event (omega arith) (omega arith)) in
      omega arith)
