-- The events of a state that a word has the steps for: they stand first, since events stand by length (`fitting_filters`), they end at the place
-- before which all fit and at which none does (`fitting_is`), and a chain that fills a word has no others (`chain_fits`).
-- Assumes nothing.
use Prim.Native.Nat.{ℕ, zero, suc, ◌+◌, ◌-◌, ◌≤◌, ◌<◌}
use native.Mathlib.Decide.{ℕ_discrete}
use native.Mathlib.Numerals.{add-one}
use native.Mathlib.Omega.{arith}
use mathlib.Core.Path.{◌≡◌, refl, sym, ap, ◌∙◌, subst}
use mathlib.Core.Bool.{Bool, true, false, not, cond}
use mathlib.Core.Logic.{⊎_elim}
use mathlib.Core.List.Memᴰ
use mathlib.Core.List.{List, [], ◌∷◌, map, Memᴰ}
use lib.Dec.{T, ltb, leb, ltb→lt, nltb→le, leb→le, le→leb}
use lib.ListN.{get_or}
use Rattle.lists.specs.Lists.{up_from, filter}
use Rattle.lists.proofs.Member.{up_from_bounds, of_filter, in_filter}
use Rattle.lists.proofs.Blocks.{nil_of_no_member}
use Rattle.lists.proofs.Choices.{cond_true}
use Rattle.lists.proofs.Sorted.{Within}
use Rattle.events.specs.declared.Event.{Event}
use Rattle.events.specs.Events.{ErrorEvent, no_event}
use Rattle.events.proofs.Shorter.{at_most}
use Rattle.paths.specs.Chains.{steps}
use Rattle.bounds.specs.Model.Tables.{Segment}
use Rattle.chains.specs.Model.Chaining.{error_event, events_between, fitting_end}

-- an event of a chain is no longer than the chain
length_le_steps : (c : List ErrorEvent) (e : ErrorEvent) → Memᴰ e c → e.length ≤ steps c
unfolding steps
length_le_steps [] e m = absurd (Memᴰ.not-nil m)
length_le_steps (f ∷ c) e m =
    ⊎_elim (λ (is : e ≡ f). let same = ap (λ (x : ErrorEvent). x.length) is in omega arith)
    (λ later. let h = length_le_steps c e later in omega arith) (Memᴰ.cases_cons m)

either : (P : ℕ → Type 0) (b : Bool) {x y : ℕ} → P x → P y → P (cond b x y)
either P true p q = p
either P false p q = q

module _ (table : List Event) (bits last : ℕ) where
  abbrev len : ℕ → ℕ
  len k = (get_or table k no_event).length

  abbrev read : ℕ → ErrorEvent
  read k = error_event (get_or table k no_event)

  -- ---- n events from place k on, up to place `last`

  abbrev end : ℕ → ℕ → ℕ
  end n k = fitting_end table bits last n k

  end_after : (n k : ℕ) → k + n ≡ last → k ≤ end n k
  unfolding fitting_end
  end_after zero k all = omega arith
  end_after (suc n) k all = either (λ x. k ≤ x) (ltb bits (len k)) (omega arith) (let h = end_after n (k + 1) (omega arith) in omega arith)

  end_inside : (n k : ℕ) → k + n ≡ last → end n k ≤ last
  unfolding fitting_end
  end_inside zero k all = omega arith
  end_inside (suc n) k all = either (λ x. x ≤ last) (ltb bits (len k)) (omega arith) (end_inside n (k + 1) (omega arith))

  -- the place before which all fit, and at which an event is too long unless none stands there
  end_is : (n k m : ℕ) → k + n ≡ last → k ≤ m → m ≤ last → ((j : ℕ) → k ≤ j → j < m → len j ≤ bits) → (m < last → bits < len m) → m ≡ end n k
  unfolding fitting_end
  end_is zero k m all after inside fit past = omega arith
  end_is (suc n) k m all after inside fit past =
      by (ltb bits (len k)) refl (λ (more : k + 1 ≤ m). end_is n (k + 1) m (omega arith) more inside (λ j h g. fit j (omega arith) g) past)
    where
      by : (b : Bool) → b ≡ ltb bits (len k) → (k + 1 ≤ m → m ≡ end n (k + 1)) → m ≡ cond b k (end n (k + 1))
      by true e rest =
          let long : bits < len k = ltb→lt bits (len k) (subst T e tt) in
          elim (ℕ_discrete m k) [
            | yes same ↦ same
            | no apart ↦ let short = fit k (omega arith) (omega arith) in absurd (omega arith)
          ]
      by false e rest =
          let short : len k ≤ bits = nltb→le bits (len k) (subst (λ (b : Bool). T (not b)) e tt) in
          elim (ℕ_discrete m k) [
            | yes same ↦ let long : bits < len k = subst (λ (x : ℕ). bits < len x) same (past (omega arith)) in absurd (omega arith)
            | no apart ↦ rest (omega arith)
          ]

  -- after an event that is too long none fits
  none_fits : (n k : ℕ) → ((j : ℕ) → k ≤ j → j < k + n → bits < len j) → filter (at_most bits) (map read (up_from k n)) ≡ []
  unfolding error_event
  none_fits n k long =
      nil_of_no_member (filter (at_most bits) (map read (up_from k n))) (λ e m.
      let f = of_filter (at_most bits) (map read (up_from k n)) m in
      let h = Memᴰ.of_map read (up_from k n) f.0 in
      let b = up_from_bounds k n h.1 in
      let short = leb→le e.length bits f.1 in
      let same = ap (λ (x : ErrorEvent). x.length) h.2 in
      let more = long h.0 b.0 b.1 in
      omega arith)

  end_filters : (n k : ℕ) → k + n ≡ last → ((j j' : ℕ) → k ≤ j → j < j' → j' < last → len j ≤ len j')
      → map read (up_from k (end n k - k)) ≡ filter (at_most bits) (map read (up_from k n))
  unfolding fitting_end filter up_from error_event
  end_filters zero k all ordered = let none : last - k ≡ 0 = omega arith in ap (λ (m : ℕ). map read (up_from k m)) none
  end_filters (suc n) k all ordered =
      by (ltb bits (len k)) refl (end_filters n (k + 1) (omega arith) (λ j j' h g m. ordered j j' (omega arith) g m))
    where
      by : (b : Bool) → b ≡ ltb bits (len k) → map read (up_from (k + 1) (end n (k + 1) - (k + 1))) ≡ filter (at_most bits) (map read (up_from (k + 1) n))
          → map read (up_from k (cond b k (end n (k + 1)) - k)) ≡ filter (at_most bits) (map read (up_from k (suc n)))
      by true e rest =
          let none : k - k ≡ 0 = omega arith in
          let long : bits < len k = ltb→lt bits (len k) (subst T e tt) in
          ap (λ (m : ℕ). map read (up_from k m)) none ∙ sym (none_fits (suc n) k (λ j h g. elim (ℕ_discrete j k) [
            | yes same ↦ subst (λ (x : ℕ). bits < len x) (sym same) long
            | no apart ↦ let more = ordered k j (omega arith) (omega arith) (omega arith) in omega arith
          ]))
      by false e rest =
          let short : len k ≤ bits = nltb→le bits (len k) (subst (λ (b : Bool). T (not b)) e tt) in
          let after = end_after n (k + 1) (omega arith) in
          let one : end n (k + 1) - k ≡ suc (end n (k + 1) - (k + 1)) = omega arith in
          ap (λ (m : ℕ). map read (up_from k m)) one
          ∙ ap (λ (l : List ErrorEvent). read k ∷ l) (subst (λ (x : ℕ). map read (up_from x (end n (k + 1) - (k + 1)))
          ≡ filter (at_most bits) (map read (up_from x n))) (add-one k) rest)
          ∙ sym (cond_true (leb (len k) bits) (read k ∷ filter (at_most bits) (map read (up_from (suc k) n)))
          (filter (at_most bits) (map read (up_from (suc k) n))) (le→leb (len k) bits short))

-- ---- the events of a state

module _ (table : List Event) (bits from last : ℕ) (rising : from ≤ last) (seg : Segment table from last) where
  abbrev to : ℕ
  to = fitting_end table bits last (last - from) from

  all : from + (last - from) ≡ last
  all = omega arith

  pub fitting_after : from ≤ to
  fitting_after = end_after table bits last (last - from) from all

  pub fitting_inside : to ≤ last
  fitting_inside = end_inside table bits last (last - from) from all

  pub fitting_is : (m : ℕ) → from ≤ m → m ≤ last → ((j : ℕ) → from ≤ j → j < m → len table bits last j ≤ bits)
      → (m < last → bits < len table bits last m) → m ≡ to
  fitting_is m = end_is table bits last (last - from) from m all

  pub fitting_segment : Segment table from to
  fitting_segment =
      let most = fitting_inside in
      record {
        states = λ k h g. seg.states k h (omega arith);
        lengths = λ k h g. seg.lengths k h (omega arith);
        ordered = λ k l h m g. seg.ordered k l h m (omega arith);
      }

  pub fitting_filters : events_between table from to ≡ filter (at_most bits) (events_between table from last)
  unfolding events_between
  fitting_filters = end_filters table bits last (last - from) from all seg.ordered

  pub fitting_are : Within (events_between table from to) (events_between table from last)
  fitting_are e m = (of_filter (at_most bits) (events_between table from last) (subst (Memᴰ e) fitting_filters m)).0

  -- a chain that fills a word
  pub chain_fits : (c : List ErrorEvent) → Within c (events_between table from last) → steps c ≡ bits → Within c (events_between table from to)
  chain_fits c w s e m =
      let short = length_le_steps c e m in
      subst (Memᴰ e) (sym fitting_filters)
      (in_filter (at_most bits) (events_between table from last) (w e m) (le→leb e.length bits (omega arith)))
