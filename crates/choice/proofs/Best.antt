-- Of any list of candidates with counts of one length: those that no candidate betters. There is one at least where there is a candidate, they all have
-- the same counts, and every other candidate is worse than each of them.
-- Assumes nothing.
use Prim.Native.Nat.{ℕ, ◌≤◌, ◌<◌}
use native.Mathlib.Omega.{arith}
use mathlib.Core.Path.{◌≡◌, refl, sym, ap, ◌∙◌, subst}
use mathlib.Core.Bool.{Bool, true, false, not, ◌||◌}
use mathlib.Core.Logic.{◌↔◌, ◌⊎◌, inl, inr, ⊎_elim}
use mathlib.Core.List.Memᴰ
use mathlib.Core.List.{List, [], ◌∷◌, Memᴰ}
use lib.Dec.{T, T_not}
use lib.ListN.{length}
use Rattle.lists.specs.Lists.{any}
use Rattle.lists.proofs.Tests.{false_of_T_not}
use Rattle.lists.proofs.Filters.{filter_one}
use Rattle.lists.proofs.Member.{of_filter, in_filter, mem_not_any}
use Rattle.lists.proofs.Sorted.{Sorted, filter-sorted}
use Rattle.lists.proofs.Least.{Unbettered, some_unbettered}
use Rattle.choice.specs.Choice.{fewer, unbettered, best, first_of}
use Rattle.choice.proofs.Fewer.{not_itself, fewer_irreflexive, fewer_transitive, fewer-total}

-- where there is a member, the first is one
pub first_of_member : {p : ℕ} (l : List ℕ) → Memᴰ p l → Memᴰ (first_of l) l
unfolding first_of
first_of_member [] member = absurd (Memᴰ.not-nil member)
first_of_member (q ∷ l) member = Memᴰ.head refl

-- the first of a list in order is the least
pub first_least : (l : List ℕ) → Sorted ◌<◌ l → (q : ℕ) → Memᴰ q l → first_of l ≤ q
unfolding first_of
first_least [] sorted q member = absurd (Memᴰ.not-nil member)
first_least (p ∷ l) sorted q member = ⊎_elim (λ e. omega arith) (λ later. omega (arith, sorted.0 q later)) (Memᴰ.cases_cons member)

module _ (counts : ℕ → List ℕ) (ps : List ℕ) where
  -- ---- who is left

  -- no candidate betters p
  abbrev pub Unbeaten : ℕ → Type 0
  Unbeaten p = (q : ℕ) → Memᴰ q ps → T (not (fewer (counts q) (counts p)))

  pub unbettered⇔unbeaten : (p : ℕ) → T (unbettered counts ps p) ↔ Unbeaten p
  unfolding unbettered
  unbettered⇔unbeaten p = mem_not_any (λ q. fewer (counts q) (counts p)) ps

  pub of_best : (p : ℕ) → Memᴰ p (best counts ps) → Memᴰ p ps × Unbeaten p
  unfolding best
  of_best p m = let h = of_filter (unbettered counts ps) ps m in (h.0, (unbettered⇔unbeaten p).0 h.1)

  pub in_best : (p : ℕ) → Memᴰ p ps → Unbeaten p → Memᴰ p (best counts ps)
  unfolding best
  in_best p m u = in_filter (unbettered counts ps) ps m ((unbettered⇔unbeaten p).1 u)

  pub best-sorted : Sorted ◌<◌ ps → Sorted ◌<◌ (best counts ps)
  unfolding best
  best-sorted sorted = filter-sorted ◌<◌ (unbettered counts ps) ps sorted

  -- ---- one at least

  unbeaten_among : {q : ℕ} (l : List ℕ) → Memᴰ q l → Unbettered (λ p r. fewer (counts p) (counts r)) l
  unbeaten_among [] member = absurd (Memᴰ.not-nil member)
  unbeaten_among (x ∷ xs) member =
      some_unbettered (λ p r. fewer (counts p) (counts r)) (λ p. fewer_irreflexive (counts p))
      (λ p q r. fewer_transitive (counts p) (counts q) (counts r)) x xs

  pub best_nonempty : {q : ℕ} → Memᴰ q ps → (p : ℕ) × Memᴰ p (best counts ps)
  best_nonempty member =
      let u = unbeaten_among ps member in
      (u.least, in_best u.least u.member u.unbettered)

  -- a candidate with the counts of one that is left is left too
  pub best_of_same : (p q : ℕ) → Memᴰ p (best counts ps) → Memᴰ q ps → counts p ≡ counts q → Memᴰ q (best counts ps)
  best_of_same p q m c e = in_best q c (λ r n. subst (λ a. T (not (fewer (counts r) a))) e ((of_best p m).1 r n))

  -- ---- the same counts, and better than all others

  module _ (n : ℕ) (sized : (p : ℕ) → length (counts p) ≡ n) where
    pub every_other_worse : (p q : ℕ) → Memᴰ p (best counts ps) → Memᴰ q ps → (counts p ≡ counts q) ⊎ T (fewer (counts p) (counts q))
    every_other_worse p q m c =
        ⊎_elim inl (⊎_elim inr (λ b. absurd (T_not (fewer (counts q) (counts p)) ((of_best p m).1 q c) b)))
        (fewer-total (counts p) (counts q) (sized p ∙ sym (sized q)))

    pub best_share : (p q : ℕ) → Memᴰ p (best counts ps) → Memᴰ q (best counts ps) → counts p ≡ counts q
    best_share p q m r =
        let h = of_best q r in
        ⊎_elim (λ e. e) (λ b. absurd (T_not (fewer (counts p) (counts q)) (h.1 p (of_best p m).0) b)) (every_other_worse p q m h.0)

-- one alone is the best
pub best_alone : (counts : ℕ → List ℕ) (p : ℕ) → best counts (p ∷ []) ≡ p ∷ []
unfolding best unbettered any
best_alone counts p =
    filter_one (unbettered counts (p ∷ [])) p true (ap (λ (b : Bool). not (b || false)) (false_of_T_not (fewer (counts p) (counts p)) (not_itself (counts p))))
