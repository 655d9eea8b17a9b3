-- What the choice says. Of any candidates that stand by number, with counts of one length, it is the one `FirstBest` (`among⇔first-best`); so it is of an
-- order (`choice⇔first-best`), whose candidates are the polynomials of degree m and constant term 1.
-- Assumes nothing.
use Prim.Native.Nat.{ℕ, ◌-◌, ◌≤◌, ◌<◌}
use native.Mathlib.Omega.{arith}
use mathlib.Core.Path.{◌≡◌, refl, sym, ◌∙◌, ap, subst}
use mathlib.Core.Logic.{◌↔◌, ◌≢◌, ⊎_elim}
use mathlib.Core.List.{List, Memᴰ}
use lib.Dec.{T, not_T}
use lib.ListN.{length}
use Rattle.lists.proofs.Sorted.{Sorted, sorted_unique}
use Rattle.order.specs.Order.{Order}
use Rattle.undetected.specs.Undetected.{undetected_counts}
use Rattle.undetected.proofs.Undetected.{length-undetected_counts}
use Rattle.choice.specs.Choice.{candidates, fewer, best, first_of, Choice, choice_among, choice}
use Rattle.choice.specs.Best.{IsCandidate, LowestLess, FirstBest, BestOf}
use Rattle.choice.proofs.Fewer.{lowest_of_fewer, fewer_of_lowest, fewer_irreflexive, fewer_asymmetric}
use Rattle.choice.proofs.Candidates.{mem_candidates, candidates-sorted, some_candidate}
use Rattle.choice.proofs.Best.{first_of_member, first_least, of_best, in_best, best-sorted, best_nonempty, every_other_worse, best_share, best_of_same}

-- ---- of any candidates, which are the members of a list in order

module _ (IsOne : ℕ → Type 0) (n : ℕ) (counts : ℕ → List ℕ) (sized : (p : ℕ) → length (counts p) ≡ n)
    (ps : List ℕ) (sorted : Sorted ◌<◌ ps) (members : (q : ℕ) → Memᴰ q ps ↔ IsOne q) where
  fewer⇔lowest_less : (p q : ℕ) → T (fewer (counts p) (counts q)) ↔ LowestLess n (counts p) (counts q)
  fewer⇔lowest_less p q = (
    λ t. subst (λ k. LowestLess k (counts p) (counts q)) (sized p) (lowest_of_fewer (counts p) (counts q) t),
    λ l. fewer_of_lowest (counts p) (counts q) (subst (λ k. LowestLess k (counts p) (counts q)) (sym (sized p)) l),
  )

  -- one of those left is level with all that have its counts, and betters the others
  module _ (p : ℕ) (left : Memᴰ p (best counts ps)) where
    share : (q : ℕ) → Memᴰ q (best counts ps) ↔ (IsOne q × (counts q ≡ counts p))
    share q = (
      λ m. ((members q).0 (of_best counts ps q m).0, best_share counts ps n sized q p m left),
      λ c. best_of_same counts ps p q left ((members q).1 c.0) (sym c.1),
    )

    worse : (q : ℕ) → IsOne q → counts q ≢ counts p → LowestLess n (counts p) (counts q)
    worse q c differs =
        ⊎_elim (λ same. absurd (differs (sym same))) (fewer⇔lowest_less p q).0 (every_other_worse counts ps n sized p q left ((members q).1 c))

  abbrev first : ℕ
  first = first_of (best counts ps)

  -- where there is a candidate
  module _ {one : ℕ} (is_one : IsOne one) where
    first_left : Memᴰ first (best counts ps)
    first_left = first_of_member (best counts ps) (best_nonempty counts ps ((members one).1 is_one)).1

    first-best : FirstBest IsOne n counts first (length (best counts ps))
    first-best = record {
      candidate = (members first).0 (of_best counts ps first first_left).0;
      others_worse = worse first first_left;
      smallest = λ q c same. first_least (best counts ps) (best-sorted counts ps sorted) q ((share first first_left q).1 (c, same));
      sharing = record { listed = best counts ps; each_once = best-sorted counts ps sorted; just_these = share first first_left; how_many = refl };
    }

  -- no other is named, and no other number told
  module _ (p shared : ℕ) (named : FirstBest IsOne n counts p shared) where
    unbeaten : (q : ℕ) → Memᴰ q ps → T (fewer (counts q) (counts p)) → ⊥
    unbeaten q m t =
        let differs : counts q ≢ counts p = λ e. fewer_irreflexive (counts p) (rw e at t) in
        fewer_asymmetric (counts p) (counts q) ((fewer⇔lowest_less p q).1 (named.others_worse q ((members q).0 m) differs)) t

    named_left : Memᴰ p (best counts ps)
    named_left = in_best counts ps p ((members p).1 named.candidate) (λ q m. not_T (fewer (counts q) (counts p)) (unbeaten q m))

    named_first : p ≡ first
    named_first =
        let left = first_left named.candidate in
        let is = (share p named_left first).0 left in
        let above = named.smallest first is.0 is.1 in
        let below = first_least (best counts ps) (best-sorted counts ps sorted) p named_left in
        omega arith

    named_shared : shared ≡ length (best counts ps)
    named_shared =
        sym named.sharing.how_many
        ∙ ap length
        (sorted_unique ◌<◌ (λ x y a b. omega arith) named.sharing.listed (best counts ps) named.sharing.each_once (best-sorted counts ps sorted)
        (λ q m. (share p named_left q).1 ((named.sharing.just_these q).0 m)) (λ q m. (named.sharing.just_these q).1 ((share p named_left q).0 m)))

  retold : {p p' shared shared' : ℕ} → p ≡ p' → shared ≡ shared' → FirstBest IsOne n counts p shared → FirstBest IsOne n counts p' shared'
  retold e f h = rw (e, f) at h

  -- a choice names p, and so many that share its counts
  abbrev Says : Choice → (p shared : ℕ) → Type 0
  Says c p shared = (c.polynomial ≡ p) × (c.shared ≡ shared)

  -- where there is a candidate, the choice names just that of which `FirstBest` holds
  pub among⇔first-best : {one : ℕ} → IsOne one → (p shared : ℕ) → Says (choice_among counts ps) p shared ↔ FirstBest IsOne n counts p shared
  unfolding choice_among
  among⇔first-best is_one p shared = (
    λ h. retold h.0 h.1 (first-best is_one),
    λ named. (sym (named_first p shared named), sym (named_shared p shared named)),
  )

-- ---- of an order

pub choice⇔first-best : (o : Order) → 1 ≤ o.m → (p shared : ℕ)
    → (((choice o).polynomial ≡ p) × ((choice o).shared ≡ shared)) ↔ BestOf o p shared
unfolding choice
choice⇔first-best o positive p shared =
    among⇔first-best (IsCandidate o.m) (o.d - 1) (undetected_counts o) (length-undetected_counts o) (candidates o.m) (candidates-sorted o.m)
    (mem_candidates o.m positive) ((mem_candidates o.m positive _).0 (some_candidate o.m)) p shared

-- the choice's own
pub choice-first-best : (o : Order) → 1 ≤ o.m → BestOf o (choice o).polynomial (choice o).shared
choice-first-best o positive = (choice⇔first-best o positive (choice o).polynomial (choice o).shared).0 (refl, refl)

pub choice_counts : (o : Order) → (choice o).undetected ≡ undetected_counts o (choice o).polynomial
unfolding choice choice_among
choice_counts o = refl
