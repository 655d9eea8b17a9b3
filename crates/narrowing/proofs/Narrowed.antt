-- Narrowing: who is left after the lengths (`narrowed⇔left_after`), that somebody is (`some_left`), and that the choice among those is just `BestOfSet`
-- (`set⇔best_of_set`).
-- Assumes nothing.
use Prim.Native.Nat.{ℕ, ◌-◌, ◌≤◌, ◌<◌}
use native.Mathlib.Omega.{arith}
use mathlib.Core.Path.{◌≡◌, refl}
use mathlib.Core.Logic.{◌↔◌}
use mathlib.Core.List.Memᴰ
use mathlib.Core.List.{List, [], ◌∷◌, Memᴰ}
use lib.Dec.{T, leb, ltb, leb→le, le→leb, ltb→lt, lt→ltb, nltb→le}
use Rattle.lists.specs.Lists.{all}
use Rattle.lists.proofs.Member.{of_filter, in_filter, of_all, in_all}
use Rattle.lists.proofs.Sorted.{Sorted, filter-sorted}
use Rattle.lists.proofs.Least.{some_unbettered}
use Rattle.order.specs.Order.{Order, with_length}
use Rattle.undetected.specs.Undetected.{undetected_counts}
use Rattle.undetected.specs.FirstUndetected.{first_undetected}
use Rattle.undetected.proofs.Undetected.{length-undetected_counts}
use Rattle.choice.specs.Choice.{candidates}
use Rattle.choice.specs.Best.{IsCandidate}
use Rattle.choice.proofs.Candidates.{mem_candidates, candidates-sorted, some_candidate}
use Rattle.choice.proofs.Chosen.{among⇔first-best}
use Rattle.narrowing.specs.Narrowed.{largest, narrowed, longest, set_choice}
use Rattle.narrowing.specs.LeftAfter.{LeftAfter, BestOfSet}

-- ---- those whose value is largest

module _ (value : ℕ → ℕ) (ps : List ℕ) where
  -- nobody's value is larger
  abbrev pub Top : ℕ → Type 0
  Top p = (q : ℕ) → Memᴰ q ps → value q ≤ value p

  pub of_top : (p : ℕ) → T (all (λ q. leb (value q) (value p)) ps) → Top p
  of_top p t q m = leb→le _ _ (of_all (λ q. leb (value q) (value p)) ps t q m)

  pub in_top : (p : ℕ) → Top p → T (all (λ q. leb (value q) (value p)) ps)
  in_top p top = in_all (λ q. leb (value q) (value p)) ps (λ q m. le→leb _ _ (top q m))

  pub of_largest : {p : ℕ} → Memᴰ p (largest value ps) → Memᴰ p ps × Top p
  unfolding largest
  of_largest {p} m = let h = of_filter (λ x. all (λ q. leb (value q) (value x)) ps) ps m in (h.0, of_top p h.1)

  pub in_largest : {p : ℕ} → Memᴰ p ps → Top p → Memᴰ p (largest value ps)
  unfolding largest
  in_largest {p} m top = in_filter (λ x. all (λ q. leb (value q) (value x)) ps) ps m (in_top p top)

-- somebody has the largest value
largest_some : (value : ℕ → ℕ) (ps : List ℕ) {p : ℕ} → Memᴰ p ps → (q : ℕ) × Memᴰ q (largest value ps)
largest_some value [] m = absurd (Memᴰ.not-nil m)
largest_some value (x ∷ xs) m =
    let u = some_unbettered (λ a b. ltb (value b) (value a)) never onward x xs in
    (u.least, in_largest value (x ∷ xs) u.member (λ q k. nltb→le (value u.least) (value q) (u.unbettered q k)))
  where
    never : (a : ℕ) → T (ltb (value a) (value a)) → ⊥
    never a t = omega (arith, ltb→lt (value a) (value a) t)

    onward : (a b c : ℕ) → T (ltb (value b) (value a)) → T (ltb (value c) (value b)) → T (ltb (value c) (value a))
    onward a b c s t = lt→ltb (value c) (value a) (omega (arith, ltb→lt (value b) (value a) s, ltb→lt (value c) (value b) t))

-- ---- length by length

module _ (o : Order) where
  abbrev first : ℕ → ℕ → ℕ
  first N = first_undetected (with_length N o)

  pub narrowed⇔left_after : (Ns : List ℕ) (Is : ℕ → Type 0) (ps : List ℕ) → ((q : ℕ) → Memᴰ q ps ↔ Is q)
      → (p : ℕ) → Memᴰ p (narrowed o Ns ps) ↔ LeftAfter o Ns Is p
  unfolding narrowed
  narrowed⇔left_after [] Is ps h p = h p
  narrowed⇔left_after (N ∷ Ns) Is ps h p =
      narrowed⇔left_after Ns (λ c. Is c × ((q : ℕ) → Is q → first N q ≤ first N c)) (largest (first N) ps)
      (λ c. (
        λ m. let k = of_largest (first N) ps m in ((h c).0 k.0, λ q i. k.1 q ((h q).1 i)),
        λ k. in_largest (first N) ps ((h c).1 k.0) (λ q m. k.1 q ((h q).0 m)),
      )) p

  narrowed-sorted : (Ns ps : List ℕ) → Sorted ◌<◌ ps → Sorted ◌<◌ (narrowed o Ns ps)
  unfolding narrowed largest
  narrowed-sorted [] ps s = s
  narrowed-sorted (N ∷ Ns) ps s = narrowed-sorted Ns (largest (first N) ps) (filter-sorted ◌<◌ _ ps s)

  narrowed_some : (Ns ps : List ℕ) {p : ℕ} → Memᴰ p ps → (q : ℕ) × Memᴰ q (narrowed o Ns ps)
  unfolding narrowed
  narrowed_some [] ps {p} m = (p, m)
  narrowed_some (N ∷ Ns) ps m = narrowed_some Ns (largest (first N) ps) (largest_some (first N) ps m).1

  -- the order's own length is not looked at
  pub narrowed-any : (N : ℕ) (Ns ps : List ℕ) → narrowed (with_length N o) Ns ps ≡ narrowed o Ns ps
  unfolding narrowed with_length
  narrowed-any N [] ps = refl
  narrowed-any N (M ∷ Ns) ps = narrowed-any N Ns (largest (first M) ps)

  -- ---- the candidates of the order

  pub some_left : (Ns : List ℕ) → (p : ℕ) × Memᴰ p (narrowed o Ns (candidates o.m))
  some_left Ns = narrowed_some Ns (candidates o.m) (some_candidate o.m)

  pub left_sorted : (Ns : List ℕ) → Sorted ◌<◌ (narrowed o Ns (candidates o.m))
  left_sorted Ns = narrowed-sorted Ns (candidates o.m) (candidates-sorted o.m)

  -- the choice for a set of lengths is just what is promised
  pub set⇔best_of_set : (Ns : List ℕ) → 1 ≤ o.m → (p shared : ℕ)
      → (((set_choice o Ns).polynomial ≡ p) × ((set_choice o Ns).shared ≡ shared)) ↔ BestOfSet o Ns p shared
  unfolding set_choice longest with_length
  set⇔best_of_set Ns positive p shared =
      let members = narrowed⇔left_after Ns (IsCandidate o.m) (candidates o.m) (mem_candidates o.m positive) in
      let some = some_left Ns in
      among⇔first-best (LeftAfter o Ns (IsCandidate o.m)) (o.d - 1) (undetected_counts (longest o Ns)) (length-undetected_counts (longest o Ns))
      (narrowed o Ns (candidates o.m)) (left_sorted Ns) members ((members some.0).0 some.1) p shared
