-- Who is offered: the candidates whose flags are up. All are where all flags are, and one alone where just its flag is.
-- Assumes nothing.
use Prim.Native.Nat.{ℕ, ◌+◌, ◌-◌, ◌*◌, ◌^◌, ◌≤◌, ◌<◌}
use native.Mathlib.Omega.{arith}
use mathlib.Core.Path.{◌≡◌, refl, sym, ap, ap₂, ◌∙◌, subst}
use mathlib.Core.Bool.{Bool, true, false, cond, ◌&&◌}
use mathlib.Core.List.Memᴰ
use mathlib.Core.List.{List, [], ◌∷◌, map, ◌++◌, Memᴰ}
use lib.Dec.{T, not_T}
use lib.ListN.{get_or, set, replicate, length-replicate, get_or-replicate}
use lib.Seq.{get_or-set_same, get_or-set_other}
use Rattle.lists.specs.Lists.{up_from, filter}
use Rattle.lists.proofs.Tests.{true_of_T, false_of_T_not}
use Rattle.lists.proofs.Member.{up_from_bounds, in_up_from, of_filter, in_filter}
use Rattle.lists.proofs.Sorted.{Sorted, up_from-sorted, filter-sorted}
use Rattle.choice.specs.Choice.{candidates, first_of}
use Rattle.choice.specs.Model.Steps.{alive_below, offered_by}
use Rattle.choice.proofs.Candidates.{few_candidates}
use Rattle.choice.proofs.Flags.{none_below, below_up, none_between}
use Rattle.choice.proofs.Best.{first_of_member, first_least}

-- ---- tests on lists

module _ {A : Type 0} (f : A → Bool) where
  filter-all : (xs : List A) → ((x : A) → Memᴰ x xs → f x ≡ true) → filter f xs ≡ xs
  unfolding filter
  filter-all [] pass = refl
  filter-all (x ∷ xs) pass =
      ap₂ (λ (b : Bool) (rest : List A). cond b (x ∷ rest) rest) (pass x (Memᴰ.head refl)) (filter-all xs (λ y m. pass y (Memᴰ.tail m)))

  -- both tests at once
  pub filter-filter : (g : A → Bool) (xs : List A) → filter g (filter f xs) ≡ filter (λ x. f x && g x) xs
  unfolding filter
  filter-filter g [] = refl
  filter-filter g (x ∷ xs) = by (f x) (filter-filter g xs)
    where
      by : (b : Bool) {l : List A} → filter g (filter f xs) ≡ l → filter g (cond b (x ∷ filter f xs) (filter f xs)) ≡ cond (b && g x) (x ∷ l) l
      by true e = ap (λ (rest : List A). cond (g x) (x ∷ rest) rest) e
      by false e = e

-- ---- the flags that are up

abbrev pub up : List Bool → ℕ → Bool
up flags k = get_or flags k false

module _ (flags : List Bool) (n : ℕ) where
  -- flag k is one of those that are up
  abbrev pub Up : ℕ → Type 0
  Up k = (k < n) × (get_or flags k false ≡ true)

  pub of_alive : {k : ℕ} → Memᴰ k (alive_below flags n) → Up k
  unfolding alive_below
  of_alive {k} member =
      let h = of_filter (up flags) (up_from 0 n) member in
      let b = up_from_bounds 0 n h.0 in
      (omega arith, true_of_T (up flags k) h.1)

  pub in_alive : {k : ℕ} → Up k → Memᴰ k (alive_below flags n)
  unfolding alive_below
  in_alive u = in_filter (up flags) (up_from 0 n) (in_up_from 0 n (omega arith) (omega (arith, u.0))) (subst T (sym u.1) tt)

  alive_sorted : Sorted ◌<◌ (alive_below flags n)
  unfolding alive_below
  alive_sorted = filter-sorted ◌<◌ (up flags) (up_from 0 n) (up_from-sorted 0 n)

  -- the first, where one is up
  module _ {k first : ℕ} (some : Up k) (e : first ≡ first_of (alive_below flags n)) where
    pub first_is_up : Up first
    first_is_up = of_alive (Memᴰ.cast e (first_of_member (alive_below flags n) (in_alive some)))

    pub none_before : (j : ℕ) → j < first → get_or flags j false ≡ false
    none_before j h = false_of_T_not (up flags j) (not_T (up flags j) (λ t. later (true_of_T (up flags j) t)))
      where
        later : get_or flags j false ≡ true → ⊥
        later u =
            let least = first_least (alive_below flags n) alive_sorted j (in_alive (omega (arith, first_is_up.0), u)) in
            omega (arith, e, least)

-- ---- those that are offered

-- p is candidate k, whose flag is up
pub record OfferedNumber (m : ℕ) (flags : List Bool) (p : ℕ) : Type 0 where
  pub k : ℕ
  pub is_up : Up flags (2 ^ (m - 1)) k
  pub named : 2 ^ m + 2 * k + 1 ≡ p

module _ (m : ℕ) (flags : List Bool) where
  pub offered_number : (p : ℕ) → Memᴰ p (offered_by m flags) → OfferedNumber m flags p
  unfolding offered_by
  offered_number p member =
      let h = Memᴰ.of_map (λ k. 2 ^ m + 2 * k + 1) (alive_below flags (2 ^ (m - 1))) member in
      record { k = h.0; is_up = of_alive flags (2 ^ (m - 1)) h.1; named = h.2 }

  pub offered_member : {k : ℕ} → Up flags (2 ^ (m - 1)) k → Memᴰ (2 ^ m + 2 * k + 1) (offered_by m flags)
  unfolding offered_by
  offered_member u = Memᴰ.map (λ k. 2 ^ m + 2 * k + 1) (in_alive flags (2 ^ (m - 1)) u)

  -- whoever is offered has a flag that is up
  pub some_offered_of : {p : ℕ} → Memᴰ p (offered_by m flags) → (k : ℕ) × (k < 2 ^ (m - 1)) × (get_or flags k false ≡ true)
  some_offered_of {p} member = let h = offered_number p member in (h.k, h.is_up.0, h.is_up.1)

-- all of them
pub all_offered : (m : ℕ) → m ≤ 12 → offered_by m (replicate 2048 true) ≡ candidates m
unfolding offered_by alive_below candidates
all_offered m small =
    ap (map (λ k. 2 ^ m + 2 * k + 1))
    (filter-all (up (replicate 2048 true)) (up_from 0 (2 ^ (m - 1)))
    (λ k member.
    let b = up_from_bounds 0 (2 ^ (m - 1)) member in
    get_or-replicate 2048 k true false (omega (arith, few_candidates m small))))

-- one alone
module _ (k : ℕ) (inside : k < 2048) where
  abbrev alone : List Bool
  alone = set (replicate 2048 false) k true

  alone_up : get_or alone k false ≡ true
  alone_up = get_or-set_same (replicate 2048 false) k true false (omega (arith, length-replicate 2048 false))

  others_down : (j : ℕ) → (j ≡ k → ⊥) → j < 2048 → get_or alone j false ≡ false
  others_down j other h = get_or-set_other (replicate 2048 false) k j true false other ∙ get_or-replicate 2048 j false false h

  alone_alive : (n : ℕ) → n ≤ 2048 → k < n → alive_below alone n ≡ k ∷ []
  alone_alive n few below =
      let parts : n ≡ k + 1 + (n - (k + 1)) = omega arith in
      let from-none : k ≡ 0 + k = omega arith in
      ap (alive_below alone) parts ∙ none_between alone (k + 1) (n - (k + 1)) (λ i a b. others_down i (λ e. omega arith) (omega arith))
      ∙ below_up alone k alone_up
      ∙ ap (λ (l : List ℕ). l ++ (k ∷ []))
      (ap (alive_below alone) from-none ∙ none_between alone 0 k (λ i a b. others_down i (λ e. omega arith) (omega arith)) ∙ none_below alone)

pub one_offered : (m k p : ℕ) → m ≤ 12 → k < 2 ^ (m - 1) → 2 ^ m + 2 * k + 1 ≡ p → offered_by m (set (replicate 2048 false) k true) ≡ p ∷ []
unfolding offered_by
one_offered m k p small below named =
    let few = few_candidates m small in
    ap (map (λ i. 2 ^ m + 2 * i + 1)) (alone_alive k (omega arith) (2 ^ (m - 1)) few below) ∙ ap (λ (q : ℕ). q ∷ []) named
