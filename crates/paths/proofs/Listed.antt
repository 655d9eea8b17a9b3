-- The list of paths is all of them, each once, by weight and number: its members are the nonzero words of N bits of weight below the threshold
-- (`mem_paths`), and it is the one list in that order that has these members (`paths_unique`). The plain counts are the lengths of its parts.
-- Assumes nothing.
use Prim.Native.Nat.{ℕ, ◌+◌, ◌-◌, ◌≤◌, ◌<◌, ◌^◌}
use native.Mathlib.Omega.{arith}
use mathlib.Core.Path.{◌≡◌, refl, sym, ap, ◌∙◌, subst}
use mathlib.Core.Logic.{◌↔◌}
use mathlib.Core.List.{List, map, Memᴰ}
use lib.Dec.{T, eqb, eqb→eq, eqb_refl}
use lib.ListN.{length, get_or}
use Rattle.lists.specs.Lists.{up_from, count}
use Rattle.lists.proofs.Member.{up_from_bounds, in_up_from, of_filter, in_filter, of_flat_map, in_flat_map}
use Rattle.lists.proofs.Lengths.{get_or-map-up_from, length-map-up_from}
use Rattle.lists.proofs.Sorted.{Sorted, sorted_known, up_from-sorted, filter-sorted}
use Rattle.lists.proofs.Keys.{By, ByThen, by_asymmetric, by_then_asymmetric, blocks_sorted}
use Rattle.code.specs.Weight.{weight}
use Rattle.order.specs.Order.{Order}
use Rattle.paths.specs.Paths.{words, words_of_weight, paths, weights, plain_counts}

-- u is a nonzero word of N bits that weighs less than d
pub record IsPath (o : Order) (u : ℕ) : Type 0 where
  pub nonzero : 1 ≤ u
  pub fits : u < 2 ^ o.N
  pub below : weight o u < o.d

-- by weight, then number
abbrev pub Before : Order → ℕ → ℕ → Type 0
Before o = ByThen (weight o) (By (λ u. u))

-- ---- the members

pub mem_words : (N u : ℕ) → Memᴰ u (words N) ↔ ((1 ≤ u) × (u < 2 ^ N))
unfolding words
mem_words N u =
    (λ m. let b = up_from_bounds 1 (2 ^ N - 1) m in (b.0, omega arith), λ h. in_up_from 1 (2 ^ N - 1) h.0 (omega arith))

pub words-sorted : (N : ℕ) → Sorted ◌<◌ (words N)
unfolding words
words-sorted N = up_from-sorted 1 (2 ^ N - 1)

module _ (o : Order) where
  pub of_words_of_weight : (w u : ℕ) → Memᴰ u (words_of_weight o w) → Memᴰ u (words o.N) × (weight o u ≡ w)
  unfolding words_of_weight
  of_words_of_weight w u m =
      let h = of_filter (λ x. eqb (weight o x) w) (words o.N) m in
      (h.0, eqb→eq (weight o u) w h.1)

  pub in_words_of_weight : (w u : ℕ) → Memᴰ u (words o.N) → weight o u ≡ w → Memᴰ u (words_of_weight o w)
  unfolding words_of_weight
  in_words_of_weight w u m e =
      let t = subst (λ x. T (eqb (weight o u) x)) e (eqb_refl (weight o u)) in
      in_filter (λ x. eqb (weight o x) w) (words o.N) m t

  pub mem_words_of_weight : (w u : ℕ) → Memᴰ u (words_of_weight o w) ↔ (Memᴰ u (words o.N) × (weight o u ≡ w))
  mem_words_of_weight w u = (of_words_of_weight w u, λ h. in_words_of_weight w u h.0 h.1)

  pub of_paths : (u : ℕ) → Memᴰ u (paths o) → IsPath o u
  unfolding paths
  of_paths u m =
      let b = of_flat_map (words_of_weight o) (up_from 0 o.d) m in
      let light = (up_from_bounds 0 o.d b.1).1 in
      let h = of_words_of_weight b.0 u b.2 in
      let word = (mem_words o.N u).0 h.0 in
      record { nonzero = word.0; fits = word.1; below = subst (λ w. w < o.d) (sym h.1) (omega arith) }

  pub in_paths : (u : ℕ) → IsPath o u → Memᴰ u (paths o)
  unfolding paths
  in_paths u h =
      let w : ℕ = weight o u in
      let word : Memᴰ u (words o.N) = (mem_words o.N u).1 (h.nonzero, h.fits) in
      let light = h.below in
      in_flat_map (words_of_weight o) (up_from 0 o.d) (in_up_from 0 o.d (omega arith) (omega arith)) (in_words_of_weight w u word refl)

  pub mem_paths : (u : ℕ) → Memᴰ u (paths o) ↔ IsPath o u
  mem_paths u = (of_paths u, in_paths u)

  -- ---- the order

  pub words_of_weight-sorted : (w : ℕ) → Sorted ◌<◌ (words_of_weight o w)
  unfolding words_of_weight
  words_of_weight-sorted w = filter-sorted ◌<◌ (λ u. eqb (weight o u) w) (words o.N) (words-sorted o.N)

  pub paths-sorted : Sorted (Before o) (paths o)
  unfolding paths
  paths-sorted =
      blocks_sorted (weight o) (By (λ u. u)) (words_of_weight o) (λ w u m. (of_words_of_weight w u m).1) words_of_weight-sorted (up_from 0 o.d)
      (up_from-sorted 0 o.d)

  pub before_asymmetric : (u u' : ℕ) → Before o u u' → Before o u' u → ⊥
  before_asymmetric = by_then_asymmetric (weight o) (By (λ u. u)) (by_asymmetric (λ u. u))

  -- a list in that order with these members is the list of paths
  pub paths_unique : (l : List ℕ) → Sorted (Before o) l → ((u : ℕ) → Memᴰ u l ↔ IsPath o u) → l ≡ paths o
  paths_unique l s known = sorted_known (Before o) before_asymmetric (IsPath o) l (paths o) s paths-sorted known mem_paths

  -- ---- the plain counts

  pub plain_count_is_part : plain_counts o ≡ map (λ w. length (words_of_weight o w)) (weights o)
  unfolding plain_counts count words_of_weight
  plain_count_is_part = refl

  pub length-plain_counts : length (plain_counts o) ≡ o.d - 1
  unfolding plain_counts weights
  length-plain_counts = length-map-up_from (λ w. count (λ u. eqb (weight o u) w) (words o.N)) 1 (o.d - 1)

  -- entry k is of weight k + 1
  pub plain_count_at : (k : ℕ) → k < o.d - 1 → get_or (plain_counts o) k 0 ≡ length (words_of_weight o (1 + k))
  unfolding weights
  plain_count_at k h = ap (λ l. get_or l k 0) plain_count_is_part ∙ get_or-map-up_from (λ w. length (words_of_weight o w)) 1 (o.d - 1) k 0 h
