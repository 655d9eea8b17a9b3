-- What `undetected_count` counts: the nonzero words of weight w that p divides, each once (`undetected_means_divided`). They are among the words that
-- the plain count counts. The list of counts has d - 1 entries, from weight 1 on.
-- Assumes nothing.
use Prim.Native.Nat.{ℕ, ◌+◌, ◌-◌, ◌≤◌, ◌<◌}
use native.Mathlib.Omega.{arith}
use mathlib.Core.Path.{◌≡◌, refl, sym, ap, ◌∙◌, subst}
use mathlib.Core.Logic.{◌↔◌}
use mathlib.Core.List.{List, Memᴰ}
use lib.Dec.{T, eqb, eqb→eq, eqb_refl}
use lib.ListN.{length, get_or}
use Rattle.lists.specs.Lists.{filter, count}
use Rattle.lists.proofs.Tests.{T_and}
use Rattle.lists.proofs.Member.{of_filter, in_filter}
use Rattle.lists.proofs.Lengths.{length-filter_mono, get_or-map-up_from, length-map-up_from}
use Rattle.lists.proofs.Sorted.{Sorted, filter-sorted}
use Rattle.poly.specs.Poly.{remainder, HasDegree}
use Rattle.poly.proofs.Remainder.{divides⇔remainder_zero}
use Rattle.code.specs.Weight.{weight}
use Rattle.order.specs.Order.{Order, of_weight}
use Rattle.paths.specs.Paths.{words, words_of_weight, weights}
use Rattle.paths.proofs.Listed.{mem_words, words-sorted}
use Rattle.undetected.specs.Undetected.{passes, undetected_count, undetected_counts, IsUndetected, CountsUndetected}

abbrev pub undetected_words : Order → ℕ → ℕ → List ℕ
undetected_words o p w = filter (passes o p w) (words o.N)

module _ (o : Order) (p w : ℕ) where
  of_passes : (u : ℕ) → T (passes o p w u) → (weight o u ≡ w) × (remainder o.m p u ≡ 0)
  unfolding passes
  of_passes u t =
      let h = (T_and (eqb (weight o u) w) (eqb (remainder o.m p u) 0)).0 t in
      (eqb→eq (weight o u) w h.0, eqb→eq (remainder o.m p u) 0 h.1)

  in_passes : (u : ℕ) → weight o u ≡ w → remainder o.m p u ≡ 0 → T (passes o p w u)
  unfolding passes
  in_passes u e r =
      let x : ℕ = weight o u in
      let y : ℕ = remainder o.m p u in
      (T_and (eqb x w) (eqb y 0)).1 (subst (λ z. T (eqb x z)) e (eqb_refl x), subst (λ z. T (eqb y z)) r (eqb_refl y))

  pub undetected_words_sorted : Sorted ◌<◌ (undetected_words o p w)
  undetected_words_sorted = filter-sorted ◌<◌ (passes o p w) (words o.N) (words-sorted o.N)

  pub undetected_count_is_length : undetected_count o p w ≡ length (undetected_words o p w)
  unfolding undetected_count count
  undetected_count_is_length = refl

  pub undetected_le_plain : undetected_count o p w ≤ length (words_of_weight o w)
  unfolding undetected_count count words_of_weight passes
  undetected_le_plain =
      length-filter_mono (passes o p w) (λ u. eqb (weight o u) w)
      (λ u t. ((T_and (eqb (weight o u) w) (eqb (remainder o.m p u) 0)).0 t).0) (words o.N)

  -- ---- of a polynomial of the order's degree

  module _ (degree : HasDegree o.m p) where
    of_undetected_words : (u : ℕ) → Memᴰ u (undetected_words o p w) → IsUndetected o p w u
    of_undetected_words u m =
        let h = of_filter (passes o p w) (words o.N) m in
        let word = (mem_words o.N u).0 h.0 in
        let t = of_passes u h.1 in
        record { nonzero = word.0; fits = word.1; weighs = t.0; divided = (divides⇔remainder_zero o.m p u degree).1 t.1 }

    in_undetected_words : (u : ℕ) → IsUndetected o p w u → Memᴰ u (undetected_words o p w)
    in_undetected_words u h =
        in_filter (passes o p w) (words o.N) ((mem_words o.N u).1 (h.nonzero, h.fits))
        (in_passes u h.weighs ((divides⇔remainder_zero o.m p u degree).0 h.divided))

    pub mem_undetected_words : (u : ℕ) → Memᴰ u (undetected_words o p w) ↔ IsUndetected o p w u
    mem_undetected_words u = (of_undetected_words u, in_undetected_words u)

    -- the count is the number of the words that weigh w and that p divides
    pub undetected_means_divided : CountsUndetected o p w (undetected_count o p w)
    undetected_means_divided =
        record { listed = undetected_words o p w; each_once = undetected_words_sorted; just_these = mem_undetected_words; how_many = sym undetected_count_is_length }

-- ---- the counts of one polynomial

module _ (o : Order) where
  pub length-undetected_counts : (p : ℕ) → length (undetected_counts o p) ≡ o.d - 1
  unfolding undetected_counts weights
  length-undetected_counts p = length-map-up_from (undetected_count o p) 1 (o.d - 1)

  -- entry k is of weight k + 1
  pub undetected_count_at : (p k : ℕ) → k < o.d - 1 → get_or (undetected_counts o p) k 0 ≡ undetected_count o p (1 + k)
  unfolding undetected_counts weights
  undetected_count_at p k h = get_or-map-up_from (undetected_count o p) 1 (o.d - 1) k 0 h

-- weight w is entry w - 1
pub undetected_of_weight : (o : Order) (p w : ℕ) → 1 ≤ w → w < o.d → of_weight w (undetected_counts o p) ≡ undetected_count o p w
unfolding of_weight
undetected_of_weight o p w some h =
    let e : 1 + (w - 1) ≡ w = omega arith in
    undetected_count_at o p (w - 1) (omega arith) ∙ ap (undetected_count o p) e
