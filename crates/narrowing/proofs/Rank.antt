-- Narrowing length by length keeps just those whose rank is largest (`narrowed_by_rank`): where low values stay below the base, narrowing by the high values
-- and then by the low ones is narrowing by both as one number (`largest_in_turn`).
-- Assumes nothing.
use Prim.Native.Nat.{ℕ, ◌+◌, ◌*◌, ◌^◌, ◌≤◌, ◌<◌}
use native.Mathlib.Decide.{dec_lt}
use native.Mathlib.Nat.{mul-le-mul_right, pow-succ'}
use native.Mathlib.Omega.{arith}
use mathlib.Core.Path.{◌≡◌, sym, ap, ◌∙◌}
use mathlib.Core.Bool.{Bool, ◌&&◌}
use mathlib.Core.List.{List, [], ◌∷◌, Memᴰ}
use lib.Dec.{T, leb}
use lib.ListN.{length}
use Rattle.lists.specs.Lists.{all}
use Rattle.lists.proofs.Tests.{T_and, same_test, true_of_T}
use Rattle.lists.proofs.Filters.{filter_cong_on, filter-all, filter-filter}
use Rattle.order.specs.Order.{Order, with_length}
use Rattle.undetected.specs.FirstUndetected.{first_undetected}
use Rattle.undetected.proofs.FirstUndetected.{first_at_most}
use Rattle.narrowing.specs.Narrowed.{largest, narrowed}
use Rattle.narrowing.specs.Model.Firsts.{rank}
use Rattle.narrowing.proofs.Narrowed.{Top, of_top, in_top, of_largest, in_largest}

-- ---- numbers of two digits

-- a smaller high digit makes a smaller number
high_less : (B a b x : ℕ) → x < B → a < b → a * B + x < b * B
high_less B a b x small h = omega (arith, mul-le-mul_right B h)

module _ (high low : ℕ → ℕ) (B : ℕ) (small : (p : ℕ) → low p < B) (ps : List ℕ) where
  abbrev both : ℕ → ℕ
  both p = high p * B + low p

  abbrev kept : List ℕ
  kept = largest high ps

  module _ (p : ℕ) where
    -- high digits first: nobody's is larger
    high_top : Top both ps p → Top high ps p
    high_top top q m = elim (dec_lt (high p) (high q)) [
      | yes h ↦ absurd (omega (arith, top q m, high_less B (high p) (high q) (low p) (small p) h))
      | no n ↦ omega arith
    ]

    -- then low digits, of those whose high digit is the same
    low_top : Top both ps p → Memᴰ p ps → Top low kept p
    low_top top member q m =
        let k = of_largest high ps m in
        let same : high q ≡ high p = omega (arith, k.1 p member, high_top top q k.0) in
        omega (arith, top q k.0, ap (λ (x : ℕ). x * B) same)

    both_top : Top high ps p → Top low kept p → Top both ps p
    both_top h l q m = elim (dec_lt (high q) (high p)) [
      | yes less ↦ omega (arith, high_less B (high q) (high p) (low q) (small q) less)
      | no n ↦
          let same : high q ≡ high p = omega (arith, h q m) in
          omega (arith, ap (λ (x : ℕ). x * B) same, l q (in_largest high ps m (λ r j. omega (arith, h r j))))
    ]

    abbrev top_high : Bool
    top_high = all (λ q. leb (high q) (high p)) ps

    abbrev top_low : Bool
    top_low = all (λ q. leb (low q) (low p)) kept

    of_both : Memᴰ p ps → T (all (λ q. leb (both q) (both p)) ps) → T (top_high && top_low)
    of_both member t =
        let top = of_top both ps p t in
        (T_and top_high top_low).1 (in_top high ps p (high_top top), in_top low kept p (low_top top member))

    in_both : T (top_high && top_low) → T (all (λ q. leb (both q) (both p)) ps)
    in_both t =
        let h = (T_and top_high top_low).0 t in
        in_top both ps p (both_top (of_top high ps p h.0) (of_top low kept p h.1))

  pub largest_in_turn : largest both ps ≡ largest low (largest high ps)
  unfolding largest
  largest_in_turn =
      filter_cong_on (λ p. all (λ q. leb (both q) (both p)) ps) _ ps (λ p m. same_test _ _ (of_both p m) (in_both p))
      ∙ sym (filter-filter (λ p. all (λ q. leb (low q) (low p)) kept) (λ p. all (λ q. leb (high q) (high p)) ps) ps)

-- where all values are the same, everybody stays
largest_level : (x : ℕ) (ps : List ℕ) → largest (λ p. x) ps ≡ ps
unfolding largest
largest_level x ps = filter-all (λ p. all (λ q. leb x x) ps) ps (λ p. true_of_T _ (in_top (λ q. x) ps p (λ q m. omega arith)))

-- ---- ranks

module _ (o : Order) (some-d : 1 ≤ o.d) (few : o.d ≤ 64) where
  pub rank_below : (Ns : List ℕ) (p : ℕ) → rank o Ns p < 128 ^ length Ns
  unfolding rank with_length
  rank_below [] p = omega arith
  rank_below (N ∷ Ns) p =
      let B : ℕ = 128 ^ length Ns in
      let most : first_undetected (with_length N o) p ≤ 64 = omega (arith, first_at_most (with_length N o) p some-d) in
      omega (arith, rank_below Ns p, mul-le-mul_right B most, pow-succ' 128 (length Ns))

  pub narrowed_by_rank : (Ns ps : List ℕ) → narrowed o Ns ps ≡ largest (rank o Ns) ps
  unfolding narrowed rank
  narrowed_by_rank [] ps = sym (largest_level 0 ps)
  narrowed_by_rank (N ∷ Ns) ps =
      narrowed_by_rank Ns (largest (first_undetected (with_length N o)) ps)
      ∙ sym (largest_in_turn (first_undetected (with_length N o)) (rank o Ns) (128 ^ length Ns) (rank_below Ns) ps)
