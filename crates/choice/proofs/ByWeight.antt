-- The lists of counts begin with weight 1, and what is said of two of them is said of all weights below d: of weight 0 no polynomial leaves anything
-- undetected. So one polynomial has fewer at the lowest weight where two differ (`LowestFewer`) exactly where it is so weight by weight, from 0 on
-- (`lowest_by_weight`).
-- Assumes nothing.
use Prim.Native.Nat.{ℕ, zero, suc, ◌+◌, ◌-◌, ◌≤◌, ◌<◌}
use native.Mathlib.Omega.{arith}
use mathlib.Core.Path.{◌≡◌, sym, ap, ◌∙◌, subst}
use mathlib.Core.Logic.{◌↔◌}
use mathlib.Core.List.{◌∷◌, map}
use lib.ListN.{length, get_or}
use Rattle.lists.specs.Lists.{up_from}
use Rattle.order.specs.Order.{Order}
use Rattle.order.specs.Model.Accepted.{AcceptedCode}
use Rattle.paths.specs.Paths.{weights}
use Rattle.paths.proofs.FromOne.{none_of_weight_0}
use Rattle.undetected.specs.Undetected.{undetected_count, undetected_counts}
use Rattle.undetected.proofs.Undetected.{undetected_le_plain, undetected_count_at}
use Rattle.choice.specs.Best.{LowestFewer}

module _ (o : Order) (acc : AcceptedCode o) where
  pub none_undetected : (p : ℕ) → undetected_count o p 0 ≡ 0
  none_undetected p = let few = undetected_le_plain o p 0 in let none = ap length (none_of_weight_0 o acc) in omega arith

  -- the counts of all weights below d are the list with a 0 before it
  pub undetected_from_0 : 1 ≤ o.d → (p : ℕ) → map (undetected_count o p) (up_from 0 o.d) ≡ 0 ∷ undetected_counts o p
  unfolding undetected_counts weights up_from
  undetected_from_0 some p =
      ap (λ (d : ℕ). map (undetected_count o p) (up_from 0 d)) one_more
      ∙ ap (λ (x : ℕ). x ∷ map (undetected_count o p) (up_from 1 (o.d - 1))) (none_undetected p)
    where
      one_more : o.d ≡ suc (o.d - 1)
      one_more = omega arith

  module _ (p q : ℕ) where
    -- the lowest weight below d where the two differ, and p has fewer there
    abbrev pub FewerByWeight : Type 0
    FewerByWeight =
        (w : ℕ) × (w < o.d) × ((k : ℕ) → k < w → undetected_count o p k ≡ undetected_count o q k) × (undetected_count o p w < undetected_count o q w)

    of_weight_lem : FewerByWeight → LowestFewer o p q
    of_weight_lem (zero, inside, below, less) = absurd (let none = none_undetected q in omega arith)
    of_weight_lem (suc k, inside, below, less) =
        let e : 1 + k ≡ suc k = omega arith in
        let mine = undetected_count_at o p k (omega arith) ∙ ap (undetected_count o p) e in
        let other = undetected_count_at o q k (omega arith) ∙ ap (undetected_count o q) e in
        (k, omega arith, agree, omega arith)
      where
        agree : (j : ℕ) → j < k → get_or (undetected_counts o p) j 0 ≡ get_or (undetected_counts o q) j 0
        agree j h = undetected_count_at o p j (omega arith) ∙ below (1 + j) (omega arith) ∙ sym (undetected_count_at o q j (omega arith))

    by_weight : LowestFewer o p q → FewerByWeight
    by_weight (k, inside, below, less) =
        let mine = undetected_count_at o p k inside in
        let other = undetected_count_at o q k inside in
        (1 + k, omega arith, agree, omega arith)
      where
        agree : (j : ℕ) → j < 1 + k → undetected_count o p j ≡ undetected_count o q j
        agree zero h = none_undetected p ∙ sym (none_undetected q)
        agree (suc j) h =
            let e : 1 + j ≡ suc j = omega arith in
            subst (λ (x : ℕ). undetected_count o p x ≡ undetected_count o q x) e
            (sym (undetected_count_at o p j (omega arith)) ∙ below j (omega arith) ∙ undetected_count_at o q j (omega arith))

    pub lowest_by_weight : LowestFewer o p q ↔ FewerByWeight
    lowest_by_weight = (by_weight, of_weight_lem)
