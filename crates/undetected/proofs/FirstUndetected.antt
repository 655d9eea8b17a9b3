-- What a first undetected weight is: no lighter word is undetected, and one of this weight is, or it is d (`first-weight`).
-- Assumes nothing.
use Prim.Native.Nat.{ℕ, zero, suc, ◌+◌, ◌-◌, ◌≤◌, ◌<◌}
use native.Mathlib.Decide.{ℕ_discrete}
use native.Mathlib.Omega.{arith}
use mathlib.Core.Path.{◌≡◌, refl, sym, ap, ◌∙◌, subst}
use mathlib.Core.Bool.{Bool, true, false, cond}
use mathlib.Core.Logic.{inl, inr}
use mathlib.Core.List.{List, [], ◌∷◌}
use lib.Dec.{eqb}
use lib.ListN.{length, get_or}
use borrow.Author.Tests.{eq-eqb, ne_eqb}
use Rattle.poly.specs.Poly.{HasDegree}
use Rattle.order.specs.Order.{Order, of_weight}
use Rattle.undetected.specs.Undetected.{undetected_count, undetected_counts, CountsUndetected}
use Rattle.undetected.specs.FirstUndetected.{first_above0, first_undetected, FirstWeight}
use Rattle.undetected.proofs.Undetected.{undetected_means_divided, length-undetected_counts, undetected_of_weight}

-- ---- of any counts, from weight w on

pub first_from : (w : ℕ) (a : List ℕ) → w ≤ first_above0 w a
unfolding first_above0
first_from w [] = omega arith
first_from w (c ∷ cs) = by (eqb c 0) (first_from (suc w) cs)
  where
    by : (b : Bool) → suc w ≤ first_above0 (suc w) cs → w ≤ cond b (first_above0 (suc w) cs) w
    by true h = omega arith
    by false h = omega arith

pub first_zero : (w c : ℕ) (cs : List ℕ) → c ≡ 0 → first_above0 w (c ∷ cs) ≡ first_above0 (suc w) cs
unfolding first_above0
first_zero w c cs e = ap (λ (b : Bool). cond b (first_above0 (suc w) cs) w) (eq-eqb c 0 e)

pub first_some : (w c : ℕ) (cs : List ℕ) → (c ≡ 0 → ⊥) → first_above0 w (c ∷ cs) ≡ w
unfolding first_above0
first_some w c cs n = ap (λ (b : Bool). cond b (first_above0 (suc w) cs) w) (ne_eqb c 0 n)

-- entries before the first are 0, and it is not, or there is none
record At (w : ℕ) (cs : List ℕ) (f : ℕ) : Type 0 where
  from : w ≤ f
  at_most : f ≤ w + length cs
  zeros : (j : ℕ) → j + w < f → get_or cs j 0 ≡ 0
  some : f < w + length cs → get_or cs (f - w) 0 ≡ 0 → ⊥

first_at : (w : ℕ) (cs : List ℕ) → At w cs (first_above0 w cs)
unfolding first_above0
first_at w [] = record { from = omega arith; at_most = omega arith; zeros = λ j h. refl; some = λ h _. omega arith }
first_at w (c ∷ cs) = elim (ℕ_discrete c 0) [
  | yes z ↦
      let r = first_at (suc w) cs in
      let low = r.from in
      subst (At w (c ∷ cs)) (sym (first_zero w c cs z)) (record {
        from = omega arith;
        at_most = omega (arith, r.at_most);
        zeros = λ j h. none j h z r.zeros;
        some = λ h n. r.some (omega arith) (shift (first_above0 (suc w) cs) low n);
      })
  | no n ↦
      subst (At w (c ∷ cs)) (sym (first_some w c cs n)) (record {
        from = omega arith;
        at_most = omega arith;
        zeros = λ j h. absurd (omega arith);
        some = λ h z. n (subst (λ (k : ℕ). get_or (c ∷ cs) k 0 ≡ 0) (itself w) z);
      })
]
  where
    itself : (x : ℕ) → x - x ≡ 0
    itself x = omega arith

    none : (j : ℕ) {f : ℕ} → j + w < f → c ≡ 0 → ((i : ℕ) → i + suc w < f → get_or cs i 0 ≡ 0) → get_or (c ∷ cs) j 0 ≡ 0
    none zero h z r = z
    none (suc i) h z r = r i (omega arith)

    shift : (f : ℕ) → suc w ≤ f → get_or (c ∷ cs) (f - w) 0 ≡ 0 → get_or cs (f - suc w) 0 ≡ 0
    shift f l z = let e : f - w ≡ suc (f - suc w) = omega arith in subst (λ (k : ℕ). get_or (c ∷ cs) k 0 ≡ 0) e z

pub first_to : (w : ℕ) (cs : List ℕ) → first_above0 w cs ≤ w + length cs
first_to w cs = (first_at w cs).at_most

-- ---- of an order

pub first_at_most : (o : Order) (p : ℕ) → 1 ≤ o.d → first_undetected o p ≤ o.d
unfolding first_undetected
first_at_most o p some-d = omega (arith, first_to 1 (undetected_counts o p), length-undetected_counts o p)

pub first-weight : (o : Order) (p : ℕ) → HasDegree o.m p → 1 ≤ o.d → FirstWeight o p (first_undetected o p)
unfolding first_undetected of_weight
first-weight o p degree some-d =
    let a = first_at 1 (undetected_counts o p) in
    let n = length-undetected_counts o p in
    let low = a.from in
    let high = a.at_most in
    let means : (x : ℕ) → CountsUndetected o p x (undetected_count o p x) = λ x. undetected_means_divided o p x degree in
    let w : ℕ = first_above0 1 (undetected_counts o p) in
    record {
      none_lighter = λ x l h. subst (CountsUndetected o p x) (sym (undetected_of_weight o p x l (omega arith)) ∙ a.zeros (x - 1) (omega arith)) (means x);
      some_or_d = elim (ℕ_discrete w o.d) [
        | yes e ↦ inl e
        | no k ↦
            let below : w < o.d = omega arith in
            let counted = undetected_of_weight o p w low below in
            let one : 1 ≤ undetected_count o p w =
            elim (ℕ_discrete (undetected_count o p w) 0) [ yes z ↦ absurd (a.some (omega arith) (counted ∙ z)) | no y ↦ omega arith ] in
            inr (below, (undetected_count o p w, one, means w))
      ];
    }
