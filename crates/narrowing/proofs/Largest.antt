-- The largest of the first n ranks, place by place; and that those who reach it are those than whom nobody's is larger.
-- Assumes nothing.
use Prim.Native.Nat.{ℕ, zero, suc, ◌+◌, ◌≤◌, ◌<◌, max}
use native.Mathlib.Numerals.{add-one}
use native.Mathlib.Decide.{dec_lt}
use native.Mathlib.Omega.{arith}
use mathlib.Core.Path.{◌≡◌, refl, sym, ap, ◌∙◌, subst}
use mathlib.Core.Bool.{Bool}
use mathlib.Core.Logic.{inl, inr, ⊎_elim}
use mathlib.Core.List.{List, [], ◌∷◌}
use lib.Dec.{T, leb, leb→le, le→leb}
use lib.ListN.{length, get_or, take}
use Rattle.std.specs.List.{fold, reduce}
use Rattle.std.specs.Option.{option_map, unwrap_or}
use lib.Seq.{length-take-le}
use Rattle.std.proofs.Common.{Option, get_or-take, take_all}
use Rattle.std.proofs.lemmas.List.Sums.{fold_more}
use Rattle.std.proofs.lemmas.Iterator.Adapters.{option_map_id}
use Rattle.lists.specs.Lists.{up_from, all}
use Rattle.lists.proofs.Tests.{same_test}
use Rattle.lists.proofs.Member.{up_from_bounds, in_up_from, of_all, in_all}
use Rattle.narrowing.specs.Model.Firsts.{LargestBelow}

from-zero : (xs : List ℕ) → unwrap_or (reduce max xs) 0 ≡ fold max 0 xs
from-zero [] = refl
from-zero (x ∷ xs) = let e : x ≡ max 0 x = omega arith in ap (λ (i : ℕ). fold max i xs) e

module _ (ranks : List ℕ) where
  largest_none : LargestBelow ranks 0 0
  largest_none = record { none_larger = λ k h. absurd (omega arith); reached = inl refl }

  module _ {k r : ℕ} (so_far : LargestBelow ranks k r) where
    at_most : (x : ℕ) → r ≤ x → get_or ranks k 0 ≤ x → (j : ℕ) → j < k + 1 → get_or ranks j 0 ≤ x
    at_most x above h j l = elim (dec_lt j k) [
      | yes before ↦ omega (arith, so_far.none_larger j before)
      | no n ↦ let same : j ≡ k = omega arith in omega (arith, ap (λ (i : ℕ). get_or ranks i 0) same)
    ]

    largest_risen : r < get_or ranks k 0 → LargestBelow ranks (k + 1) (get_or ranks k 0)
    largest_risen more = record { none_larger = at_most (get_or ranks k 0) (omega arith) (omega arith); reached = inr (k, omega arith, refl) }

    largest_same : get_or ranks k 0 ≤ r → LargestBelow ranks (k + 1) r
    largest_same h = record {
      none_larger = at_most r (omega arith) h;
      reached = ⊎_elim inl (λ c. inr (c.0, omega (arith, c.1), c.2)) so_far.reached;
    }

  -- the first n folded into one
  largest-fold : (n : ℕ) → n ≤ length ranks → LargestBelow ranks n (fold max 0 (take n ranks))
  largest-fold zero h = largest_none
  largest-fold (suc k) h =
      let so_far = largest-fold k (omega arith) in
      let r : ℕ = fold max 0 (take k ranks) in
      let x : ℕ = get_or ranks k 0 in
      let more : fold max 0 (take (suc k) ranks) ≡ max r x =
      ap (λ (i : ℕ). fold max 0 (take i ranks)) (sym (add-one k)) ∙ fold_more max 0 ranks k 0 (omega arith) in
      let risen : LargestBelow ranks (k + 1) (max r x) = elim (dec_lt r x) [
        | yes l ↦ let e : max r x ≡ x = omega arith in subst (LargestBelow ranks (k + 1)) (sym e) (largest_risen so_far l)
        | no g ↦ let e : max r x ≡ r = omega arith in subst (LargestBelow ranks (k + 1)) (sym e) (largest_same so_far (omega arith))
      ] in
      subst (λ (i : ℕ). LargestBelow ranks i (fold max 0 (take (suc k) ranks))) (add-one k) (subst (LargestBelow ranks (k + 1)) (sym more) risen)

  pub largest_of : {r : ℕ} (o : Option ℕ) → option_map (λ x. x) o ≡ reduce max ranks → r ≡ unwrap_or o 0 → LargestBelow ranks (length ranks) r
  largest_of o e is =
      let all = ap (fold max 0) (take_all (length ranks) ranks (omega arith)) in
      let found = is ∙ ap (λ (q : Option ℕ). unwrap_or q 0) (sym (option_map_id o) ∙ e) ∙ from-zero ranks in
      subst (LargestBelow ranks (length ranks)) (sym (found ∙ sym all)) (largest-fold (length ranks) (omega arith))

  -- of a part that begins the list
  pub largest_of_part : {n r : ℕ} → n ≤ length ranks → LargestBelow (take n ranks) (length (take n ranks)) r → LargestBelow ranks n r
  largest_of_part {n} inside part =
      let long = length-take-le n ranks inside in record {
        none_larger = λ k h. omega (arith, get_or-take n ranks k 0 h, part.none_larger k (omega arith));
        reached =
            ⊎_elim inl (λ c. let h : c.0 < n = omega (arith, c.1) in inr (c.0, h, omega (arith, get_or-take n ranks c.0 0 h, c.2))) part.reached;
      }

  module _ {n r : ℕ} (top : LargestBelow ranks n r) (k : ℕ) where
    abbrev mine : ℕ
    mine = get_or ranks k 0

    abbrev not_above : ℕ → Bool
    not_above j = leb (get_or ranks j 0) mine

    none_above : T (leb r mine) → T (all not_above (up_from 0 n))
    none_above t =
        in_all not_above (up_from 0 n)
        (λ j m. le→leb (get_or ranks j 0) mine (omega (arith, leb→le r mine t, top.none_larger j (omega (arith, (up_from_bounds 0 n m).1)))))

    reaches : T (all not_above (up_from 0 n)) → (j : ℕ) → j < n → get_or ranks j 0 ≡ r → T (leb r mine)
    reaches t j h e =
        let below = of_all not_above (up_from 0 n) t j (in_up_from 0 n (omega arith) (omega arith)) in
        le→leb r mine (omega (arith, leb→le (get_or ranks j 0) mine below))

    pub largest-all : leb r mine ≡ all not_above (up_from 0 n)
    largest-all =
        same_test _ _ none_above (λ t. ⊎_elim (λ none. le→leb r mine (omega arith)) (λ c. reaches t c.0 c.1 c.2) top.reached)
