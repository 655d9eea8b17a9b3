-- A list, read place by place: what stands at a place is a member, each member stands at a place, and a list in order is in order by place.
-- Assumes nothing.
use Prim.Native.Nat.{ℕ, zero, suc, ◌+◌, ◌≤◌, ◌<◌}
use native.Mathlib.Nat.{le_of_suc-le-suc, not-suc-le-zero}
use native.Mathlib.Omega.{arith}
use mathlib.Core.Path.{◌≡◌, refl, sym, subst}
use mathlib.Core.Logic.{⊎_elim}
use mathlib.Core.List.{List, [], ◌∷◌, map, Memᴰ}
use lib.ListN.{length, get_or}
use Rattle.lists.specs.Lists.{up_from}
use Rattle.lists.proofs.Member.{up_from_bounds}
use Rattle.lists.proofs.Sorted.{Sorted}

module _ {A : Type 0} (d : A) where
  pub get_or_in : (xs : List A) (k : ℕ) → k < length xs → Memᴰ (get_or xs k d) xs
  get_or_in [] k h = absurd (not-suc-le-zero h)
  get_or_in (x ∷ xs) zero h = mathlib.Core.List.Memᴰ.head refl
  get_or_in (x ∷ xs) (suc k) h = mathlib.Core.List.Memᴰ.tail (get_or_in xs k (le_of_suc-le-suc h))

  -- a place of a member
  pub record PlaceOf (xs : List A) (x : A) : Type 0 where
    pub place : ℕ
    pub inside : place < length xs
    pub is : get_or xs place d ≡ x

  pub place_of : (xs : List A) {x : A} → Memᴰ x xs → PlaceOf xs x
  place_of [] m = absurd (mathlib.Core.List.Memᴰ.not-nil m)
  place_of (y ∷ ys) {x} m =
      ⊎_elim (λ (e : x ≡ y). record { place = zero; inside = first (length ys); is = sym e })
      (λ (m' : Memᴰ x ys). let r = place_of ys m' in let h = r.inside in
      record { place = suc r.place; inside = omega arith; is = r.is }) (mathlib.Core.List.Memᴰ.cases_cons m)
    where
      first : (n : ℕ) → 0 < suc n
      first n = omega arith

  pub sorted_at : (R : A → A → Type 0) (xs : List A) → Sorted R xs → (k l : ℕ) → k < l
      → l < length xs → R (get_or xs k d) (get_or xs l d)
  sorted_at R [] s k l h g = absurd (not-suc-le-zero g)
  sorted_at R (x ∷ xs) s k zero h g = absurd (not-suc-le-zero h)
  sorted_at R (x ∷ xs) s zero (suc l) h g = s.0 (get_or xs l d) (get_or_in xs l (le_of_suc-le-suc g))
  sorted_at R (x ∷ xs) s (suc k) (suc l) h g = sorted_at R xs s.1 k l (le_of_suc-le-suc h) (le_of_suc-le-suc g)

-- what stands at the places of a range, one after another
pub range_sorted : {A : Type 0} (R : A → A → Type 0) (f : ℕ → A) (from n : ℕ)
    → ((k l : ℕ) → from ≤ k → k < l → l < from + n → R (f k) (f l)) → Sorted R (map f (up_from from n))
unfolding up_from
range_sorted R f from zero ordered = tt
range_sorted R f from (suc n) ordered = (
  λ y m.
      let h = mathlib.Core.List.Memᴰ.of_map f (up_from (suc from) n) m in
      let b = up_from_bounds (suc from) n h.1 in
      subst (R (f from)) h.2 (ordered from h.0 (omega arith) (omega arith) (omega arith)),
  range_sorted R f (suc from) n (λ k l h g i. ordered k l (omega arith) g (omega arith)),
)
