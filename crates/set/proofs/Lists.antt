-- Falling lists of lengths: what tells them, and what passing question 17 says of each length.
-- Assumes nothing.
use Prim.Native.Nat.{ℕ, zero, suc, ◌≤◌, ◌<◌}
use native.Mathlib.Omega.{arith}
use native.Mathlib.Numerals.{add-one}
use mathlib.Core.Path.{◌≡◌, refl, sym, ap, ap₂, ◌∙◌}
use mathlib.Core.Bool.{Bool, true, false, ◌&&◌}
use mathlib.Core.List.{List, [], ◌∷◌}
use borrow.Author.Tests.{ltb-true}
use lib.Dec.{ltb}
use lib.ListN.{length, get_or}
use Rattle.std.specs.List.{IsAllAdjacentAnswer}
use Rattle.lists.proofs.Tests.{both}
use Rattle.set.specs.Calls.{all_below, falling}

-- ---- each below the one before, as `is_sorted_by` says it

falls : (N : ℕ) (Ns : List ℕ) → ((k : ℕ) → suc k < length (N ∷ Ns) → true ≡ ltb (get_or Ns k 0) (get_or (N ∷ Ns) k 0)) → all_below N Ns ≡ true
unfolding all_below
falls N [] h = refl
falls N (M ∷ Ns) h = ap₂ ◌&&◌ (sym (h 0 (omega arith))) (falls M Ns (λ k l. h (suc k) (omega arith)))

rises : (N : ℕ) (Ns : List ℕ) (k : ℕ) → suc k < length (N ∷ Ns) → false ≡ ltb (get_or Ns k 0) (get_or (N ∷ Ns) k 0) → all_below N Ns ≡ false
unfolding all_below
rises N [] k h e = absurd (omega arith)
rises N (M ∷ Ns) zero h e = ap (λ (b : Bool). b && all_below M Ns) (sym e)
rises N (M ∷ Ns) (suc k) h e = ap (λ (b : Bool). ltb M N && b) (rises M Ns k (omega arith) e) ∙ none (ltb M N)
  where
    none : (b : Bool) → (b && false) ≡ false
    none true = refl
    none false = refl

pub is_falling : (l : List ℕ) (r : Bool) → IsAllAdjacentAnswer (λ (x y : ℕ) (b : Bool). b ≡ ltb y x) l r → r ≡ falling l
unfolding falling
is_falling [] true h = refl
is_falling [] false h = absurd (omega (arith, h.1))
is_falling (N ∷ Ns) true h = sym (falls N Ns (λ k l. rw add-one at (h k 0 (omega arith))))
is_falling (N ∷ Ns) false h = sym (rises N Ns h.0 (omega (arith, h.1)) (rw add-one at (h.2 0)))

-- ---- what a falling list is

pub below-first : (N : ℕ) (Ns : List ℕ) → all_below N Ns ≡ true → (i : ℕ) → i < length Ns → get_or Ns i 0 < N
unfolding all_below
below-first N [] e i h = absurd (omega arith)
below-first N (M ∷ Ns) e zero h = ltb-true M N (both (ltb M N) (all_below M Ns) e).0
below-first N (M ∷ Ns) e (suc i) h =
    let parts = both (ltb M N) (all_below M Ns) e in
    let less = ltb-true M N parts.0 in
    let later = below-first M Ns parts.1 i (omega arith) in
    omega arith

-- no length is above the first
pub at_most_first : (l : List ℕ) → falling l ≡ true → (i : ℕ) → i < length l → get_or l i 0 ≤ get_or l 0 0
unfolding falling
at_most_first [] e i h = absurd (omega arith)
at_most_first (N ∷ Ns) e zero h = omega arith
at_most_first (N ∷ Ns) e (suc i) h = let less = below-first N Ns e i (omega arith) in omega arith
