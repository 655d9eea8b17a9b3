-- Lists without repeats: sorted by being different. Two such lists with the same members are equally long.
-- Assumes nothing.
use Prim.Native.Nat.{ℕ, suc, ◌≤◌, ◌<◌}
use native.Mathlib.Omega.{arith}
use mathlib.Core.Path.{◌≡◌, refl, sym, ap, ◌∙◌}
use mathlib.Core.Logic.{◌≢◌, ⊎_elim}
use mathlib.Core.List.Memᴰ
use mathlib.Core.List.{List, [], ◌∷◌, map, Memᴰ}
use lib.ListN.{length}
use Rattle.lists.proofs.Sorted.{Sorted, Within}

-- no member stands twice
abbrev pub Distinct : {A : Type 0} → List A → Type 0
Distinct = Sorted (λ x y. x ≢ y)

-- a list in one order is in every weaker one
pub sorted_weaken : {A : Type 0} (R S : A → A → Type 0) → ((x y : A) → R x y → S x y) → (xs : List A) → Sorted R xs → Sorted S xs
sorted_weaken R S h [] s = tt
sorted_weaken R S h (x ∷ xs) s = (λ y m. h x y (s.0 y m), sorted_weaken R S h xs s.1)

pub increasing_distinct : (xs : List ℕ) → Sorted ◌<◌ xs → Distinct xs
increasing_distinct = sorted_weaken ◌<◌ (λ x y. x ≢ y) (λ x y h e. omega arith)

module _ {A : Type 0} where
  -- the image of a list without repeats, where no two members have the same image
  pub map_distinct_on : {B : Type 0} (f : A → B) (xs : List A) → Distinct xs
      → ((x y : A) → Memᴰ x xs → Memᴰ y xs → f x ≡ f y → x ≡ y) → Distinct (map f xs)
  map_distinct_on f [] s once = tt
  map_distinct_on f (x ∷ xs) s once =
      let rest = map_distinct_on f xs s.1 (λ y z m n. once y z (Memᴰ.tail m) (Memᴰ.tail n)) in
      (λ y m e. let h = Memᴰ.of_map f xs m in s.0 h.0 h.1 (once x h.0 (Memᴰ.head refl) (Memᴰ.tail h.1) (e ∙ sym h.2)), rest)

  -- the list with one member taken out
  record Without (x : A) (k : List A) : Type 0 where
    rest : List A
    shorter : length k ≡ suc (length rest)
    others : (y : A) → Memᴰ y k → y ≢ x → Memᴰ y rest

  without : {x : A} (k : List A) → Memᴰ x k → Without x k
  without [] m = absurd (Memᴰ.not-nil m)
  without {x} (z ∷ zs) m = ⊎_elim here (λ r. later (without zs r)) (Memᴰ.cases_cons m)
    where
      here : x ≡ z → Without x (z ∷ zs)
      here e = record { rest = zs; shorter = refl; others = λ y m n. ⊎_elim (λ d. absurd (n (d ∙ sym e))) (λ r. r) (Memᴰ.cases_cons m) }

      later : Without x zs → Without x (z ∷ zs)
      later w =
          let others : (y : A) → Memᴰ y (z ∷ zs) → y ≢ x → Memᴰ y (z ∷ w.rest) =
          λ y m n. ⊎_elim (λ d. Memᴰ.head d) (λ r. Memᴰ.tail (w.others y r n)) (Memᴰ.cases_cons m) in
          record { rest = z ∷ w.rest; shorter = ap suc w.shorter; others = others }

  -- without repeats, and all members in k: no longer than k
  pub distinct_length_le : (l k : List A) → Distinct l → Within l k → length l ≤ length k
  distinct_length_le [] k s w = omega arith
  distinct_length_le (x ∷ xs) k s w =
      let taken = without k (w x (Memᴰ.head refl)) in
      let below = distinct_length_le xs taken.rest s.1 (λ y m. taken.others y (w y (Memᴰ.tail m)) (λ e. s.0 y m (sym e))) in
      omega (arith, taken.shorter)

  pub distinct_same_length : (l k : List A) → Distinct l → Distinct k → Within l k → Within k l → length l ≡ length k
  distinct_same_length l k s t w u =
      let below = distinct_length_le l k s w in
      let above = distinct_length_le k l t u in
      omega arith
