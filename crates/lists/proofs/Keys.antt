-- Order by a number that each member has, and among equals by a second order. Blocks that follow one another by that number, each in the second
-- order, make a list in the order of both.
-- Assumes nothing.
use Prim.Native.Nat.{ℕ, ◌<◌}
use native.Mathlib.Omega.{arith}
use mathlib.Core.Path.{◌≡◌, refl, sym, ◌∙◌}
use mathlib.Core.Logic.{◌⊎◌, inl, inr}
use mathlib.Core.List.{List, [], ◌∷◌, flat_map, Memᴰ}
use Rattle.lists.proofs.Sorted.{Sorted, flat_map_sorted}

-- by the number k
abbrev pub By : {A : Type 0} → (A → ℕ) → A → A → Type 0
By k x y = k x < k y

-- by the number k, then by S
abbrev pub ByThen : {A : Type 0} → (A → ℕ) → (A → A → Type 0) → A → A → Type 0
ByThen k S x y = (k x < k y) ⊎ ((k x ≡ k y) × S x y)

module _ {A : Type 0} (k : A → ℕ) where
  pub by_asymmetric : (x y : A) → By k x y → By k y x → ⊥
  by_asymmetric x y h g = omega arith

  module _ (S : A → A → Type 0) where
    pub by_then_asymmetric : ((x y : A) → S x y → S y x → ⊥) → (x y : A) → ByThen k S x y → ByThen k S y x → ⊥
    by_then_asymmetric s x y (inl h) (inl g) = omega arith
    by_then_asymmetric s x y (inl h) (inr g) = omega arith
    by_then_asymmetric s x y (inr h) (inl g) = omega arith
    by_then_asymmetric s x y (inr h) (inr g) = s x y h.1 g.1

    -- a block: all members have the same number
    block_sorted : (i : ℕ) (l : List A) → ((x : A) → Memᴰ x l → k x ≡ i) → Sorted S l → Sorted (ByThen k S) l
    block_sorted i [] same s = tt
    block_sorted i (x ∷ xs) same s =
        let rest = block_sorted i xs (λ y m. same y (Memᴰ.tail m)) s.1 in
        (λ y m. inr (same x (Memᴰ.head refl) ∙ sym (same y (Memᴰ.tail m)), s.0 y m), rest)

    pub blocks_sorted : (f : ℕ → List A) → ((i : ℕ) (x : A) → Memᴰ x (f i) → k x ≡ i) → ((i : ℕ) → Sorted S (f i))
        → (is : List ℕ) → Sorted ◌<◌ is → Sorted (ByThen k S) (flat_map f is)
    blocks_sorted f same inside =
        flat_map_sorted ◌<◌ (ByThen k S) f (λ i. block_sorted i (f i) (same i) (inside i))
        (λ i j h x y m n. let p = same i x m in let q = same j y n in inl (omega arith))
