-- Laws of blocks one after another: of blocks within blocks, of blocks of an image, and of two ways to make blocks that agree on the members there are.
-- Assumes nothing.
use mathlib.Core.Path.{◌≡◌, refl, sym, ap, ap₂, ◌∙◌}
use mathlib.Core.List.{List, [], ◌∷◌, ◌++◌, map, flat_map, append-nil, append_assoc, Memᴰ}
use Rattle.lists.proofs.Member.{of_flat_map}
use Rattle.lists.proofs.Sorted.{Sorted, append-sorted}

-- a list without members
pub nil_of_no_member : {A : Type 0} (xs : List A) → ((x : A) → Memᴰ x xs → ⊥) → xs ≡ []
nil_of_no_member [] h = refl
nil_of_no_member (x ∷ xs) h = absurd (h x (Memᴰ.head refl))

module _ {A B : Type 0} where
  pub flat_map_one : (f : A → List B) (x : A) → flat_map f (x ∷ []) ≡ f x
  unfolding flat_map
  flat_map_one f x = append-nil (f x)

  pub flat_map_none : (f : A → List B) → flat_map f [] ≡ []
  unfolding flat_map
  flat_map_none f = refl

  pub flat_map_append : (f : A → List B) (l k : List A) → flat_map f (l ++ k) ≡ flat_map f l ++ flat_map f k
  unfolding flat_map
  flat_map_append f [] k = refl
  flat_map_append f (x ∷ xs) k = ap (λ l. f x ++ l) (flat_map_append f xs k) ∙ sym (append_assoc (f x) (flat_map f xs) (flat_map f k))

  -- equal blocks of the members make equal lists
  pub flat_map_cong_on : (f g : A → List B) (xs : List A) → ((x : A) → Memᴰ x xs → f x ≡ g x) → flat_map f xs ≡ flat_map g xs
  unfolding flat_map
  flat_map_cong_on f g [] h = refl
  flat_map_cong_on f g (x ∷ xs) h = ap₂ ◌++◌ (h x (Memᴰ.head refl)) (flat_map_cong_on f g xs (λ y m. h y (Memᴰ.tail m)))

  -- blocks in order, where what is asked of the blocks is asked of the members' blocks alone
  pub flat_map_sorted-on : (R : A → A → Type 0) (S : B → B → Type 0) (f : A → List B) (xs : List A) → Sorted R xs
      → ((x : A) → Memᴰ x xs → Sorted S (f x))
      → ((x x' : A) → Memᴰ x xs → Memᴰ x' xs → R x x' → (y y' : B) → Memᴰ y (f x) → Memᴰ y' (f x') → S y y')
      → Sorted S (flat_map f xs)
  unfolding flat_map
  flat_map_sorted-on R S f [] s inside between = tt
  flat_map_sorted-on R S f (x ∷ xs) s inside between =
      let rest =
      flat_map_sorted-on R S f xs s.1 (λ z m. inside z (Memᴰ.tail m))
      (λ z z' m m'. between z z' (Memᴰ.tail m) (Memᴰ.tail m')) in
      append-sorted S (f x) (flat_map f xs) (inside x (Memᴰ.head refl)) rest
      (λ y y' m m'. let h = of_flat_map f xs m' in
      between x h.0 (Memᴰ.head refl) (Memᴰ.tail h.1) (s.0 h.0 h.1) y y' m h.2)

module _ {A B C : Type 0} where
  pub flat_map_flat_map : (f : B → List C) (g : A → List B) (xs : List A) → flat_map f (flat_map g xs) ≡ flat_map (λ x. flat_map f (g x)) xs
  unfolding flat_map
  flat_map_flat_map f g [] = refl
  flat_map_flat_map f g (x ∷ xs) = flat_map_append f (g x) (flat_map g xs) ∙ ap (λ l. flat_map f (g x) ++ l) (flat_map_flat_map f g xs)

  pub flat_map_map : (f : B → List C) (g : A → B) (xs : List A) → flat_map f (map g xs) ≡ flat_map (λ x. f (g x)) xs
  unfolding flat_map
  flat_map_map f g [] = refl
  flat_map_map f g (x ∷ xs) = ap (λ l. f (g x) ++ l) (flat_map_map f g xs)

-- images that agree at every member
pub map_cong_on : {A B : Type 0} (f g : A → B) (xs : List A) → ((x : A) → Memᴰ x xs → f x ≡ g x) → map f xs ≡ map g xs
map_cong_on f g [] h = refl
map_cong_on f g (x ∷ xs) h = ap₂ ◌∷◌ (h x (Memᴰ.head refl)) (map_cong_on f g xs (λ y m. h y (Memᴰ.tail m)))
