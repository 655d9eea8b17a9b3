-- What passes a test: of two lists one after the other, of a list made by a function, by two tests that agree; members that may be left out. And how
-- many pass, over lists and over the places from a to before b, where one place more adds one or nothing.
-- Assumes nothing.
use Prim.Native.Nat.{ℕ, suc, ◌+◌, ◌-◌, ◌≤◌}
use native.Mathlib.Nat.{le_refl}
use native.Mathlib.Decide.{le_ind}
use native.Mathlib.Numerals.{add-one}
use native.Mathlib.Omega.{arith}
use mathlib.Core.Path.{◌≡◌, refl, sym, ap, ap₂, ◌∙◌}
use mathlib.Core.Bool.{Bool, true, false, cond, not, ◌&&◌}
use mathlib.Core.List.{List, [], ◌∷◌, ◌++◌, map, flat_map, Memᴰ}
use lib.Dec.{T}
use lib.ListN.{length}
use Rattle.lists.specs.Lists.{up_from, filter, count, all}
use Rattle.lists.proofs.Lengths.{length-filter_le, length-up_from, up_from_last}

-- ---- which pass

module _ {A : Type 0} (f : A → Bool) where
  pub filter-append : (xs ys : List A) → filter f (xs ++ ys) ≡ filter f xs ++ filter f ys
  unfolding filter
  filter-append [] ys = refl
  filter-append (x ∷ xs) ys = kept (f x) (filter-append xs ys)
    where
      kept : (b : Bool) → filter f (xs ++ ys) ≡ filter f xs ++ filter f ys
          → cond b (x ∷ filter f (xs ++ ys)) (filter f (xs ++ ys)) ≡ cond b (x ∷ filter f xs) (filter f xs) ++ filter f ys
      kept true e = ap (λ (l : List A). x ∷ l) e
      kept false e = e

  pub filter_cong_on : (g : A → Bool) (xs : List A) → ((x : A) → Memᴰ x xs → f x ≡ g x) → filter f xs ≡ filter g xs
  unfolding filter
  filter_cong_on g [] same = refl
  filter_cong_on g (x ∷ xs) same =
      ap₂ (λ (b : Bool) (rest : List A). cond b (x ∷ rest) rest) (same x (Memᴰ.head refl))
      (filter_cong_on g xs (λ y m. same y (Memᴰ.tail m)))

  pub filter_map : {B : Type 0} (g : B → A) (xs : List B) → filter f (map g xs) ≡ map g (filter (λ x. f (g x)) xs)
  unfolding filter
  filter_map g [] = refl
  filter_map g (x ∷ xs) = either (f (g x)) (filter_map g xs)
    where
      either : (b : Bool) → filter f (map g xs) ≡ map g (filter (λ y. f (g y)) xs)
          → cond b (g x ∷ filter f (map g xs)) (filter f (map g xs)) ≡ map g (cond b (x ∷ filter (λ y. f (g y)) xs) (filter (λ y. f (g y)) xs))
      either true e = ap (λ (l : List A). g x ∷ l) e
      either false e = e

  pub filter_one : (x : A) (b : Bool) → f x ≡ b → filter f (x ∷ []) ≡ cond b (x ∷ []) []
  unfolding filter
  filter_one x b e = ap (λ (c : Bool). cond c (x ∷ []) []) e

  pub filter-all : (xs : List A) → ((x : A) → f x ≡ true) → filter f xs ≡ xs
  unfolding filter
  filter-all [] each = refl
  filter-all (x ∷ xs) each = ap₂ (λ (b : Bool) (rest : List A). cond b (x ∷ rest) rest) (each x) (filter-all xs each)

  pub filter-filter : (g : A → Bool) (xs : List A) → filter f (filter g xs) ≡ filter (λ x. g x && f x) xs
  unfolding filter
  filter-filter g [] = refl
  filter-filter g (x ∷ xs) = by (g x) (filter-filter g xs)
    where
      by : (b : Bool) → filter f (filter g xs) ≡ filter (λ y. g y && f y) xs
          → filter f (cond b (x ∷ filter g xs) (filter g xs)) ≡ cond (b && f x) (x ∷ filter (λ y. g y && f y) xs) (filter (λ y. g y && f y) xs)
      by true e = ap (λ (r : List A). cond (f x) (x ∷ r) r) e
      by false e = e

-- a test of all members is one of what they are made into
pub all-map-on : {A B : Type 0} (f : A → Bool) (g : B → Bool) (h : A → B) (xs : List A) → ((x : A) → Memᴰ x xs → f x ≡ g (h x))
    → all f xs ≡ all g (map h xs)
unfolding all
all-map-on f g h [] same = refl
all-map-on f g h (x ∷ xs) same = ap₂ ◌&&◌ (same x (Memᴰ.head refl)) (all-map-on f g h xs (λ y m. same y (Memᴰ.tail m)))

-- members that give nothing may be left out
pub flat_map_filter : {A B : Type 0} (f : A → List B) (test : A → Bool) → ((x : A) → T (not (test x)) → f x ≡ []) → (xs : List A)
    → flat_map f xs ≡ flat_map f (filter test xs)
unfolding flat_map filter
flat_map_filter f test none [] = refl
flat_map_filter f test none (x ∷ xs) =
    ap (λ l. f x ++ l) (flat_map_filter f test none xs) ∙ by (test x) (none x)
  where
    by : (b : Bool) → (T (not b) → f x ≡ []) → f x ++ flat_map f (filter test xs) ≡ flat_map f (cond b (x ∷ filter test xs) (filter test xs))
    by true n = refl
    by false n = ap (λ l. l ++ flat_map f (filter test xs)) (n tt)

-- ---- how many pass

module _ {A : Type 0} where
  kept : (b : Bool) (x : A) (rest : List A) → length (cond b (x ∷ rest) rest) ≡ cond b 1 0 + length rest
  kept true x rest = omega arith
  kept false x rest = omega arith

  pub count_cons : (f : A → Bool) (x : A) (xs : List A) → count f (x ∷ xs) ≡ cond (f x) 1 0 + count f xs
  unfolding count filter
  count_cons f x xs = kept (f x) x (filter f xs)

  pub count_none : (f : A → Bool) → count f [] ≡ 0
  unfolding count filter
  count_none f = refl

  pub count_one : (f : A → Bool) (x : A) → count f (x ∷ []) ≡ cond (f x) 1 0
  count_one f x = omega (arith, count_cons f x [], count_none f)

  pub count-append : (f : A → Bool) (xs ys : List A) → count f (xs ++ ys) ≡ count f xs + count f ys
  count-append f [] ys = omega (arith, count_none f)
  count-append f (x ∷ xs) ys = let r = count-append f xs ys in omega (arith, count_cons f x (xs ++ ys), count_cons f x xs)

  -- both tests at once
  pub count-filter : (f g : A → Bool) (xs : List A) → count f (filter g xs) ≡ count (λ x. g x && f x) xs
  unfolding count
  count-filter f g xs = ap length (filter-filter f g xs)

pub count_map : {A B : Type 0} (f : B → Bool) (g : A → B) (xs : List A) → count f (map g xs) ≡ count (λ x. f (g x)) xs
unfolding count filter
count_map f g [] = refl
count_map f g (x ∷ xs) =
    count_cons f (g x) (map g xs) ∙ ap (λ (n : ℕ). cond (f (g x)) 1 0 + n) (count_map f g xs) ∙ sym (count_cons (λ y. f (g y)) x xs)

-- ---- how many of the places from a to before b

abbrev pub between : (ℕ → Bool) → ℕ → ℕ → ℕ
between f a b = count f (up_from a (b - a))

module _ (f : ℕ → Bool) where
  pub between_none : (a : ℕ) → between f a a ≡ 0
  unfolding count filter up_from
  between_none a = let e : a - a ≡ 0 = omega arith in ap (λ (n : ℕ). count f (up_from a n)) e

  pub between_next : (a k : ℕ) → a ≤ k → between f a (k + 1) ≡ between f a k + cond (f k) 1 0
  between_next a k h =
      let e : k + 1 - a ≡ suc (k - a) = omega arith in
      let g : a + (k - a) ≡ k = omega arith in
      ap (λ (n : ℕ). count f (up_from a n)) e ∙ ap (count f) (up_from_last a (k - a)) ∙ count-append f (up_from a (k - a)) ((a + (k - a)) ∷ [])
      ∙ ap (λ (n : ℕ). between f a k + n) (count_one f (a + (k - a)) ∙ ap (λ (n : ℕ). cond (f n) 1 0) g)

  pub between_mono : (a k b : ℕ) → a ≤ k → k ≤ b → between f a k ≤ between f a b
  between_mono a k b h l =
      le_ind (λ (j : ℕ). between f a k ≤ between f a j) (le_refl (between f a k))
      (λ j g e. let n = between_next a j (omega arith) in let s = ap (between f a) (add-one j) in omega arith) b l

  pub between_le : (a b : ℕ) → between f a b ≤ b - a
  unfolding count
  between_le a b = omega (arith, length-filter_le f (up_from a (b - a)), length-up_from a (b - a))
