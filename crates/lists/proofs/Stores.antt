-- Stores one after another: a run of stores made longer, the images of a list stored one by one, a list filled from the front, and a cleared list with
-- a run at its front.
-- Assumes nothing.
use mathlib.Core.Path.{◌≡◌, refl, sym, ap, ap₂, ◌∙◌, subst}
use mathlib.Core.List.{List, [], ◌∷◌, ◌++◌, map, map-append, append-nil}
use Prim.Native.Nat.{ℕ, zero, suc, ◌+◌, ◌-◌, ◌≤◌, ◌<◌, zero-le}
use native.Mathlib.Nat.{add-zero, zero-add, add-suc, suc-add, sub-zero, zero-sub, suc-sub-suc, le_of_lt}
use native.Mathlib.Numerals.{add-one}
use native.Mathlib.Omega.{arith}
use lib.ListN.{length, get_or, take, drop, set, replicate, length-map, length-replicate, length-set, drop_of_length-le}
use lib.Seq.{sets, sets-eq, take-suc, take_all, length-take-le}
use Rattle.lists.specs.Lists.{padded}

drop-replicate : {A : Type 0} (z : A) (k m : ℕ) → drop k (replicate m z) ≡ replicate (m - k) z
drop-replicate z zero m = ap (λ (j : ℕ). replicate j z) (sym (sub-zero m))
drop-replicate z (suc k) zero = ap (λ (j : ℕ). replicate j z) (sym (zero-sub (suc k)))
drop-replicate z (suc k) (suc m) = drop-replicate z k m ∙ ap (λ (j : ℕ). replicate j z) (sym (suc-sub-suc m k))

module _ {A : Type 0} where
  -- a second run, behind the first
  pub sets_append : (l : List A) (i : ℕ) (xs ys : List A) → sets l i (xs ++ ys) ≡ sets (sets l i xs) (i + length xs) ys
  sets_append l i [] ys = ap (λ (k : ℕ). sets l k ys) (sym (add-zero i))
  sets_append l i (x ∷ xs) ys =
      sets_append (set l i x) (suc i) xs ys
      ∙ ap (λ (k : ℕ). sets (sets (set l i x) (suc i) xs) k ys) (suc-add i (length xs) ∙ sym (add-suc i (length xs)))

  -- a run at the front of a cleared list, and the filler after it
  pub sets_cleared : (n : ℕ) (z : A) (xs : List A) → length xs ≤ n → sets (replicate n z) 0 xs ≡ padded n z xs
  unfolding padded
  sets_cleared n z xs h =
      let room : 0 + length xs ≤ length (replicate n z) = subst (λ (k : ℕ). 0 + length xs ≤ k) (sym (length-replicate n z)) (omega arith) in
      sets-eq xs (replicate n z) 0 room
      ∙ ap (λ (r : List A). xs ++ r) (ap (λ (k : ℕ). drop k (replicate n z)) (zero-add (length xs)) ∙ drop-replicate z (length xs) n)

  filled-suc : (n : ℕ) (v : A) (d : List A) → n < length d → set (replicate n v ++ drop n d) n v ≡ replicate (suc n) v ++ drop (suc n) d
  filled-suc n v [] h = absurd (omega arith)
  filled-suc zero v (x ∷ d) h = refl
  filled-suc (suc n) v (x ∷ d) h = ap (λ (t : List A). v ∷ t) (filled-suc n v d (omega arith))

  -- a list filled from the front: a store of v at n makes it the same at n + 1
  pub filled_more : (n : ℕ) (v : A) (d : List A) → n < length d → set (replicate n v ++ drop n d) n v ≡ replicate (n + 1) v ++ drop (n + 1) d
  filled_more n v d h = rw (add-one, filled-suc n v d)

  -- all the way
  pub filled-all : (n : ℕ) (v : A) (d : List A) → n ≡ length d → replicate n v ++ drop n d ≡ replicate (length d) v
  filled-all n v d e =
      ap₂ (λ (x y : List A). x ++ y) (ap (λ (k : ℕ). replicate k v) e) (drop_of_length-le d {i = n} (omega arith)) ∙ append-nil (replicate (length d) v)

-- ---- a loop that fills a list with v from the front

-- i of it are filled, and the rest is as it was
pub record Filled {A : Type 0} (v : A) (before now : List A) (i : ℕ) : Type 0 where
  pub within : i ≤ length before
  pub same_size : length now ≡ length before
  pub stored : now ≡ replicate i v ++ drop i before

module _ {A : Type 0} {v : A} {before : List A} where
  pub filled_begin : Filled v before before 0
  filled_begin = record { within = zero-le; same_size = refl; stored = refl }

  pub filled_again : {now : List A} {i : ℕ} → Filled v before now i → i < length before → Filled v before (set now i v) (i + 1)
  filled_again {now} {i} f h = record {
    within = omega arith;
    same_size = length-set now i v ∙ f.same_size;
    stored = ap (λ (l : List A). set l i v) f.stored ∙ filled_more i v before h;
  }

  pub filled_end : {now : List A} {i : ℕ} → Filled v before now i → length before ≤ i → now ≡ replicate (length before) v
  filled_end {now} {i} f h = let most = f.within in f.stored ∙ filled-all i v before (omega arith)

-- ---- the images of a list, stored one by one from index at on

module _ {A B : Type 0} (f : A → B) (gs : List A) (d : A) (l : List B) (at : ℕ) where
  pub sets_map_more : (i : ℕ) (x : B) → i < length gs → x ≡ f (get_or gs i d) → set (sets l at (map f (take i gs))) (at + i) x ≡ sets l at (map f (take (i + 1) gs))
  sets_map_more i x h e =
      let xs : List B = map f (take i gs) in
      let n : length xs ≡ i = length-map (take i gs) f ∙ length-take-le i gs (le_of_lt h) in
      ap (λ (k : ℕ). set (sets l at xs) (at + k) x) (sym n)
      ∙ ap (λ (y : B). set (sets l at xs) (at + length xs) y) e
      ∙ sym (sets_append l at xs (f (get_or gs i d) ∷ []))
      ∙ ap (sets l at) (sym (ap (map f) (ap (λ (k : ℕ). take k gs) (add-one i) ∙ take-suc gs i d h) ∙ map-append f (take i gs) (get_or gs i d ∷ [])))

  pub sets_map-all : (i : ℕ) → length gs ≤ i → sets l at (map f (take i gs)) ≡ sets l at (map f gs)
  sets_map-all i h = ap (λ (r : List A). sets l at (map f r)) (take_all i gs h)
