-- How long the lists of `specs/Lists.antt` are, and what stands where in ranges, their images and padded lists.
-- Assumes nothing.
use Prim.Native.Nat.{ℕ, zero, suc, ◌+◌, ◌-◌, ◌≤◌, ◌<◌}
use native.Mathlib.Nat.{add-zero, zero-add, add-suc, suc-add, le_of_suc-le-suc}
use native.Mathlib.Omega.{arith}
use mathlib.Core.Path.{◌≡◌, refl, sym, ap, ap₂, ◌∙◌, fun_ext}
use mathlib.Core.Bool.{Bool, true, false, cond}
use mathlib.Core.List.{List, [], ◌∷◌, ◌++◌, map, flat_map}
use lib.Dec.{T}
use lib.ListN.{length, get_or, take, replicate, get_or-append, get_or-replicate, length-append, length-map, length-replicate}
use lib.Seq.{get_or-append-add, ext_get_or}
use Rattle.lists.specs.Lists.{up_from, filter, sum, padded}

-- the numbers of a list, added up
unfoldable pub total : List ℕ → ℕ
total [] = 0
total (x ∷ xs) = x + total xs

pub length-up_from : (n k : ℕ) → length (up_from n k) ≡ k
unfolding up_from
length-up_from n zero = refl
length-up_from n (suc k) = ap suc (length-up_from (suc n) k)

pub get_or-up_from : (n k i : ℕ) → i < k → get_or (up_from n k) i 0 ≡ n + i
unfolding up_from
get_or-up_from n zero i h = absurd (omega arith)
get_or-up_from n (suc k) zero h = omega arith
get_or-up_from n (suc k) (suc i) h = let r = get_or-up_from (suc n) k i (omega arith) in omega arith

pub get_or-map-up_from : {A : Type 0} (f : ℕ → A) (n k i : ℕ) (z : A) → i < k → get_or (map f (up_from n k)) i z ≡ f (n + i)
unfolding up_from
get_or-map-up_from f n zero i z h = absurd (omega arith)
get_or-map-up_from f n (suc k) zero z h = ap f (sym (add-zero n))
get_or-map-up_from f n (suc k) (suc i) z h = get_or-map-up_from f (suc n) k i z (le_of_suc-le-suc h) ∙ ap f shift
  where
    shift : suc n + i ≡ n + suc i
    shift = omega arith

pub length-map-up_from : {A : Type 0} (f : ℕ → A) (n k : ℕ) → length (map f (up_from n k)) ≡ k
length-map-up_from f n k = length-map (up_from n k) f ∙ length-up_from n k

module _ {A : Type 0} where
  kept_length : (b : Bool) (x : A) (rest : List A) → length (cond b (x ∷ rest) rest) ≤ suc (length rest)
  kept_length true x rest = omega arith
  kept_length false x rest = omega arith

  pub length-filter_le : (f : A → Bool) (xs : List A) → length (filter f xs) ≤ length xs
  unfolding filter
  length-filter_le f [] = omega arith
  length-filter_le f (x ∷ xs) =
      let r = length-filter_le f xs in
      let k = kept_length (f x) x (filter f xs) in
      omega arith

  kept_mono : (b c : Bool) → (T b → T c) → (x : A) (l k : List A) → length l ≤ length k → length (cond b (x ∷ l) l) ≤ length (cond c (x ∷ k) k)
  kept_mono true true h x l k le = omega arith
  kept_mono true false h x l k le = absurd (h tt)
  kept_mono false true h x l k le = omega arith
  kept_mono false false h x l k le = le

  -- what passes f passes g: no more pass f
  pub length-filter_mono : (f g : A → Bool) → ((x : A) → T (f x) → T (g x)) → (xs : List A) → length (filter f xs) ≤ length (filter g xs)
  unfolding filter
  length-filter_mono f g h [] = omega arith
  length-filter_mono f g h (x ∷ xs) = kept_mono (f x) (g x) (h x) x (filter f xs) (filter g xs) (length-filter_mono f g h xs)

  pub length_flat_map : {B : Type 0} (f : A → List B) (xs : List A) → length (flat_map f xs) ≡ total (map (λ x. length (f x)) xs)
  unfolding flat_map total
  length_flat_map f [] = refl
  length_flat_map f (x ∷ xs) = let r = length_flat_map f xs in omega (arith, length-append (f x) (flat_map f xs))

  pub length-padded : (n : ℕ) (z : A) (xs : List A) → length xs ≤ n → length (padded n z xs) ≡ n
  unfolding padded
  length-padded n z xs h = omega (arith, length-append xs (replicate (n - length xs) z), length-replicate (n - length xs) z)

  -- the list itself, then the filler
  pub get_or-padded_inside : (n : ℕ) (z : A) (xs : List A) (i : ℕ) (d : A) → i < length xs → get_or (padded n z xs) i d ≡ get_or xs i d
  unfolding padded
  get_or-padded_inside n z xs i d h = get_or-append xs (replicate (n - length xs) z) d i h

  pub get_or-padded_after : (n : ℕ) (z : A) (xs : List A) (i : ℕ) (d : A) → length xs ≤ i → i < n → get_or (padded n z xs) i d ≡ z
  unfolding padded
  get_or-padded_after n z xs i d h l =
      ap (λ j. get_or (xs ++ replicate (n - length xs) z) j d) place ∙ get_or-append-add xs (replicate (n - length xs) z) (i - length xs) d
      ∙ get_or-replicate (n - length xs) (i - length xs) z d (omega arith)
    where
      place : i ≡ length xs + (i - length xs)
      place = omega arith

-- the same sum, over a range
pub total-up_from : (f : ℕ → ℕ) (n k : ℕ) → total (map f (up_from n k)) ≡ sum k (λ j. f (n + j))
unfolding total up_from sum
total-up_from f n zero = refl
total-up_from f n (suc k) =
    ap₂ ◌+◌ (ap f (sym (add-zero n))) (total-up_from f (suc n) k ∙ ap (sum k) (fun_ext (λ j. ap f (shift j))))
  where
    shift : (j : ℕ) → suc n + j ≡ n + suc j
    shift j = omega arith

-- the last number of a range
pub up_from_last : (n k : ℕ) → up_from n (suc k) ≡ up_from n k ++ ((n + k) ∷ [])
unfolding up_from
up_from_last n zero = ap (λ (x : ℕ). x ∷ []) (sym (add-zero n))
up_from_last n (suc k) = ap (λ (l : List ℕ). n ∷ l) (up_from_last (suc n) k ∙ ap (λ (x : ℕ). up_from (suc n) k ++ (x ∷ [])) (suc-add n k ∙ sym (add-suc n k)))

-- a range begun one later
pub map-up_from-suc : {A : Type 0} (f : ℕ → A) (n k : ℕ) → map (λ j. f (1 + j)) (up_from n k) ≡ map f (up_from (suc n) k)
unfolding up_from
map-up_from-suc f n zero = refl
map-up_from-suc f n (suc k) = ap₂ ◌∷◌ (ap f (one_more n)) (map-up_from-suc f (suc n) k)
  where
    one_more : (x : ℕ) → 1 + x ≡ suc x
    one_more x = omega arith

-- a range in two
-- the first n entries, read one by one
pub take-get_or : {A : Type 0} (z : A) (xs : List A) (n : ℕ) → n ≤ length xs → take n xs ≡ map (λ k. get_or xs k z) (up_from 0 n)
unfolding up_from
take-get_or z xs zero h = refl
take-get_or z [] (suc n) h = absurd (omega arith)
take-get_or {A} z (x ∷ xs) (suc n) h =
    ap (λ l. x ∷ l) (take-get_or z xs n (le_of_suc-le-suc h) ∙ ap (λ f. map f (up_from 0 n)) (fun_ext one_more) ∙ map-up_from-suc (λ k. get_or (x ∷ xs) k z) 0 n)
  where
    one_more : (k : ℕ) → get_or (x ∷ xs) (suc k) z ≡ get_or (x ∷ xs) (1 + k) z
    one_more k = let e : suc k ≡ 1 + k = omega arith in ap (λ i. get_or (x ∷ xs) i z) e

pub up_from-append : (x n m : ℕ) → up_from x (n + m) ≡ up_from x n ++ up_from (x + n) m
unfolding up_from
up_from-append x zero m = ap₂ up_from (sym (add-zero x)) (zero-add m)
up_from-append x (suc n) m =
    ap (up_from x) (suc-add n m)
    ∙ ap (λ (l : List ℕ). x ∷ l) (up_from-append (suc x) n m ∙ ap (λ (y : ℕ). up_from (suc x) n ++ up_from y m) (suc-add x n ∙ sym (add-suc x n)))

-- ---- read at any place

module _ {A : Type 0} (z : A) where
  pub get_or_fill : (n i : ℕ) → get_or (replicate n z) i z ≡ z
  get_or_fill zero i = refl
  get_or_fill (suc n) zero = refl
  get_or_fill (suc n) (suc i) = get_or_fill n i

  -- past its end a list reads as the filler, so a filler behind it changes nothing
  get_or-filled : (xs : List A) (n i : ℕ) → get_or (xs ++ replicate n z) i z ≡ get_or xs i z
  get_or-filled [] n i = get_or_fill n i
  get_or-filled (x ∷ xs) n zero = refl
  get_or-filled (x ∷ xs) n (suc i) = get_or-filled xs n i

  pub get_or-padded : (n : ℕ) (xs : List A) (i : ℕ) → get_or (padded n z xs) i z ≡ get_or xs i z
  unfolding padded
  get_or-padded n xs i = get_or-filled xs (n - length xs) i

-- what stands at the places of a block
pub block_at : {A : Type 0} (z : A) (xs ys zs : List A) → map (λ k. get_or (xs ++ (ys ++ zs)) k z) (up_from (length xs) (length ys)) ≡ ys
block_at {A} z xs ys zs =
    let at : ℕ → A = λ k. get_or (xs ++ (ys ++ zs)) k z in
    let n : length (map at (up_from (length xs) (length ys))) ≡ length ys = length-map-up_from at (length xs) (length ys) in
    ext_get_or z (map at (up_from (length xs) (length ys))) ys n
    (λ i h. let g : i < length ys = omega arith in
    get_or-map-up_from at (length xs) (length ys) i z g ∙ get_or-append-add xs (ys ++ zs) i z ∙ get_or-append ys zs z i g)
