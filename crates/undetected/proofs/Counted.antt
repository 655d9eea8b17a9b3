-- Entry by entry: where the words of an entry stand, that counting those that pass every parity check counts those that p divides, and the counts
-- that stand in the lent list so far.
-- Assumes nothing.
use Prim.Native.Nat.{ℕ, suc, ◌+◌, ◌-◌, ◌*◌, ◌≤◌, ◌<◌}
use native.Mathlib.Numerals.{add-one}
use native.Mathlib.Omega.{arith}
use mathlib.Core.Path.{◌≡◌, sym, ap, ap₂, ◌∙◌, fun_ext}
use mathlib.Core.Bool.{Bool}
use mathlib.Core.List.{List, [], ◌∷◌, ◌++◌, map, map-append, append_assoc}
use lib.Dec.{eqb}
use lib.ListN.{length, get_or, take, drop, set, length-append, take-append-drop}
use lib.Seq.{length-take-le, drop-cons, append_snoc, set_at}
use Rattle.lists.specs.Lists.{up_from, count}
use Rattle.lists.proofs.Filters.{between_le}
use Rattle.lists.proofs.Lengths.{length-map-up_from, up_from_last}
use Rattle.poly.specs.Poly.{remainder}
use Rattle.parity.specs.Model.Parity.{check_table, Divisor}
use Rattle.parity.proofs.Divided.{all-even_divided}
use Rattle.paths.specs.Part.{paths_to}
use Rattle.paths.proofs.Parts.{to_more, to_mono}
use Rattle.poly.specs.Model.Table.{word_at}
use Rattle.undetected.specs.Model.Steps.{divided_between, divided_of, even_between, up_to, counted_from, Readable}
use Rattle.undetected.proofs.Counting.{up_to_within}

-- ---- where the words of an entry stand

module _ (plain : List ℕ) where
  pub before_next : (j : ℕ) → paths_to plain (j + 1) ≡ paths_to plain j + get_or plain j 0
  before_next j = ap (paths_to plain) (add-one j) ∙ to_more plain j

  -- those of entry j end where those of all end, or before
  pub before_end : (j entries at : ℕ) → j < entries → at ≡ paths_to plain j → at + get_or plain j 0 ≤ paths_to plain entries
  before_end j entries at h e = let s = to_mono plain (j + 1) entries (omega arith) in omega (arith, before_next j)

-- ---- the words of one entry

module _ (bits entries m p : ℕ) (table plain : List ℕ) (readable : Readable bits entries table plain) (divisor : Divisor m p) where
  even_divided : (a b : ℕ) → even_between (check_table bits m p) m table a b ≡ divided_between m p table a b
  unfolding even_between divided_between word_at
  even_divided a b =
      ap (λ (f : ℕ → Bool). count f (up_from a (b - a)))
      (fun_ext
      (λ k. all-even_divided bits m p (get_or table (2 * k) 0) (get_or table (2 * k + 1) 0) divisor.modulus.degree
      (readable.numbers (2 * k)) (readable.words k)))

  -- the limit is how many there are, so it is never passed
  pub counted-weight : (rows : List ℕ) (n j at r : ℕ) → (rows ≡ check_table bits m p) × (n ≡ m) → at ≡ paths_to plain j
      → r ≡ up_to (get_or plain j 0) (even_between rows n table at (at + get_or plain j 0)) → r ≡ divided_of m p table plain j
  unfolding divided_of divided_between
  counted-weight rows n j at r made ea e =
      let all : ℕ = get_or plain j 0 in
      let same : even_between rows n table at (at + all) ≡ divided_of m p table plain j =
      ap₂ (λ (l : List ℕ) (k : ℕ). even_between l k table at (at + all)) made.0 made.1
      ∙ ap (λ (x : ℕ). even_between (check_table bits m p) m table x (x + all)) ea ∙ even_divided (paths_to plain j) (paths_to plain j + all) in
      let few = between_le (λ k. eqb (remainder m p (word_at table k)) 0) (paths_to plain j) (paths_to plain j + all) in
      e ∙ ap (up_to all) same ∙ sym (up_to_within all (divided_of m p table plain j) (omega arith))

-- ---- the lent list

module _ (m p : ℕ) (table plain : List ℕ) where
  pub counted_none : (j : ℕ) (l : List ℕ) → l ≡ counted_from m p table plain j j l
  unfolding counted_from up_from
  counted_none j l =
      let e : j - j ≡ 0 = omega arith in
      sym (ap (λ (n : ℕ). take j l ++ (map (divided_of m p table plain) (up_from j n) ++ drop j l)) e ∙ take-append-drop j l)

  module _ (first j : ℕ) (l : List ℕ) (begun : first ≤ j) where
    -- what stands before entry j
    front : List ℕ
    front = take first l ++ map (divided_of m p table plain) (up_from first (j - first))

    length_front : j ≤ length l → length front ≡ j
    unfolding front
    length_front h =
        let begins = length-take-le first l (omega arith) in
        let goes_on = length-map-up_from (divided_of m p table plain) first (j - first) in
        omega (arith, length-append (take first l) (map (divided_of m p table plain) (up_from first (j - first))))

    as_front : counted_from m p table plain first j l ≡ front ++ drop j l
    unfolding counted_from front
    as_front = sym (append_assoc (take first l) (map (divided_of m p table plain) (up_from first (j - first))) (drop j l))

    pub counted_next : (x : ℕ) → j < length l → x ≡ divided_of m p table plain j
        → set (counted_from m p table plain first j l) j x ≡ counted_from m p table plain first (j + 1) l
    unfolding counted_from front
    counted_next x h e =
        let f : ℕ → ℕ = divided_of m p table plain in
        let g : j + 1 - first ≡ suc (j - first) = omega arith in
        let i : first + (j - first) ≡ j = omega arith in
        let one_more : map f (up_from first (j + 1 - first)) ≡ map f (up_from first (j - first)) ++ (f j ∷ []) =
        ap (λ (n : ℕ). map f (up_from first n)) g ∙ ap (map f) (up_from_last first (j - first))
        ∙ map-append f (up_from first (j - first)) ((first + (j - first)) ∷ [])
        ∙ ap (λ (n : ℕ). map f (up_from first (j - first)) ++ (f n ∷ [])) i in
        ap (λ (r : List ℕ). set r j x) (as_front ∙ ap (λ (r : List ℕ). front ++ r) (drop-cons l j 0 h))
        ∙ set_at front (get_or l j 0) (drop (suc j) l) x j (length_front (omega arith))
        ∙ ap₂ (λ (y k : ℕ). front ++ y ∷ drop k l) e (sym (add-one j))
        ∙ sym (append_snoc front (f j) (drop (j + 1) l))
        ∙ ap (λ (r : List ℕ). r ++ drop (j + 1) l)
        (append_assoc (take first l) (map f (up_from first (j - first))) (f j ∷ []) ∙ ap (λ (r : List ℕ). take first l ++ r) (sym one_more))
        ∙ append_assoc (take first l) (map f (up_from first (j + 1 - first))) (drop (j + 1) l)
