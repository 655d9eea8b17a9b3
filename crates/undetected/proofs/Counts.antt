-- The model joined to the definition: over the path table and the plain counts that the listing leaves, the words of an entry stand where the code
-- looks for them (`readable`), and how many of them p divides is the undetected count (`divided_counts_lem`). What counting from the first entry on leaves in a list.
-- Assumes nothing.
use Prim.Native.Nat.{ℕ, zero, suc, ◌+◌, ◌-◌, ◌*◌, ◌/◌, ◌%◌, ◌^◌, ◌≤◌, ◌<◌}
use native.Mathlib.Nat.{mod-lt, div-lt_iff_lt-mul, lt_of_lt_of_le}
use native.Mathlib.Decide.{ℕ_discrete}
use native.Mathlib.Omega.{arith}
use mathlib.Core.Path.{◌≡◌, refl, sym, ap, ap₂, ◌∙◌, subst, fun_ext}
use mathlib.Core.Bool.{Bool}
use mathlib.Core.List.{List, [], ◌∷◌, ◌++◌, map, flat_map, Memᴰ}
use lib.Dec.{eqb}
use lib.ListN.{length, get_or, drop, replicate, length-replicate}
use lib.Pow.{pow_pos, pow_mono, split}
use lib.Seq.{sets-eq}
use Rattle.lists.specs.Lists.{up_from, count, padded}
use Rattle.lists.proofs.Blocks.{flat_map_append, map_cong_on}
use Rattle.lists.proofs.Filters.{count-filter, count_map}
use Rattle.lists.proofs.Lengths.{length_flat_map, get_or-padded, block_at, length-map-up_from, length-padded, total-up_from, map-up_from-suc, up_from-append}
use Rattle.lists.proofs.Member.{up_from_bounds}
use Rattle.lists.proofs.Stores.{sets_cleared}
use Rattle.lists.proofs.Sums.{sum_cong}
use Rattle.poly.specs.Poly.{remainder}
use Rattle.poly.specs.Word.{halves}
use Rattle.poly.proofs.Halves.{length-halves, get_or-halves}
use Rattle.code.specs.Weight.{weight}
use Rattle.order.specs.Order.{Order}
use Rattle.paths.specs.Paths.{words, words_of_weight, weights, paths, plain_counts, path_table}
use Rattle.paths.specs.Part.{paths_to}
use Rattle.paths.proofs.Listed.{of_paths, length-plain_counts, plain_count_at}
use Rattle.paths.proofs.FromOne.{paths_from_1}
use Rattle.undetected.specs.Undetected.{passes, undetected_count, undetected_counts}
use Rattle.poly.specs.Model.Table.{word_at}
use Rattle.undetected.specs.Model.Steps.{divided_between, divided_of, divided_counts, counted_from, Readable}

-- ---- lists

get_or-below : (xs : List ℕ) (b : ℕ) → 0 < b → ((x : ℕ) → Memᴰ x xs → x < b) → (i : ℕ) → get_or xs i 0 < b
get_or-below [] b h below i = h
get_or-below (x ∷ xs) b h below zero = below x (Memᴰ.head refl)
get_or-below (x ∷ xs) b h below (suc i) = get_or-below xs b h (λ y m. below y (Memᴰ.tail m)) i

-- ---- the path table and the plain counts

module _ (o : Order) where
  path_small : (k : ℕ) → get_or (paths o) k 0 < 2 ^ o.N
  path_small = get_or-below (paths o) (2 ^ o.N) (pow_pos o.N) (λ u m. (of_paths o u m).fits)

  module _ (np : ℕ) where
    low_at : (k : ℕ) → get_or (path_table np o) (2 * k) 0 ≡ get_or (paths o) k 0 % 2 ^ 64
    unfolding path_table
    low_at k = get_or-padded 0 np (flat_map halves (paths o)) (2 * k) ∙ (get_or-halves (paths o) k).0

    high_at : (k : ℕ) → get_or (path_table np o) (2 * k + 1) 0 ≡ get_or (paths o) k 0 / 2 ^ 64
    unfolding path_table
    high_at k = get_or-padded 0 np (flat_map halves (paths o)) (2 * k + 1) ∙ (get_or-halves (paths o) k).1

    -- the words of the table are the paths, one after another
    pub table_word : (k : ℕ) → word_at (path_table np o) k ≡ get_or (paths o) k 0
    unfolding word_at
    table_word k = ap₂ (λ (h l : ℕ). h * 2 ^ 64 + l) (high_at k) (low_at k) ∙ split (get_or (paths o) k 0) 64

    table_number : o.N ≤ 128 → (k : ℕ) → get_or (path_table np o) k 0 < 2 ^ 64
    table_number few k = elim (ℕ_discrete (k % 2) 0) [
      | yes e ↦
          let g : 2 * (k / 2) ≡ k = omega arith in
          subst (λ (i : ℕ). get_or (path_table np o) i 0 < 2 ^ 64) g
          (subst (λ (x : ℕ). x < 2 ^ 64) (sym (low_at (k / 2))) (mod-lt (get_or (paths o) (k / 2) 0) (pow_pos 64)))
      | no e ↦
          let g : 2 * (k / 2) + 1 ≡ k = omega arith in
          let small : get_or (paths o) (k / 2) 0 / 2 ^ 64 < 2 ^ 64 =
          (div-lt_iff_lt-mul (pow_pos 64)).1 (lt_of_lt_of_le (path_small (k / 2)) (pow_mono few)) in
          subst (λ (i : ℕ). get_or (path_table np o) i 0 < 2 ^ 64) g (subst (λ (x : ℕ). x < 2 ^ 64) (sym (high_at (k / 2))) small)
    ]

  -- those before the words of entry k, which are of weight k + 1, are the words of smaller weights
  module _ (nc : ℕ) where
    count_at : (k : ℕ) → k < o.d - 1 → get_or (padded nc 0 (plain_counts o)) k 0 ≡ length (words_of_weight o (1 + k))
    count_at k h = get_or-padded 0 nc (plain_counts o) k ∙ plain_count_at o k h

    before_are : (k : ℕ) → k ≤ o.d - 1 → paths_to (padded nc 0 (plain_counts o)) k ≡ length (flat_map (words_of_weight o) (up_from 1 k))
    unfolding paths_to
    before_are k h =
        sum_cong k (λ j. get_or (padded nc 0 (plain_counts o)) j 0) (λ j. length (words_of_weight o (1 + j))) (λ j l. count_at j (omega arith))
        ∙ sym (length_flat_map (words_of_weight o) (up_from 1 k) ∙ total-up_from (λ x. length (words_of_weight o x)) 1 k)

  -- there are no words of weight 0 (`none_of_weight_0`)
  module _ (none : words_of_weight o 0 ≡ []) where
    before_all : (nc : ℕ) → paths_to (padded nc 0 (plain_counts o)) (o.d - 1) ≡ length (paths o)
    unfolding weights
    before_all nc = before_are nc (o.d - 1) (omega arith) ∙ ap length (paths_from_1 o none)

    -- the paths below, of and above weight k + 1
    paths_parts : (k : ℕ) → k < o.d - 1
        → paths o ≡ flat_map (words_of_weight o) (up_from 1 k) ++ (words_of_weight o (1 + k) ++ flat_map (words_of_weight o) (up_from (suc (1 + k)) (o.d - 1 - suc k)))
    unfolding weights up_from flat_map
    paths_parts k h =
        let e : o.d - 1 ≡ k + suc (o.d - 1 - suc k) = omega arith in
        sym (paths_from_1 o none) ∙ ap (λ (n : ℕ). flat_map (words_of_weight o) (up_from 1 n)) e
        ∙ ap (flat_map (words_of_weight o)) (up_from-append 1 k (suc (o.d - 1 - suc k)))
        ∙ flat_map_append (words_of_weight o) (up_from 1 k) (up_from (1 + k) (suc (o.d - 1 - suc k)))

    words_at_lem : (k : ℕ) → k < o.d - 1
        → map (λ j. get_or (paths o) j 0) (up_from (length (flat_map (words_of_weight o) (up_from 1 k))) (length (words_of_weight o (1 + k)))) ≡ words_of_weight o (1 + k)
    words_at_lem k h =
        let xs : List ℕ = flat_map (words_of_weight o) (up_from 1 k) in
        let zs : List ℕ = flat_map (words_of_weight o) (up_from (suc (1 + k)) (o.d - 1 - suc k)) in
        ap (λ (l : List ℕ). map (λ j. get_or l j 0) (up_from (length xs) (length (words_of_weight o (1 + k))))) (paths_parts k h)
        ∙ block_at 0 xs (words_of_weight o (1 + k)) zs

  -- ---- what p divides

  undetected_in : (p w : ℕ) → count (λ u. eqb (remainder o.m p u) 0) (words_of_weight o w) ≡ undetected_count o p w
  unfolding words_of_weight undetected_count passes
  undetected_in p w = count-filter (λ u. eqb (remainder o.m p u) 0) (λ u. eqb (weight o u) w) (words o.N)

  module _ (np nc : ℕ) (none : words_of_weight o 0 ≡ []) where
    divided_of_lem : (p k : ℕ) → k < o.d - 1 → divided_of o.m p (path_table np o) (padded nc 0 (plain_counts o)) k ≡ undetected_count o p (1 + k)
    unfolding divided_of divided_between
    divided_of_lem p k h =
        let plain : List ℕ = padded nc 0 (plain_counts o) in
        let test : ℕ → Bool = λ u. eqb (remainder o.m p u) 0 in
        let at : ℕ = length (flat_map (words_of_weight o) (up_from 1 k)) in
        let all : ℕ = length (words_of_weight o (1 + k)) in
        let long : paths_to plain k + get_or plain k 0 - paths_to plain k ≡ all = omega (arith, count_at nc k h) in
        ap₂ (λ (a n : ℕ). count (λ j. test (word_at (path_table np o) j)) (up_from a n)) (before_are nc k (omega arith)) long
        ∙ ap (λ (f : ℕ → ℕ). count (λ j. test (f j)) (up_from at all)) (fun_ext (table_word np))
        ∙ sym (count_map test (λ j. get_or (paths o) j 0) (up_from at all))
        ∙ ap (count test) (words_at_lem none k h)
        ∙ undetected_in p (1 + k)

    -- the counts of the model are those of the definition
    pub divided_counts_lem : (p : ℕ) → divided_counts o.m (path_table np o) (padded nc 0 (plain_counts o)) (o.d - 1) p ≡ undetected_counts o p
    unfolding divided_counts undetected_counts weights
    divided_counts_lem p =
        map_cong_on (divided_of o.m p (path_table np o) (padded nc 0 (plain_counts o))) (λ k. undetected_count o p (1 + k)) (up_from 0 (o.d - 1))
        (λ k l. let b = up_from_bounds 0 (o.d - 1) l in divided_of_lem p k (omega arith))
        ∙ map-up_from-suc (undetected_count o p) 0 (o.d - 1)

    -- what the listing leaves can be counted over
    pub readable : o.N ≤ 128 → o.d - 1 ≤ nc → 2 * length (paths o) ≤ np → Readable o.N (o.d - 1) (path_table np o) (padded nc 0 (plain_counts o))
    unfolding path_table
    readable few enough room =
        let n = length-halves (paths o) in
        record {
          narrow = few;
          numbers = table_number np few;
          words = λ k. subst (λ (x : ℕ). x < 2 ^ o.N) (sym (table_word np k)) (path_small k);
          weights = omega (arith, length-plain_counts o, length-padded nc 0 (plain_counts o) (omega (arith, length-plain_counts o)));
          inside = omega (arith, before_all none nc, length-padded np 0 (flat_map halves (paths o)) (omega arith));
        }

-- ---- counted from the first entry on

module _ (m p : ℕ) (table plain : List ℕ) (entries : ℕ) where
  pub length-divided_counts : length (divided_counts m table plain entries p) ≡ entries
  unfolding divided_counts
  length-divided_counts = length-map-up_from (divided_of m p table plain) 0 entries

  pub counted-all : (l : List ℕ) → counted_from m p table plain 0 entries l ≡ divided_counts m table plain entries p ++ drop entries l
  unfolding counted_from divided_counts
  counted-all l = let e : entries - 0 ≡ entries = omega arith in ap (λ (n : ℕ). map (divided_of m p table plain) (up_from 0 n) ++ drop entries l) e

  -- in a cleared list
  pub counted-cleared : (nu : ℕ) → entries ≤ nu → counted_from m p table plain 0 entries (replicate nu 0) ≡ padded nu 0 (divided_counts m table plain entries p)
  counted-cleared nu h =
      let xs : List ℕ = divided_counts m table plain entries p in
      let zeros : List ℕ = replicate nu 0 in
      let n : length xs ≡ entries = length-divided_counts in
      let size : length zeros ≡ nu = length-replicate nu 0 in
      let same : entries ≡ 0 + length xs = omega arith in
      counted-all zeros ∙ ap (λ (k : ℕ). xs ++ drop k zeros) same ∙ sym (sets-eq xs zeros 0 (omega arith))
      ∙ sets_cleared nu 0 xs (omega arith)
