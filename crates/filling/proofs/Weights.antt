-- Weight by weight, from 1 on: what stands in the path table and in the counts before weight w (`Held`), what one weight adds, and that there are too many paths
-- where the table does not take its words.
-- Assumes nothing.
use Prim.Native.Nat.{ℕ, zero, suc, ◌+◌, ◌-◌, ◌*◌, ◌/◌, ◌≤◌, ◌<◌}
use native.Mathlib.Nat.{add-zero}
use native.Mathlib.Omega.{arith}
use mathlib.Core.Path.{◌≡◌, refl, sym, ap, ap₂, ◌∙◌, subst}
use mathlib.Core.Logic.{inl, inr}
use mathlib.Core.List.{List, [], ◌∷◌, ◌++◌, map, flat_map, map-append, append_assoc}
use lib.ListN.{length, set, replicate, length-append, length-map}
use Rattle.lists.specs.Lists.{up_from, padded}
use Rattle.lists.proofs.Lengths.{up_from_last, length-up_from, length-padded}
use Rattle.lists.proofs.Blocks.{flat_map_one, flat_map_append}
use Rattle.poly.specs.Word.{halves}
use Rattle.poly.proofs.Halves.{length-halves}
use Rattle.order.specs.Order.{Order}
use Rattle.paths.specs.Paths.{words_of_weight, weights, paths, plain_counts, path_room}
use Rattle.paths.specs.Model.Joining.{chain_words}
use Rattle.paths.proofs.Listed.{plain_count_is_part}
use Rattle.paths.proofs.FromOne.{paths_from_1}
use Rattle.paths.proofs.Words.{chain_words_distinct, of_chain_words, sorted-chain_words, length-chain_words}
use Rattle.rotations.specs.Model.Put.{puts}
use Rattle.rotations.proofs.Puts.{length-puts, puts-listed, puts_too_many}
use Rattle.bounds.proofs.Placed.{lt_or_ge}
use Rattle.sort.specs.Model.Sort.{sorted, sorted_part}
use Rattle.sort.specs.Model.Steps.{Narrow}
use Rattle.sort.proofs.Sorting.{sorted_within, within_sorted, sorted_increasing}
use Rattle.sort.proofs.Parts.{narrow_appended, sorted_part_appended}
use Rattle.filling.specs.Model.Filling.{settled_paths, settled_counts, Settles}
use Rattle.filling.proofs.Ordered.{Ordered}
use Rattle.filling.proofs.Settled.{settled_sorted}

-- one number more after those of a list that is made up by zeros
set-padded : (size : ℕ) (xs : List ℕ) (x : ℕ) → length xs < size → set (padded size 0 xs) (length xs) x ≡ padded size 0 (xs ++ (x ∷ []))
unfolding padded
set-padded size xs x h =
    set_after xs (replicate (size - length xs) 0) x
    ∙ ap (λ (l : List ℕ). xs ++ set l 0 x) (ap (λ (k : ℕ). replicate k 0) (some_more size (length xs) h))
    ∙ sym (append_assoc xs (x ∷ []) (replicate (size - suc (length xs)) 0))
    ∙ ap (λ (k : ℕ). (xs ++ (x ∷ [])) ++ replicate (size - k) 0) (sym (length-append xs (x ∷ []) ∙ last_one (length xs)))
  where
    some_more : (a b : ℕ) → b < a → a - b ≡ suc (a - suc b)
    some_more a b g = omega arith

    last_one : (a : ℕ) → a + 1 ≡ suc a
    last_one a = omega arith

    set_after : (l k : List ℕ) (y : ℕ) → set (l ++ k) (length l) y ≡ l ++ set k 0 y
    set_after [] k y = refl
    set_after (z ∷ l) k y = ap (λ (r : List ℕ). z ∷ r) (set_after l k y)

module _ (o : Order) (ok : Ordered o) where
  -- the words of weights from 1 to below w, and how many there are of each
  unfoldable pub words_to : ℕ → List ℕ
  words_to w = flat_map (words_of_weight o) (up_from 1 (w - 1))

  unfoldable pub counts_to : ℕ → List ℕ
  counts_to w = map (λ x. length (words_of_weight o x)) (up_from 1 (w - 1))

  -- the weights below w + 1
  next-weights : (w : ℕ) → 1 ≤ w → up_from 1 (w + 1 - 1) ≡ up_from 1 (w - 1) ++ (w ∷ [])
  next-weights w h = ap (up_from 1) longer_by_one ∙ up_from_last 1 (w - 1) ∙ ap (λ (x : ℕ). up_from 1 (w - 1) ++ (x ∷ [])) itself
    where
      longer_by_one : w + 1 - 1 ≡ suc (w - 1)
      longer_by_one = omega arith

      itself : 1 + (w - 1) ≡ w
      itself = omega arith

  next-words : (w : ℕ) → 1 ≤ w → words_to (w + 1) ≡ words_to w ++ words_of_weight o w
  unfolding words_to
  next-words w h =
      ap (flat_map (words_of_weight o)) (next-weights w h) ∙ flat_map_append (words_of_weight o) (up_from 1 (w - 1)) (w ∷ [])
      ∙ ap (λ (l : List ℕ). flat_map (words_of_weight o) (up_from 1 (w - 1)) ++ l) (flat_map_one (words_of_weight o) w)

  next_counts : (w : ℕ) → 1 ≤ w → counts_to (w + 1) ≡ counts_to w ++ (length (words_of_weight o w) ∷ [])
  unfolding counts_to
  next_counts w h = ap (map part) (next-weights w h) ∙ map-append part (up_from 1 (w - 1)) (w ∷ [])
    where
      part : ℕ → ℕ
      part x = length (words_of_weight o x)

  length_counts_to : (w : ℕ) → length (counts_to w) ≡ w - 1
  unfolding counts_to
  length_counts_to w = length-map (up_from 1 (w - 1)) (λ x. length (words_of_weight o x)) ∙ length-up_from 1 (w - 1)

  pub all_words : words_to o.d ≡ paths o
  unfolding words_to weights
  all_words = paths_from_1 o ok.none

  pub all_counts : counts_to o.d ≡ plain_counts o
  unfolding counts_to weights
  all_counts = sym (plain_count_is_part o)

  -- there are no fewer of more weights
  words_rise : (n w : ℕ) → 1 ≤ w → length (words_to w) ≤ length (words_to (w + n))
  words_rise zero w g = let e = ap (λ (x : ℕ). length (words_to x)) (add-zero w) in omega arith
  words_rise (suc n) w g =
      let h = words_rise n (w + 1) (omega arith) in
      let a = ap length (next-words w g) ∙ length-append (words_to w) (words_of_weight o w) in
      let e = ap (λ (x : ℕ). length (words_to x)) (shift w n) in
      omega arith
    where
      shift : (a b : ℕ) → a + 1 + b ≡ a + suc b
      shift a b = omega arith

  -- ---- before weight w

  module _ (size csize : ℕ) (enough : o.d - 1 ≤ csize) where
    pub record Held (w at : ℕ) (ps cs : List ℕ) : Type 0 where
      pub begun : 1 ≤ w
      pub fits : length (words_to w) ≤ size / 2
      pub place : at ≡ length (words_to w)
      pub paths_are : ps ≡ padded size 0 (flat_map halves (words_to w))
      pub counts_are : cs ≡ padded csize 0 (counts_to w)

    pub held_first : Held 1 0 (replicate size 0) (replicate csize 0)
    unfolding words_to counts_to padded up_from flat_map
    held_first =
        record { begun = omega arith; fits = omega arith; place = refl; paths_are = ap (λ (k : ℕ). replicate k 0) (none_off size); counts_are = ap (λ (k : ℕ). replicate k 0) (none_off csize) }
      where
        none_off : (x : ℕ) → x ≡ x - 0
        none_off x = omega arith

    pub held_sizes : (w at : ℕ) (ps cs : List ℕ) → w ≤ o.d → Held w at ps cs → (length ps ≡ size) × (length cs ≡ csize)
    held_sizes w at ps cs below h =
        let n = length-halves (words_to w) in
        let f = h.fits in
        (ap length h.paths_are ∙ length-padded size 0 (flat_map halves (words_to w)) (omega arith), ap length h.counts_are ∙ length-padded csize 0 (counts_to w) (omega (arith, length_counts_to w)))

    -- ---- weight w

    module _ (w at : ℕ) (ps cs : List ℕ) (light : w < o.d) (h : Held w at ps cs) (ps' : List ℕ) (next : ℕ) (appended : ◌≡◌ {A = List ℕ × ℕ} (ps', next) (puts (chain_words o w) (ps, at))) where
      abbrev ws : List ℕ
      ws = words_to w

      abbrev us : List ℕ
      us = chain_words o w

      -- what is appended to the words before
      from_listed : ◌≡◌ {A = List ℕ × ℕ} (ps', next) (puts us (padded size 0 (flat_map halves ws), length ws))
      from_listed = appended ∙ ap₂ (λ (x : List ℕ) (y : ℕ). puts us (x, y)) h.paths_are h.place

      sorted_is : sorted us ≡ words_of_weight o w
      sorted_is = sorted-chain_words o ok.some ok.longer w ok.fit light (sorted us) (sorted_increasing us (chain_words_distinct o ok.some ok.longer w)) (sorted_within us) (within_sorted us)

      same_number : length us ≡ length (words_of_weight o w)
      same_number = length-chain_words o ok.some ok.longer w ok.fit light

      pub size_after : length ps' ≡ size
      size_after = ap (λ (s : List ℕ × ℕ). length s.0) appended ∙ length-puts us (ps, at) ∙ (held_sizes w at ps cs (omega arith) h).0

      -- where the table takes them
      module _ (room : length ws + length us ≤ size / 2) where
        in_table : ◌≡◌ {A = List ℕ × ℕ} (ps', next) (padded size 0 (flat_map halves (ws ++ us)), length ws + length us)
        unfolding path_room
        in_table = from_listed ∙ puts-listed size ws us room

        next_is : next ≡ length ws + length us
        next_is = ap (λ (s : List ℕ × ℕ). s.1) in_table

        zeros : List ℕ
        zeros = replicate (size - length (flat_map halves (ws ++ us))) 0

        made : ps' ≡ flat_map halves ws ++ flat_map halves us ++ replicate (size - length (flat_map halves (ws ++ us))) 0
        unfolding padded
        made = ap (λ (s : List ℕ × ℕ). s.0) in_table ∙ ap (λ (l : List ℕ). l ++ replicate (size - length (flat_map halves (ws ++ us))) 0) (flat_map_append halves ws us)

        narrow : Narrow ps' at next o.N
        narrow =
            subst (λ (x : ℕ). Narrow ps' x next o.N) (sym h.place) (subst (λ (x : ℕ). Narrow ps' (length ws) x o.N) (sym next_is)
            (narrow_appended ws us (replicate (size - length (flat_map halves (ws ++ us))) 0) ps' made o.N ok.few (λ u m. (of_chain_words o ok.some ok.longer w ok.fit u m).1)))

        sorted_table : sorted_part ps' at next ≡ padded size 0 (flat_map halves (words_to (w + 1)))
        unfolding padded
        sorted_table =
            ap₂ (sorted_part ps') h.place next_is ∙ sorted_part_appended ws us (replicate (size - length (flat_map halves (ws ++ us))) 0) ps' made
            ∙ ap₂ (λ (l : List ℕ) (k : ℕ). flat_map halves ws ++ flat_map halves l ++ replicate (size - k) 0) sorted_is same_length
            ∙ ap (λ (l : List ℕ). l ++ replicate (size - length (flat_map halves (words_to (w + 1)))) 0) (sym (flat_map_append halves ws (words_of_weight o w)) ∙ ap (flat_map halves) (sym (next-words w h.begun)))
          where
            same_length : length (flat_map halves (ws ++ us)) ≡ length (flat_map halves (words_to (w + 1)))
            same_length =
                length-halves (ws ++ us) ∙ ap (λ (x : ℕ). 2 * x) (length-append ws us ∙ ap (λ (x : ℕ). length ws + x) same_number ∙ sym (ap length (next-words w h.begun) ∙ length-append ws (words_of_weight o w)))
                ∙ sym (length-halves (words_to (w + 1)))

        counted : set cs (w - 1) (next - at) ≡ padded csize 0 (counts_to (w + 1))
        counted =
            ap₂ (λ (l : List ℕ) (x : ℕ). set l (w - 1) x) h.counts_are (difference (length ws) (length us) next at next_is h.place ∙ same_number)
            ∙ ap (λ (x : ℕ). set (padded csize 0 (counts_to w)) x (length (words_of_weight o w))) (sym (length_counts_to w))
            ∙ set-padded csize (counts_to w) (length (words_of_weight o w)) (omega (arith, length_counts_to w, h.begun)) ∙ ap (padded csize 0) (sym (next_counts w h.begun))
          where
            difference : (a b n m : ℕ) → n ≡ a + b → m ≡ a → n - m ≡ b
            difference a b n m e f = omega arith

        held_next : Held (w + 1) next (sorted_part ps' at next) (set cs (w - 1) (next - at))
        held_next =
            let n : length (words_to (w + 1)) ≡ length ws + length us = ap length (next-words w h.begun) ∙ length-append ws (words_of_weight o w) ∙ ap (λ (x : ℕ). length ws + x) (sym same_number) in
            record { begun = omega arith; fits = omega arith; place = next_is ∙ sym n; paths_are = sorted_table; counts_are = counted }

      -- where it does not
      module _ (room : size / 2 < length ws + length us) where
        next_past : next ≡ size / 2 + 1
        unfolding path_room
        next_past = ap (λ (s : List ℕ × ℕ). s.1) from_listed ∙ puts_too_many size ws us h.fits room

        more_paths : size / 2 < length (paths o)
        more_paths =
            let n : length (words_to (w + 1)) ≡ length ws + length us = ap length (next-words w h.begun) ∙ length-append ws (words_of_weight o w) ∙ ap (λ (x : ℕ). length ws + x) (sym same_number) in
            let rise = words_rise (o.d - (w + 1)) (w + 1) (omega arith) in
            let rest : w + 1 + (o.d - (w + 1)) ≡ o.d = omega arith in
            let e = ap (λ (x : ℕ). length (words_to x)) rest ∙ ap length all_words in
            omega arith

      -- the place tells which
      room_if : next ≤ size / 2 → length ws + length us ≤ size / 2
      room_if i = elim (lt_or_ge (size / 2) (length ws + length us)) [ inl past ↦ absurd (let p = next_past past in omega arith) | inr room ↦ room ]

      pub settles : Settles ps' cs at next w o.N
      settles =
          let s = size_after in
          let c = (held_sizes w at ps cs (omega arith) h).1 in
          record {
            some_weight = h.begun;
            counted = omega (arith, h.begun);
            narrow = λ l. narrow (room_if (rw s at l));
          }

      -- the table and the counts after weight w
      pub held_after : next ≤ size / 2 → Held (w + 1) next (settled_paths ps' at next) (settled_counts (length ps') cs at next w)
      held_after i =
          let f = settled_sorted ps' cs at next w (rw size_after i) in
          rw (sym f.0, sym f.1) (held_next (room_if i))

      pub too_many : size / 2 < next → size / 2 < length (paths o)
      too_many past = elim (lt_or_ge (size / 2) (length ws + length us)) [ inl full ↦ more_paths full | inr room ↦ absurd (let n = next_is room in omega arith) ]
