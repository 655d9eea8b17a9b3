-- One candidate against the best counts, entry by entry: what a count that stops at one more than the best says, who has fewer at the first entry
-- where the two differ, and the counts in the undetected list.
-- Assumes nothing.
use Prim.Native.Nat.{ℕ, ◌+◌, ◌-◌, ◌≤◌, ◌<◌}
use native.Mathlib.Nat.{zero-add, lt_of_not-le}
use native.Mathlib.Decide.{dec_le}
use native.Mathlib.Omega.{arith}
use mathlib.Core.Path.{◌≡◌, sym, ap, ap₂, ◌∙◌}
use mathlib.Core.Bool.{Bool, cond}
use mathlib.Core.Logic.{◌⊎◌, inl, inr, ⊎_elim}
use mathlib.Core.List.{List, ◌++◌, map, append_assoc, map-append}
use borrow.Author.Count.{below_more}
use borrow.Author.Tests.{lt-leb}
use lib.Dec.{T}
use lib.ListN.{length, get_or, take, drop, take-append-drop, get_or-append}
use lib.Seq.{ext_get_or, take-append-le, take_at, drop_at, get_or-take, length-take-le}
use Rattle.lists.specs.Lists.{up_from}
use Rattle.lists.proofs.Lengths.{get_or-map-up_from, length-map-up_from, up_from-append}
use Rattle.parity.specs.Model.Parity.{check_table, Divisor}
use Rattle.paths.specs.Part.{paths_to}
use Rattle.undetected.specs.Model.Steps.{divided_of, divided_counts, even_between, up_to, counted_from, Readable}
use Rattle.undetected.proofs.Counting.{up_to_within, even_le}
use Rattle.undetected.proofs.Counted.{counted-weight}
use Rattle.undetected.proofs.Counts.{length-divided_counts, counted-all}
use Rattle.choice.specs.Choice.{fewer}
use Rattle.choice.specs.Model.Steps.{laid}
use Rattle.choice.proofs.Fewer.{fewer_of_lowest}

-- ---- the counts of one polynomial

module _ (m p : ℕ) (table plain : List ℕ) (entries : ℕ) where
  count_at : (j : ℕ) → j < entries → get_or (divided_counts m table plain entries p) j 0 ≡ divided_of m p table plain j
  unfolding divided_counts
  count_at j h = get_or-map-up_from (divided_of m p table plain) 0 entries j 0 h ∙ ap (divided_of m p table plain) (zero-add j)

  -- those before entry j, and the others
  counts_split : (j : ℕ) → j ≤ entries
      → divided_counts m table plain entries p ≡ map (divided_of m p table plain) (up_from 0 j) ++ map (divided_of m p table plain) (up_from j (entries - j))
  unfolding divided_counts
  counts_split j h =
      let f : ℕ → ℕ = divided_of m p table plain in
      let e : entries ≡ j + (entries - j) = omega arith in
      ap (λ (n : ℕ). map f (up_from 0 n)) e ∙ ap (map f) (up_from-append 0 j (entries - j)) ∙ map-append f (up_from 0 j) (up_from (0 + j) (entries - j))
      ∙ ap (λ (n : ℕ). map f (up_from 0 j) ++ map f (up_from n (entries - j))) (zero-add j)

  front_of_counts : (j : ℕ) → j ≤ entries → take j (divided_counts m table plain entries p) ≡ map (divided_of m p table plain) (up_from 0 j)
  front_of_counts j h =
      let f : ℕ → ℕ = divided_of m p table plain in
      ap (take j) (counts_split j h) ∙ take_at (map f (up_from 0 j)) (map f (up_from j (entries - j))) j (length-map-up_from f 0 j)

-- ---- lists that agree before an entry

abbrev pub Agree : ℕ → List ℕ → List ℕ → Type 0
Agree j a b = (i : ℕ) → i < j → get_or a i 0 ≡ get_or b i 0

pub agree_all : (entries : ℕ) (a b : List ℕ) → length a ≡ entries → length b ≡ entries → Agree entries a b → a ≡ b
agree_all entries a b la lb agree = ext_get_or 0 a b (la ∙ sym lb) (λ i h. agree i (omega arith))

agree_front : (entries j : ℕ) (a b : List ℕ) → length a ≡ entries → length b ≡ entries → j ≤ entries → Agree j a b → take j a ≡ take j b
agree_front entries j a b la lb h agree =
    let na : length (take j a) ≡ j = length-take-le j a (omega arith) in
    let nb : length (take j b) ≡ j = length-take-le j b (omega arith) in
    agree_all j (take j a) (take j b) na nb (λ i l. get_or-take j a i 0 l ∙ agree i l ∙ sym (get_or-take j b i 0 l))

-- ---- the lent list

-- a list that begins with a
pub laid_itself : (entries : ℕ) (a l : List ℕ) → length a ≡ entries → take entries l ≡ a → l ≡ laid a l
unfolding laid
laid_itself entries a l n e = sym (take-append-drop entries l) ∙ ap₂ (λ (x : List ℕ) (k : ℕ). x ++ drop k l) e (sym n)

-- counted from the first entry on
pub counted-laid : (m p : ℕ) (table plain : List ℕ) (entries : ℕ) (l : List ℕ)
    → counted_from m p table plain 0 entries l ≡ laid (divided_counts m table plain entries p) l
unfolding laid
counted-laid m p table plain entries l =
    counted-all m p table plain entries l
    ∙ ap (λ (k : ℕ). divided_counts m table plain entries p ++ drop k l) (sym (length-divided_counts m p table plain entries))

pub take-laid : (entries : ℕ) (a l : List ℕ) → length a ≡ entries → take entries (laid a l) ≡ a
unfolding laid
take-laid entries a l n = take_at a (drop (length a) l) entries n

-- what stands behind as many counts stays
pub laid_again : (entries : ℕ) (a b l : List ℕ) → length a ≡ entries → length b ≡ entries → laid b (laid a l) ≡ laid b l
unfolding laid
laid_again entries a b l la lb =
    ap (λ (x : List ℕ). b ++ x) (drop_at a (drop (length a) l) (length b) (la ∙ sym lb) ∙ ap (λ (k : ℕ). drop k l) (la ∙ sym lb))

module _ (entries : ℕ) (a l : List ℕ) (sized : length a ≡ entries) (room : entries ≤ length l) where
  pub laid_at : (j : ℕ) → j < entries → get_or (laid a l) j 0 ≡ get_or a j 0
  unfolding laid
  laid_at j h = get_or-append a (drop (length a) l) 0 j (omega arith)

  -- counted anew from the first entry that differs on
  pub laid_recounted : (m p : ℕ) (table plain : List ℕ) (j : ℕ) → j ≤ entries → Agree j (divided_counts m table plain entries p) a
      → counted_from m p table plain j entries (laid a l) ≡ laid (divided_counts m table plain entries p) l
  unfolding counted_from laid
  laid_recounted m p table plain j h agree =
      let f : ℕ → ℕ = divided_of m p table plain in
      let mine : List ℕ = divided_counts m table plain entries p in
      let n : length mine ≡ entries = length-divided_counts m p table plain entries in
      let front : take j (a ++ drop (length a) l) ≡ map f (up_from 0 j) =
      take-append-le j a (drop (length a) l) (omega arith) ∙ sym (agree_front entries j mine a n sized h agree) ∙ front_of_counts m p table plain entries j h in
      let behind : drop entries (a ++ drop (length a) l) ≡ drop (length mine) l =
      drop_at a (drop (length a) l) entries sized ∙ ap (λ (k : ℕ). drop k l) (sized ∙ sym n) in
      ap₂ (λ (x y : List ℕ). x ++ (map f (up_from j (entries - j)) ++ y)) front behind
      ∙ sym (append_assoc (map f (up_from 0 j)) (map f (up_from j (entries - j))) (drop (length mine) l))
      ∙ ap (λ (x : List ℕ). x ++ drop (length mine) l) (sym (counts_split m p table plain entries j h))

-- ---- a count up to a limit

-- a count, or one more than the limit
up_to_cases : (limit c found : ℕ) → found ≡ up_to limit c → ((c ≤ limit) × (found ≡ c)) ⊎ ((limit < c) × (found ≡ limit + 1))
unfolding up_to
up_to_cases limit c found e = by (dec_le c limit)
  where
    by : Dec (c ≤ limit) → ((c ≤ limit) × (found ≡ c)) ⊎ ((limit < c) × (found ≡ limit + 1))
    by (yes h) = inl (h, e ∙ sym (up_to_within limit c h))
    by (no h) = inr (lt_of_not-le h, e ∙ ap (λ (b : Bool). cond b c (limit + 1)) (lt-leb c limit (lt_of_not-le h)))

-- ---- one entry

-- what the count at entry j says of a candidate's counts and the best
pub record Verdict (j limit found : ℕ) (best mine : List ℕ) : Type 0 where
  pub worse : limit < found → T (fewer best mine)
  pub better : found < limit → T (fewer mine best)
  pub level : limit ≡ found → Agree (j + 1) mine best

module _ {bits entries m p n at : ℕ} {table plain rows : List ℕ} (readable : Readable bits entries table plain) (divisor : Divisor m p)
    (j : ℕ) (made : (rows ≡ check_table bits m p) × (n ≡ m)) (placed : at ≡ paths_to plain j) where
  -- no more than there are words, so no limit enters
  even-counted : even_between rows n table at (at + get_or plain j 0) ≡ divided_of m p table plain j
  even-counted =
      let all : ℕ = get_or plain j 0 in
      let few = even_le rows n table at (at + all) in
      counted-weight bits entries m p table plain readable divisor rows n j at (even_between rows n table at (at + all)) made placed
      (up_to_within all (even_between rows n table at (at + all)) (omega arith))

  pub verdict : {best : List ℕ} {limit found : ℕ} → j < entries → length best ≡ entries → Agree j (divided_counts m table plain entries p) best
      → limit ≡ get_or best j 0 → found ≡ up_to limit (even_between rows n table at (at + get_or plain j 0))
      → Verdict j limit found best (divided_counts m table plain entries p)
  verdict {best} {limit} {found} h sized agree el ef = record {
    worse = λ t. fewer_of_lowest best mine (j, omega arith, λ i l. sym (agree i l), omega (arith, found_more t));
    better = λ t. fewer_of_lowest mine best (j, omega (arith, length-divided_counts m p table plain entries), agree, omega (arith, found_less t));
    level = λ t. below_more (λ i. get_or mine i 0 ≡ get_or best i 0) j agree (omega (arith, found_same t));
  }
    where
      mine : List ℕ
      mine = divided_counts m table plain entries p

      c : ℕ
      c = get_or (divided_counts m table plain entries p) j 0

      cases : ((c ≤ limit) × (found ≡ c)) ⊎ ((limit < c) × (found ≡ limit + 1))
      cases = up_to_cases limit c found (ef ∙ ap (up_to limit) (even-counted ∙ sym (count_at m p table plain entries j h)))

      found_more : limit < found → limit < c
      found_more t = ⊎_elim (λ k. omega arith) (λ k. k.0) cases

      found_less : found < limit → c < limit
      found_less t = ⊎_elim (λ k. omega arith) (λ k. omega arith) cases

      found_same : limit ≡ found → c ≡ limit
      found_same t = ⊎_elim (λ k. omega arith) (λ k. omega arith) cases
