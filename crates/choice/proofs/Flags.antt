-- The flags, one a candidate: put down from the front, and those that are up, in order.
-- Assumes nothing.
use Prim.Native.Nat.{ℕ, zero, suc, ◌+◌, ◌-◌, ◌≤◌, ◌<◌}
use native.Mathlib.Nat.{le_of_suc-le-suc, zero-add}
use native.Mathlib.Numerals.{add-one}
use native.Mathlib.Omega.{arith}
use mathlib.Core.Path.{◌≡◌, refl, sym, ap, ap₂, ◌∙◌, subst}
use mathlib.Core.Bool.{Bool, true, false, cond}
use mathlib.Core.List.{List, [], ◌∷◌, ◌++◌, append-nil, Memᴰ}
use lib.ListN.{length, get_or, set, take, drop, replicate, length-append}
use lib.Seq.{length-take-le}
use Rattle.std.proofs.Common.{Option, Some, None, MatchOption, IsSome, slice_get, get_or-take, take_all}
use Rattle.std.specs.List.{AllWithin, HoldsAt, filter as kept}
use Rattle.std.proofs.lemmas.List.Elements.{filter_more}
use Rattle.std.proofs.lemmas.Option.{none-some, same_Some}
use mathlib.Core.List.Memᴰ
use Rattle.lists.specs.Lists.{up_from, filter}
use Rattle.lists.proofs.Lengths.{up_from_last, up_from-append}
use Rattle.lists.proofs.Filters.{filter-append, filter_cong_on, filter_one}
use Rattle.lists.proofs.Member.{up_from_bounds}
use Rattle.choice.specs.Choice.{first_of}
use Rattle.choice.specs.Model.Steps.{dropped, alive_below}

-- ---- put down from the front

filled : (k : ℕ) (alive : List Bool) → k ≤ length alive → replicate k false ++ drop k alive ≡ dropped k alive
unfolding dropped
filled zero alive h = refl
filled (suc k) [] h = absurd (omega arith)
filled (suc k) (b ∷ alive) h = ap (λ (l : List Bool). false ∷ l) (filled k alive (le_of_suc-le-suc h))

pub dropped_filled : (k : ℕ) (alive : List Bool) {front : List Bool} → front ≡ replicate (length (take k alive)) false → k ≤ length alive
    → front ++ drop k alive ≡ dropped k alive
dropped_filled k alive e h =
    ap (λ (l : List Bool). l ++ drop k alive) (e ∙ ap (λ (n : ℕ). replicate n false) (length-take-le k alive h)) ∙ filled k alive h

pub dropped_before : (k j : ℕ) (alive : List Bool) → j < k → get_or (dropped k alive) j false ≡ false
unfolding dropped
dropped_before zero j alive h = absurd (omega arith)
dropped_before (suc k) j [] h = refl
dropped_before (suc k) zero (b ∷ alive) h = refl
dropped_before (suc k) (suc j) (b ∷ alive) h = dropped_before k j alive (le_of_suc-le-suc h)

pub dropped_after : (k j : ℕ) (alive : List Bool) → k ≤ j → get_or (dropped k alive) j false ≡ get_or alive j false
unfolding dropped
dropped_after zero j alive h = refl
dropped_after (suc k) j [] h = refl
dropped_after (suc k) zero (b ∷ alive) h = absurd (omega arith)
dropped_after (suc k) (suc j) (b ∷ alive) h = dropped_after k j alive (le_of_suc-le-suc h)

pub put_down_at : (k : ℕ) (alive : List Bool) → get_or (set alive k false) k false ≡ false
put_down_at k [] = refl
put_down_at zero (b ∷ alive) = refl
put_down_at (suc k) (b ∷ alive) = put_down_at k alive

-- ---- those that are up

pub none_below : (alive : List Bool) → alive_below alive 0 ≡ []
unfolding alive_below up_from filter
none_below alive = refl

module _ (alive : List Bool) (k : ℕ) where
  below_more : (b : Bool) → get_or alive k false ≡ b → alive_below alive (k + 1) ≡ alive_below alive k ++ cond b (k ∷ []) []
  unfolding alive_below
  below_more b e =
      let up : ℕ → Bool = λ (i : ℕ). get_or alive i false in
      ap (λ (i : ℕ). filter up (up_from 0 i)) (add-one k) ∙ ap (filter up) (up_from_last 0 k) ∙ filter-append up (up_from 0 k) ((0 + k) ∷ [])
      ∙ ap (λ (i : ℕ). filter up (up_from 0 k) ++ filter up (i ∷ [])) (zero-add k)
      ∙ ap (λ (l : List ℕ). filter up (up_from 0 k) ++ l) (filter_one up k b e)

  pub below_up : get_or alive k false ≡ true → alive_below alive (k + 1) ≡ alive_below alive k ++ (k ∷ [])
  below_up e = below_more true e

  below_down : get_or alive k false ≡ false → alive_below alive (k + 1) ≡ alive_below alive k
  below_down e = below_more false e ∙ append-nil (alive_below alive k)

  -- ---- the first

  -- none below k, and k
  first_so_far : alive_below alive k ≡ [] → get_or alive k false ≡ true
      → (j : ℕ) → alive_below alive (k + 1 + j) ≡ k ∷ filter (λ (i : ℕ). get_or alive i false) (up_from (k + 1) j)
  unfolding alive_below
  first_so_far none e j =
      let up : ℕ → Bool = λ (i : ℕ). get_or alive i false in
      ap (filter up) (up_from-append 0 (k + 1) j) ∙ filter-append up (up_from 0 (k + 1)) (up_from (0 + (k + 1)) j)
      ∙ ap₂ (λ (l : List ℕ) (i : ℕ). l ++ filter up (up_from i j)) (below_up e ∙ ap (λ (l : List ℕ). l ++ (k ∷ [])) none) (zero-add (k + 1))

-- ---- none is up for a while

pub none_between : (alive : List Bool) (k j : ℕ) → ((i : ℕ) → k ≤ i → i < k + j → get_or alive i false ≡ false)
    → alive_below alive (k + j) ≡ alive_below alive k
none_between alive k zero none = let same : k + zero ≡ k = omega arith in ap (alive_below alive) same
none_between alive k (suc j) none =
    let more : k + suc j ≡ k + j + 1 = omega arith in
    ap (alive_below alive) more ∙ below_down alive (k + j) (none (k + j) (omega arith) (omega arith))
    ∙ none_between alive k j (λ i a b. none i a (omega arith))

-- ---- all flags

-- those of a part that begins the list
part_alive : (alive : List Bool) (n : ℕ) → n ≤ length alive → alive_below (take n alive) (length (take n alive)) ≡ alive_below alive n
unfolding alive_below
part_alive alive n inside =
    ap (λ (i : ℕ). filter (λ k. get_or (take n alive) k false) (up_from 0 i)) (length-take-le n alive inside)
    ∙ filter_cong_on (λ k. get_or (take n alive) k false) (λ k. get_or alive k false) (up_from 0 n)
    (λ k member. get_or-take n alive k false (omega (arith, (up_from_bounds 0 n member).1)))

module _ (alive : List Bool) where
  one : (k : ℕ) (b : Bool) → length (cond b (b ∷ []) []) ≡ length (cond b (k ∷ []) [])
  one k true = refl
  one k false = refl

  counted : (n : ℕ) → n ≤ length alive → length (kept (λ b. b) (take n alive)) ≡ length (alive_below alive n)
  counted zero h = sym (ap length (none_below alive))
  counted (suc k) h =
      let up : Bool = get_or alive k false in
      let parts = length-append (kept (λ b. b) (take k alive)) (cond up (up ∷ []) []) in
      let places = length-append (alive_below alive k) (cond up (k ∷ []) []) in
      ap (λ (i : ℕ). length (kept (λ b. b) (take i alive))) (sym (add-one k)) ∙ ap length (filter_more (λ b. b) alive k false (omega arith))
      ∙ parts ∙ ap₂ ◌+◌ (counted k (omega arith)) (one k up) ∙ sym places ∙ sym (ap length (below_more alive k up refl))
      ∙ ap (λ (i : ℕ). length (alive_below alive i)) (add-one k)

  pub counted-all : length (kept (λ b. b) alive) ≡ length (alive_below alive (length alive))
  counted-all =
      sym (ap (λ (l : List Bool). length (kept (λ b. b) l)) (take_all (length alive) alive (omega arith))) ∙ counted (length alive) (omega arith)

  down : (i : ℕ) → AllWithin (λ b. b ≡ false) alive 0 i → alive_below alive i ≡ []
  down i none = ap (alive_below alive) (sym (zero-add i)) ∙ none_between alive 0 i (λ j a b. none j false a (omega arith)) ∙ none_below alive

  pub first_found : (r : Option ℕ)
      → MatchOption r (AllWithin (λ b. b ≡ false) alive 0 (length alive))
      (λ i. (i < length alive) × HoldsAt (λ b. b ≡ true) alive i × AllWithin (λ b. b ≡ false) alive 0 i)
      → r ≡ slice_get (alive_below alive (length alive)) 0
  first_found None none = ap (λ (l : List ℕ). slice_get l 0) (sym (down (length alive) none))
  first_found (Some i) found =
      let below = found.0 in
      let more : i + 1 + (length alive - (i + 1)) ≡ length alive = omega arith in
      ap (λ (l : List ℕ). slice_get l 0)
      (sym (first_so_far alive i (down i found.2) (found.1 false) (length alive - (i + 1))) ∙ ap (alive_below alive) more)

-- ---- the first of a list

first_of_get : {k : ℕ} {r : Option ℕ} (l : List ℕ) → r ≡ Some k → r ≡ slice_get l 0 → k ≡ first_of l
unfolding first_of
first_of_get {k} [] is e = absurd (none-some k (sym e ∙ is))
first_of_get {k} (x ∷ l) is e = same_Some k x (sym is ∙ e)

some_first : {k : ℕ} {r : Option ℕ} (l : List ℕ) → Memᴰ k l → r ≡ slice_get l 0 → IsSome r
some_first [] member e = absurd (Memᴰ.not-nil member)
some_first (x ∷ l) member e = subst IsSome (sym e) refl

-- ---- the first n of the flags

module _ (flags : List Bool) (n : ℕ) (inside : n ≤ length flags) where
  abbrev pub those : List ℕ
  those = alive_below (take n flags) (length (take n flags))

  pub all_of_part : {r : ℕ} → r ≡ length those → r ≡ length (alive_below flags n)
  all_of_part e = e ∙ ap length (part_alive flags n inside)

  pub first_of_part : {k : ℕ} {r : Option ℕ} → r ≡ Some k → r ≡ slice_get those 0 → k ≡ first_of (alive_below flags n)
  first_of_part is e = first_of_get (alive_below flags n) is (e ∙ ap (λ (l : List ℕ). slice_get l 0) (part_alive flags n inside))

  pub some_of_part : {k : ℕ} {r : Option ℕ} → Memᴰ k (alive_below flags n) → r ≡ slice_get those 0 → IsSome r
  some_of_part member e = some_first (alive_below flags n) member (e ∙ ap (λ (l : List ℕ). slice_get l 0) (part_alive flags n inside))
