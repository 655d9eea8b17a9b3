-- The loop that looks for the first weight: p divides no word of the entries before entry i.
-- Assumes nothing.
use Prim.Native.Nat.{ℕ, zero, suc, ◌+◌, ◌≤◌, ◌<◌}
use native.Mathlib.Decide.{ℕ_discrete, dec_lt}
use native.Mathlib.Omega.{arith}
use mathlib.Core.Path.{◌≡◌, refl, sym, ap, ◌∙◌}
use mathlib.Core.List.{List, map}
use lib.ListN.{get_or}
use Rattle.lists.specs.Lists.{up_from}
use Rattle.parity.specs.Model.Parity.{check_table, Divisor}
use Rattle.paths.specs.Part.{paths_to}
use Rattle.paths.proofs.Parts.{sum_none}
use Rattle.undetected.specs.FirstUndetected.{first_above0}
use Rattle.undetected.specs.Model.Steps.{divided_of, divided_counts, even_between, up_to, Readable}
use Rattle.undetected.proofs.Counting.{up_to_within, up_to_past}
use Rattle.undetected.proofs.Counted.{before_next, counted-weight}
use Rattle.undetected.proofs.FirstUndetected.{first_zero, first_some}

-- ---- the first of values in a row

first_found : (f : ℕ → ℕ) (w a n i : ℕ) → a ≤ i → i < a + n → ((k : ℕ) → a ≤ k → k < i → f k ≡ 0) → (f i ≡ 0 → ⊥)
    → first_above0 w (map f (up_from a n)) + a ≡ w + i
unfolding up_from
first_found f w a zero i l h z some = absurd (omega arith)
first_found f w a (suc n) i l h z some = elim (ℕ_discrete a i) [
  | yes e ↦ omega (arith, first_some w (f a) (map f (up_from (suc a) n)) (λ q. some (ap f (sym e) ∙ q)))
  | no g ↦
      let next = first_zero w (f a) (map f (up_from (suc a) n)) (z a (omega arith) (omega arith)) in
      omega (arith, first_found f (suc w) (suc a) n i (omega arith) (omega arith) (λ k p q. z k (omega arith) q) some)
]

first_none : (f : ℕ → ℕ) (w a n : ℕ) → ((k : ℕ) → a ≤ k → k < a + n → f k ≡ 0) → first_above0 w (map f (up_from a n)) ≡ w + n
unfolding up_from first_above0
first_none f w a zero z = omega arith
first_none f w a (suc n) z =
    let next = first_zero w (f a) (map f (up_from (suc a) n)) (z a (omega arith) (omega arith)) in
    omega (arith, first_none f (suc w) (suc a) n (λ k p q. z k (omega arith) (omega arith)))

-- ---- the words of one entry, of which counting stops at the first

up_to_zero : (limit c : ℕ) → up_to limit c ≡ 0 → c ≡ 0
up_to_zero limit c e = elim (dec_lt limit c) [ yes l ↦ absurd (omega (arith, up_to_past limit c l)) | no n ↦ omega (arith, up_to_within limit c (omega arith)) ]

module _ (bits entries m p : ℕ) (table plain : List ℕ) (readable : Readable bits entries table plain) (divisor : Divisor m p)
    (rows : List ℕ) (count from i r : ℕ) (checks : (rows ≡ check_table bits m p) × (count ≡ m)) (placed : from ≡ paths_to plain i)
    (counted : r ≡ up_to 0 (even_between rows count table from (from + get_or plain i 0))) where
  all-counted : up_to (get_or plain i 0) (even_between rows count table from (from + get_or plain i 0)) ≡ divided_of m p table plain i
  all-counted = counted-weight bits entries m p table plain readable divisor rows count i from _ checks placed refl

  none_divided : r ≡ 0 → divided_of m p table plain i ≡ 0
  none_divided z =
      sym all-counted ∙ ap (up_to (get_or plain i 0)) (up_to_zero 0 _ (sym counted ∙ z)) ∙ sym (up_to_within (get_or plain i 0) 0 (omega arith))

  some_divided : (r ≡ 0 → ⊥) → divided_of m p table plain i ≡ 0 → ⊥
  some_divided n z = n (counted ∙ ap (up_to 0) (up_to_zero (get_or plain i 0) _ (all-counted ∙ z)) ∙ sym (up_to_within 0 0 (omega arith)))

-- ---- the loop

module _ (m p : ℕ) (table plain : List ℕ) where
  pub record Looking (from i : ℕ) : Type 0 where
    pub placed : from ≡ paths_to plain i
    pub none_yet : (k : ℕ) → k < i → divided_of m p table plain k ≡ 0

  pub looking_begin : Looking 0 0
  looking_begin = record { placed = sum_none plain; none_yet = λ k l. absurd (omega arith) }

  -- the words of entry i, up to the first that passes every check
  module _ {bits entries count from i r : ℕ} {rows : List ℕ} (readable : Readable bits entries table plain) (divisor : Divisor m p)
      (checks : (rows ≡ check_table bits m p) × (count ≡ m)) (counted : r ≡ up_to 0 (even_between rows count table from (from + get_or plain i 0)))
      (looking : Looking from i) where
    pub looking_on : r ≡ 0 → Looking (from + get_or plain i 0) (i + 1)
    looking_on z = record {
      placed = omega (arith, before_next plain i, looking.placed);
      none_yet = λ k h. elim (dec_lt k i) [
        | yes before ↦ looking.none_yet k before
        | no n ↦
            let same : k ≡ i = omega arith in
            ap (divided_of m p table plain) same ∙ none_divided bits entries m p table plain readable divisor rows count from i r checks looking.placed counted z
      ];
    }

    pub looking_found : i < entries → (r ≡ 0 → ⊥) → i + 1 ≡ first_above0 1 (divided_counts m table plain entries p)
    unfolding divided_counts
    looking_found more n =
        let some = some_divided bits entries m p table plain readable divisor rows count from i r checks looking.placed counted n in
        omega (arith, first_found (divided_of m p table plain) 1 0 entries i (omega arith) (omega arith) (λ k _ l. looking.none_yet k l) some)

  pub looking_end : (entries : ℕ) {from i : ℕ} → Looking from i → i ≡ entries → entries + 1 ≡ first_above0 1 (divided_counts m table plain entries p)
  unfolding divided_counts
  looking_end entries looking h =
      omega (arith, first_none (divided_of m p table plain) 1 0 entries (λ k _ l. looking.none_yet k (omega arith)))
