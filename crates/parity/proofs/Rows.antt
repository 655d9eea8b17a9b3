-- The rows as the code makes them: a bit put above the bits of a word in two halves of 64 bits, the powers of x divided one after another, and the
-- rows stored in the table.
-- Assumes nothing.
use mathlib.Core.Path.{◌≡◌, refl, sym, ap, ap₂, ◌∙◌}
use mathlib.Core.List.{List, [], ◌∷◌, ◌++◌, map, flat_map, map-append}
use Prim.Native.Nat.{ℕ, ◌+◌, ◌-◌, ◌*◌, ◌/◌, ◌%◌, ◌^◌, ◌≤◌, ◌<◌}
use native.Mathlib.Nat.{zero-add, pow-succ', mul_assoc}
use native.Mathlib.Numerals.{add-one}
use native.Mathlib.Omega.{arith}
use lib.ListN.{length, set, replicate}
use lib.Pow.{pow-lt, shl_exact, low, high}
use Rattle.lists.specs.Lists.{up_from, padded}
use Rattle.lists.proofs.Lengths.{length-map-up_from, up_from_last}
use Rattle.poly.specs.Poly.{bit, from_bits, register, remainder}
use Rattle.poly.specs.Word.{halves}
use Rattle.poly.proofs.Halves.{stored-halves}
use Rattle.poly.proofs.Remainder.{remainder_small, remainder_double}
use Rattle.poly.proofs.Shifts.{beside_fits, high_power}
use Rattle.parity.specs.Model.Parity.{check_row, check_table}
use Rattle.parity.proofs.Divided.{row_more}

-- ---- a bit above the others

-- in the low half
module _ (h l j b : ℕ) (small : h * 2 ^ 64 + l < 2 ^ j) (s : j < 64) where
  pub low_fits : l + b * 2 ^ j % 2 ^ 64 < 2 ^ 64
  low_fits = beside_fits l b j s (omega arith)

  pub low_set : b < 2 → h * 2 ^ 64 + (l + b * 2 ^ j % 2 ^ 64) ≡ b * 2 ^ j + (h * 2 ^ 64 + l)
  low_set p = let whole : b * 2 ^ j % 2 ^ 64 ≡ b * 2 ^ j = shl_exact 1 j 64 p (omega arith) in omega arith

-- in the high one
module _ (h l j b : ℕ) (small : h * 2 ^ 64 + l < 2 ^ j) (many : 64 ≤ j) (s : j < 128) where
  pub high_fits : h + b * 2 ^ (j - 64) % 2 ^ 64 < 2 ^ 64
  high_fits = let q : 2 ^ (j - 64) * 2 ^ 64 ≡ 2 ^ j = high_power j many in beside_fits h b (j - 64) (omega arith) (omega arith)

  pub high_set : b < 2 → (h + b * 2 ^ (j - 64) % 2 ^ 64) * 2 ^ 64 + l ≡ b * 2 ^ j + (h * 2 ^ 64 + l)
  high_set p =
      regroup h (b * 2 ^ (j - 64) % 2 ^ 64) l
      ∙ ap (λ (x : ℕ). x + (h * 2 ^ 64 + l))
      (ap (λ (x : ℕ). x * 2 ^ 64) (shl_exact 1 (j - 64) 64 p (omega arith)) ∙ mul_assoc b (2 ^ (j - 64)) (2 ^ 64) ∙ ap (λ (x : ℕ). b * x) (high_power j many))
    where
      regroup : (x y z : ℕ) → (x + y) * 2 ^ 64 + z ≡ y * 2 ^ 64 + (x * 2 ^ 64 + z)
      regroup x y z = omega arith

-- ---- a row

pub row_none : (m p i : ℕ) → 0 ≡ check_row 0 m p i
unfolding check_row from_bits
row_none m p i = refl

pub row_next : (j m p i : ℕ) → bit i (remainder m p (2 ^ j)) * 2 ^ j + check_row j m p i ≡ check_row (j + 1) m p i
row_next j m p i = sym (ap (λ (x : ℕ). check_row x m p i) (add-one j) ∙ row_more j m p i)

pub power_first : (m p : ℕ) → 1 ≤ m → 1 ≡ remainder m p (2 ^ 0)
power_first m p h = sym (remainder_small m p 1 (pow-lt h))

pub power_next : (j m p : ℕ) → register m p (remainder m p (2 ^ j)) 0 ≡ remainder m p (2 ^ (j + 1))
power_next j m p = sym (ap (λ (x : ℕ). remainder m p (2 ^ x)) (add-one j) ∙ ap (remainder m p) (pow-succ' 2 j) ∙ remainder_double m p (2 ^ j))

-- ---- the table

-- its first i rows
unfoldable pub rows_to : ℕ → ℕ → ℕ → ℕ → List ℕ
rows_to N m p i = padded 24 0 (flat_map halves (map (check_row N m p) (up_from 0 i)))

pub rows_none : (N m p : ℕ) → replicate 24 0 ≡ rows_to N m p 0
unfolding rows_to padded up_from flat_map
rows_none N m p = refl

pub rows_all : (N m p i : ℕ) → i ≡ m → rows_to N m p i ≡ check_table N m p
unfolding rows_to check_table
rows_all N m p i e = ap (λ (k : ℕ). padded 24 0 (flat_map halves (map (check_row N m p) (up_from 0 k)))) e

pub rows_next : (N m p i h l : ℕ) → l < 2 ^ 64 → i < 12 → h * 2 ^ 64 + l ≡ check_row N m p i
    → set (set (rows_to N m p i) (2 * i) l) (2 * i + 1) h ≡ rows_to N m p (i + 1)
unfolding rows_to
rows_next N m p i h l small s e =
    let us : List ℕ = map (check_row N m p) (up_from 0 i) in
    let t : List ℕ = padded 24 0 (flat_map halves us) in
    let u : ℕ = h * 2 ^ 64 + l in
    let n : length us ≡ i = length-map-up_from (check_row N m p) 0 i in
    ap₂ (λ (x y : ℕ). set (set t (2 * i) x) (2 * i + 1) y) (sym (low h 64 small)) (sym (high h 64 small))
    ∙ ap (λ (k : ℕ). set (set t (2 * k) (u % 2 ^ 64)) (2 * k + 1) (u / 2 ^ 64)) (sym n)
    ∙ stored-halves 24 us u (omega arith)
    ∙ ap (λ (x : ℕ). padded 24 0 (flat_map halves (us ++ (x ∷ [])))) (e ∙ ap (check_row N m p) (sym (zero-add i)))
    ∙ ap (λ (x : List ℕ). padded 24 0 (flat_map halves x))
    (sym (ap (λ (k : ℕ). map (check_row N m p) (up_from 0 k)) (add-one i) ∙ ap (map (check_row N m p)) (up_from_last 0 i) ∙ map-append (check_row N m p) (up_from 0 i) ((0 + i) ∷ [])))
