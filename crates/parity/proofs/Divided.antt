-- What the parity checks tell: bit i of the remainder of a word is the parity of its ones at the places of row i, so p divides the word exactly
-- when every row has an even number of them.
-- Assumes nothing.
use mathlib.Core.Path.{◌≡◌, refl, sym, ap, ap₂, ◌∙◌, subst}
use mathlib.Core.Bool.{Bool}
use mathlib.Core.List.{List, map, flat_map}
use Prim.Native.Nat.{ℕ, zero, suc, ◌+◌, ◌*◌, ◌/◌, ◌%◌, ◌^◌, ◌<◌}
use native.Mathlib.Nat.{zero-add, add_comm, zero-mul, one-mul, mod-lt, pow-succ', div-lt_iff_lt-mul}
use native.Mathlib.Omega.{arith}
use lib.Arith.{lt-one}
use lib.Bits.{differ, bit_and}
use lib.Count.{ones}
use lib.Dec.{T, eqb, eqb→eq}
use lib.ListN.{length, get_or}
use lib.Pow.{pow_pos, split}
use Rattle.lists.specs.Lists.{up_from, all}
use Rattle.lists.proofs.Choices.{eqb_passes}
use Rattle.lists.proofs.Lengths.{length-map-up_from, get_or-map-up_from, get_or-padded_inside}
use Rattle.lists.proofs.Member.{in_up_from, up_from_bounds, of_all, in_all}
use Rattle.lists.proofs.Tests.{same_test}
use Rattle.poly.specs.Poly.{bit, ◌⊕◌, HasDegree, remainder}
use Rattle.poly.specs.Word.{halves}
use Rattle.poly.proofs.Sum.{for_bits, bit_lt, bit_⊕, ⊕_shifted}
use Rattle.poly.proofs.Bits.{bit_zero, eq_by_bits, from_bits_lt, from_bits_last}
use Rattle.poly.proofs.Remainder.{remainder_zero, remainder_⊕, remainder_lt}
use Rattle.poly.proofs.Halves.{length-halves, get_or-halves}
use Rattle.parity.specs.Model.Parity.{check_row, check_table, oddness, even, all_even}
use Rattle.parity.proofs.Ones.{ones_⊕, ones_and_block, ones_and_digits, ones_and_none}

-- ---- a row

pub row_lt : (N m p i : ℕ) → check_row N m p i < 2 ^ N
unfolding check_row
row_lt N m p i = from_bits_lt N (λ j. bit i (remainder m p (2 ^ j))) (λ j. bit_lt i (remainder m p (2 ^ j)))

-- the row of words with one bit more
pub row_more : (N m p i : ℕ) → check_row (suc N) m p i ≡ bit i (remainder m p (2 ^ N)) * 2 ^ N + check_row N m p i
unfolding check_row
row_more N m p i = from_bits_last N (λ j. bit i (remainder m p (2 ^ j)))

-- ---- a bit of the remainder

differ_sum : (x y : ℕ) → x < 2 → y < 2 → differ x y ≡ (x + y) % 2
differ_sum x y hx hy =
    for_bits (λ (a : ℕ). differ a y ≡ (a + y) % 2) (for_bits (λ (b : ℕ). differ 0 b ≡ (0 + b) % 2) refl refl y hy)
    (for_bits (λ (b : ℕ). differ 1 b ≡ (1 + b) % 2) refl refl y hy) x hx

top_lt : (u N : ℕ) → u < 2 ^ suc N → u / 2 ^ N < 2
top_lt u N h = (div-lt_iff_lt-mul (pow_pos N)).1 (subst (λ (x : ℕ). u < x) (pow-succ' 2 N) h)

module _ (m p i : ℕ) where
  -- of a digit at place k
  bit_of_digit : (b k : ℕ) → b < 2 → bit i (remainder m p (b * 2 ^ k)) ≡ b * bit i (remainder m p (2 ^ k))
  bit_of_digit b k h =
      for_bits (λ (x : ℕ). bit i (remainder m p (x * 2 ^ k)) ≡ x * bit i (remainder m p (2 ^ k)))
      (ap (λ (x : ℕ). bit i (remainder m p x)) (zero-mul (2 ^ k)) ∙ ap (bit i) (remainder_zero m p) ∙ bit_zero i ∙ sym (zero-mul (bit i (remainder m p (2 ^ k)))))
      (ap (λ (x : ℕ). bit i (remainder m p x)) (one-mul (2 ^ k)) ∙ sym (one-mul (bit i (remainder m p (2 ^ k))))) b h

  -- of a word with the digit b above the bits of u
  bit_with_digit : (N b u : ℕ) → b < 2 → u < 2 ^ N → bit i (remainder m p u) ≡ ones (bit_and u (check_row N m p i)) % 2
      → bit i (remainder m p (b * 2 ^ N + u)) ≡ ones (bit_and (b * 2 ^ N + u) (check_row (suc N) m p i)) % 2
  bit_with_digit N b u hb hu e =
      let x : ℕ = bit i (remainder m p (2 ^ N)) in
      let row : ℕ = check_row N m p i in
      ap (λ (y : ℕ). bit i (remainder m p y)) (sym (⊕_shifted b N u hu))
      ∙ ap (bit i) (remainder_⊕ m p (b * 2 ^ N) u)
      ∙ bit_⊕ i (remainder m p (b * 2 ^ N)) (remainder m p u)
      ∙ differ_sum (bit i (remainder m p (b * 2 ^ N))) (bit i (remainder m p u)) (bit_lt i (remainder m p (b * 2 ^ N))) (bit_lt i (remainder m p u))
      ∙ ap₂ (λ (y z : ℕ). (y + z) % 2) (bit_of_digit b N hb ∙ sym (ones_and_digits b x hb (bit_lt i (remainder m p (2 ^ N))))) e
      ∙ parity (ones (bit_and b x)) (ones (bit_and u row))
      ∙ ap (λ (y : ℕ). y % 2) (sym (ones_and_block N b x u row hu (row_lt N m p i)))
      ∙ ap (λ (y : ℕ). ones (bit_and (b * 2 ^ N + u) y) % 2) (sym (row_more N m p i))
    where
      parity : (x y : ℕ) → (x + y % 2) % 2 ≡ (x + y) % 2
      parity x y = omega arith

  -- it is the parity of the ones at the places of row i
  pub bit_of_remainder : (N u : ℕ) → u < 2 ^ N → bit i (remainder m p u) ≡ ones (bit_and u (check_row N m p i)) % 2
  bit_of_remainder zero u h =
      let none : u ≡ 0 = lt-one h in
      ap (λ (x : ℕ). bit i (remainder m p x)) none ∙ ap (bit i) (remainder_zero m p) ∙ bit_zero i
      ∙ sym (ap (λ (x : ℕ). ones (bit_and x (check_row 0 m p i)) % 2) none ∙ ap (λ (x : ℕ). x % 2) (ones_and_none (check_row 0 m p i)))
  bit_of_remainder (suc N) u h =
      let low : u % 2 ^ N < 2 ^ N = mod-lt u (pow_pos N) in
      subst (λ (x : ℕ). bit i (remainder m p x) ≡ ones (bit_and x (check_row (suc N) m p i)) % 2) (split u N)
      (bit_with_digit N (u / 2 ^ N) (u % 2 ^ N) (top_lt u N h) low (bit_of_remainder N (u % 2 ^ N) low))

-- ---- a row of the table

get_or_table : (N m p i : ℕ) → i < m → (get_or (check_table N m p) (2 * i) 0 ≡ check_row N m p i % 2 ^ 64) × (get_or (check_table N m p) (2 * i + 1) 0 ≡ check_row N m p i / 2 ^ 64)
unfolding check_table
get_or_table N m p i h =
    let us : List ℕ = map (check_row N m p) (up_from 0 m) in
    let n : length (flat_map halves us) ≡ 2 * m = length-halves us ∙ ap (λ (x : ℕ). 2 * x) (length-map-up_from (check_row N m p) 0 m) in
    let at : get_or us i 0 ≡ check_row N m p i = get_or-map-up_from (check_row N m p) 0 m i 0 h ∙ ap (check_row N m p) (zero-add i) in
    let two = get_or-halves us i in (
      get_or-padded_inside 24 0 (flat_map halves us) (2 * i) 0 (omega arith) ∙ two.0 ∙ ap (λ (x : ℕ). x % 2 ^ 64) at,
      get_or-padded_inside 24 0 (flat_map halves us) (2 * i + 1) 0 (omega arith) ∙ two.1 ∙ ap (λ (x : ℕ). x / 2 ^ 64) at,
    )

-- the ones of both halves
ones_at_row : (row low high : ℕ) → low < 2 ^ 64
    → ones (bit_and low (row % 2 ^ 64) ⊕ bit_and high (row / 2 ^ 64)) % 2 ≡ ones (bit_and (high * 2 ^ 64 + low) row) % 2
ones_at_row row low high h =
    ones_⊕ (bit_and low (row % 2 ^ 64)) (bit_and high (row / 2 ^ 64))
    ∙ ap (λ (x : ℕ). x % 2)
    (add_comm (ones (bit_and low (row % 2 ^ 64))) (ones (bit_and high (row / 2 ^ 64)))
    ∙ sym (ones_and_block 64 high (row / 2 ^ 64) low (row % 2 ^ 64) h (mod-lt row (pow_pos 64)))
    ∙ ap (λ (x : ℕ). ones (bit_and (high * 2 ^ 64 + low) x)) (split row 64))

even-bit : (N m p low high i : ℕ) → low < 2 ^ 64 → high * 2 ^ 64 + low < 2 ^ N → i < m
    → even (check_table N m p) low high i ≡ eqb (bit i (remainder m p (high * 2 ^ 64 + low))) 0
unfolding even oddness
even-bit N m p low high i small short h =
    let at = get_or_table N m p i h in
    ap (λ (x : ℕ). eqb x 0)
    (ap₂ (λ (x y : ℕ). ones (bit_and low x ⊕ bit_and high y) % 2) at.0 at.1
    ∙ ones_at_row (check_row N m p i) low high small
    ∙ sym (bit_of_remainder m p i N (high * 2 ^ 64 + low) short))

-- ---- all rows

-- p divides the word with these halves exactly when every row is even
pub all-even_divided : (N m p low high : ℕ) → HasDegree m p → low < 2 ^ 64 → high * 2 ^ 64 + low < 2 ^ N
    → all_even (check_table N m p) m low high ≡ eqb (remainder m p (high * 2 ^ 64 + low)) 0
unfolding all_even
all-even_divided N m p low high d small short =
    let r : ℕ = remainder m p (high * 2 ^ 64 + low) in
    let rows : ℕ → Bool = even (check_table N m p) low high in
    let row : (i : ℕ) → i < m → rows i ≡ eqb (bit i r) 0 = λ i h. even-bit N m p low high i small short h in
    same_test (all rows (up_from 0 m)) (eqb r 0)
    (λ t. eqb_passes r 0
    (eq_by_bits m r 0 (remainder_lt m p (high * 2 ^ 64 + low) d) (pow_pos m)
    (λ i h. eqb→eq (bit i r) 0 (subst T (row i h) (of_all rows (up_from 0 m) t i (in_up_from 0 m (omega arith) (omega arith)))) ∙ sym (bit_zero i))))
    (λ t. in_all rows (up_from 0 m)
    (λ i l. let h = up_from_bounds 0 m l in
    subst T (sym (row i (omega arith))) (eqb_passes (bit i r) 0 (ap (bit i) (eqb→eq r 0 t) ∙ bit_zero i))))
