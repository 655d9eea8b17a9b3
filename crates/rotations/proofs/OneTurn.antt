-- A word begun one step later: half the word, and its lowest bit as the highest. The same of a word in two halves, as the code computes it.
-- Assumes nothing.
use Prim.Native.Nat.{ℕ, zero, suc, ◌+◌, ◌-◌, ◌*◌, ◌/◌, ◌%◌, ◌^◌, ◌≤◌, ◌<◌}
use native.Mathlib.Nat.{add_comm, not-suc-le-zero, pow-succ', mod-eq_of_lt, mul_assoc}
use native.Mathlib.Numerals.{add-one}
use native.Mathlib.Omega.{arith}
use mathlib.Core.Path.{◌≡◌, sym, ap, ap₂, ◌∙◌}
use lib.Pow.{pow-add, pow-lt, pow_mono}
use Rattle.poly.specs.Poly.{bit, from_bits}
use Rattle.poly.proofs.Bits.{bit-first, bit_later, half_lt, from_bits_cong, from_bits_bits, from_bits_last}
use Rattle.poly.proofs.Sum.{mod2_lt}
use Rattle.code.specs.Trellis.{place, rotate}
use Rattle.code.proofs.States.{place_period, place-bit}

-- ---- numbers

turn_top : (k u : ℕ) → place (suc k) u (k + 1) ≡ u % 2
turn_top k u =
    ap (place (suc k) u) (around k) ∙ place_period (suc k) u 0 ∙ place-bit (suc k) u 0 (some k) ∙ bit-first u
  where
    around : (x : ℕ) → x + 1 ≡ 0 + suc x
    around x = omega arith

    some : (x : ℕ) → 0 < suc x
    some x = omega arith

turn_rest : (k u : ℕ) → u < 2 ^ suc k → from_bits k (λ t. place (suc k) u (t + 1)) ≡ u / 2
turn_rest k u h =
    from_bits_cong k (λ t. place (suc k) u (t + 1)) (λ t. bit t (u / 2))
    (λ t l. place-bit (suc k) u (t + 1) (omega arith) ∙ ap (λ (x : ℕ). bit x u) (add-one t) ∙ bit_later t u)
    ∙ from_bits_bits k (u / 2) (half_lt k u h)

turn_suc : (k u : ℕ) → u < 2 ^ suc k → rotate (suc k) 1 u ≡ u / 2 + u % 2 * 2 ^ k
unfolding rotate
turn_suc k u h =
    from_bits_last k (λ t. place (suc k) u (t + 1))
    ∙ ap₂ (λ (x y : ℕ). x * 2 ^ k + y) (turn_top k u) (turn_rest k u h)
    ∙ add_comm (u % 2 * 2 ^ k) (u / 2)

pub rotate_one : (N u : ℕ) → 0 < N → u < 2 ^ N → rotate N 1 u ≡ u / 2 + u % 2 * 2 ^ (N - 1)
rotate_one zero u p h = absurd (not-suc-le-zero p)
rotate_one (suc k) u p h = turn_suc k u h ∙ ap (λ (x : ℕ). u / 2 + u % 2 * 2 ^ x) (less k)
  where
    less : (x : ℕ) → x ≡ suc x - 1
    less x = omega arith

-- ---- the lowest bit, moved up

bit_times : (b p : ℕ) → b < 2 → b * p ≤ p
bit_times zero p h = omega arith
bit_times (suc zero) p h = omega arith
bit_times (suc (suc b)) p h = absurd (omega arith)

moved : (b k : ℕ) → b < 2 → k < 64 → b * 2 ^ k % 2 ^ 64 ≡ b * 2 ^ k
moved b k h l =
    let most : b * 2 ^ k ≤ 2 ^ k = bit_times b (2 ^ k) h in
    let small : 2 ^ k < 2 ^ 64 = pow-lt l in
    mod-eq_of_lt (below (b * 2 ^ k) (2 ^ k) (2 ^ 64) most small)
  where
    below : (x y z : ℕ) → x ≤ y → y < z → x < z
    below x y z p q = omega arith

-- ---- in two halves

-- the low half with what comes down into it
pub low_fits : (h l : ℕ) → l < 2 ^ 64 → l / 2 + h * 2 ^ 63 % 2 ^ 64 < 2 ^ 64
low_fits h l p = omega arith

low_parity : (h l : ℕ) → l % 2 ≡ (h * 2 ^ 64 + l) % 2
low_parity h l = omega arith

halved : (h l : ℕ) → h / 2 * 2 ^ 64 + (l / 2 + h * 2 ^ 63 % 2 ^ 64) ≡ (h * 2 ^ 64 + l) / 2
halved h l = omega arith

double : (N : ℕ) → 0 < N → 2 ^ N ≡ 2 * 2 ^ (N - 1)
double N p = ap (λ (x : ℕ). 2 ^ x) (before N p) ∙ pow-succ' 2 (N - 1)
  where
    before : (x : ℕ) → 0 < x → x ≡ suc (x - 1)
    before x q = omega arith

-- words of up to 64 bits: the high half is 0, and the bit goes into the low half
module _ (N h l : ℕ) (pos : 0 < N) (small : h * 2 ^ 64 + l < 2 ^ N) (few : N ≤ 64) where
  no_high : h ≡ 0
  no_high = let top : 2 ^ N ≤ 2 ^ 64 = pow_mono few in omega arith

  pub short_fits : l / 2 + h * 2 ^ 63 % 2 ^ 64 + l % 2 * 2 ^ (N - 1) % 2 ^ 64 < 2 ^ 64
  short_fits =
      let none : h ≡ 0 = no_high in
      let top : 2 ^ N ≤ 2 ^ 64 = pow_mono few in
      let two : 2 ^ N ≡ 2 * 2 ^ (N - 1) = double N pos in
      let up : l % 2 * 2 ^ (N - 1) % 2 ^ 64 ≡ l % 2 * 2 ^ (N - 1) = moved (l % 2) (N - 1) (mod2_lt l) (omega arith) in
      let most : l % 2 * 2 ^ (N - 1) ≤ 2 ^ (N - 1) = bit_times (l % 2) (2 ^ (N - 1)) (mod2_lt l) in
      sum (l / 2) (h * 2 ^ 63 % 2 ^ 64) _ _ (2 ^ (N - 1)) (omega arith) (omega arith) up most (omega arith)
    where
      sum : (x y z w p : ℕ) → x < p → y ≡ 0 → z ≡ w → w ≤ p → 2 * p ≤ 2 ^ 64 → x + y + z < 2 ^ 64
      sum x y z w p a b c d e = omega arith

  pub short_turn : h / 2 * 2 ^ 64 + (l / 2 + h * 2 ^ 63 % 2 ^ 64 + l % 2 * 2 ^ (N - 1) % 2 ^ 64) ≡ rotate N 1 (h * 2 ^ 64 + l)
  short_turn =
      regroup (h / 2 * 2 ^ 64) (l / 2 + h * 2 ^ 63 % 2 ^ 64) (l % 2 * 2 ^ (N - 1) % 2 ^ 64)
      ∙ ap₂ (λ (x y : ℕ). x + y) (halved h l) (moved (l % 2) (N - 1) (mod2_lt l) (omega arith) ∙ ap (λ (x : ℕ). x * 2 ^ (N - 1)) (low_parity h l))
      ∙ sym (rotate_one N (h * 2 ^ 64 + l) pos small)
    where
      regroup : (x y z : ℕ) → x + (y + z) ≡ x + y + z
      regroup x y z = omega arith

-- longer words: it goes into the high half
module _ (N h l : ℕ) (small : h * 2 ^ 64 + l < 2 ^ N) (many : 64 < N) (most : N ≤ 128) where
  high_power : 2 ^ (N - 1) ≡ 2 ^ (N - 65) * 2 ^ 64
  high_power = ap (λ (x : ℕ). 2 ^ x) (split N many) ∙ pow-add 2 (N - 65) 64
    where
      split : (x : ℕ) → 64 < x → x - 1 ≡ x - 65 + 64
      split x p = omega arith

  pub long_fits : h / 2 + l % 2 * 2 ^ (N - 65) % 2 ^ 64 < 2 ^ 64
  long_fits =
      let two : 2 ^ N ≡ 2 * 2 ^ (N - 1) = double N (some N many) in
      let high : 2 ^ (N - 1) ≡ 2 ^ (N - 65) * 2 ^ 64 = high_power in
      let top : 2 ^ (N - 65) ≤ 2 ^ 63 = pow_mono (fewer N most) in
      let up : l % 2 * 2 ^ (N - 65) % 2 ^ 64 ≡ l % 2 * 2 ^ (N - 65) = moved (l % 2) (N - 65) (mod2_lt l) (few N most) in
      let less : l % 2 * 2 ^ (N - 65) ≤ 2 ^ (N - 65) = bit_times (l % 2) (2 ^ (N - 65)) (mod2_lt l) in
      sum (h / 2) _ _ (2 ^ (N - 65)) (part h l (2 ^ N) (2 ^ (N - 1)) (2 ^ (N - 65)) small two high) up less top
    where
      some : (x : ℕ) → 64 < x → 0 < x
      some x p = omega arith

      few : (x : ℕ) → x ≤ 128 → x - 65 < 64
      few x p = omega arith

      fewer : (x : ℕ) → x ≤ 128 → x - 65 ≤ 63
      fewer x p = omega arith

      part : (h l n p q : ℕ) → h * 2 ^ 64 + l < n → n ≡ 2 * p → p ≡ q * 2 ^ 64 → h / 2 < q
      part h l n p q a b c = omega arith

      sum : (x z w p : ℕ) → x < p → z ≡ w → w ≤ p → p ≤ 2 ^ 63 → x + z < 2 ^ 64
      sum x z w p a b c d = omega arith

  pub long_turn : (h / 2 + l % 2 * 2 ^ (N - 65) % 2 ^ 64) * 2 ^ 64 + (l / 2 + h * 2 ^ 63 % 2 ^ 64) ≡ rotate N 1 (h * 2 ^ 64 + l)
  long_turn =
      regroup (h / 2) (l % 2 * 2 ^ (N - 65) % 2 ^ 64) (l / 2 + h * 2 ^ 63 % 2 ^ 64)
      ∙ ap₂ (λ (x y : ℕ). x + y) (halved h l)
      (ap (λ (x : ℕ). x * 2 ^ 64) (moved (l % 2) (N - 65) (mod2_lt l) (omega arith))
      ∙ mul_assoc (l % 2) (2 ^ (N - 65)) (2 ^ 64)
      ∙ ap₂ (λ (x y : ℕ). x * y) (low_parity h l) (sym high_power))
      ∙ sym (rotate_one N (h * 2 ^ 64 + l) (omega arith) small)
    where
      regroup : (x y z : ℕ) → (x + y) * 2 ^ 64 + z ≡ x * 2 ^ 64 + z + y * 2 ^ 64
      regroup x y z = omega arith
