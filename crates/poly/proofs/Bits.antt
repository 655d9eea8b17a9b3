-- Laws of single digits: a number from its digits, the digits of a number, and that numbers with the same digits are equal.
-- Assumes nothing.
use mathlib.Core.Path.{◌≡◌, refl, sym, ap, ap₂, ◌∙◌, subst}
use Prim.Native.Nat.{ℕ, zero, suc, ◌+◌, ◌*◌, ◌/◌, ◌%◌, ◌^◌, ◌≤◌, ◌<◌, suc-le-suc}
use native.Mathlib.Nat.{not-suc-le-zero, le_of_suc-le-suc, zero-lt-suc, div-one, div-div-eq-div-mul, div-lt_iff_lt-mul, div-eq_of_lt, lt_of_lt_of_le, pow-suc, pow-succ', mul_left_comm, add_comm, mod-add-div}
use native.Mathlib.Omega.{arith}
use lib.Arith.{lt-one}
use lib.Bits.{block_half, block_odd}
use lib.Count.{ones, ones_step, ones_in}
use lib.Pow.{low, pow_mono}
use Rattle.lists.specs.Lists.{sum}
use Rattle.lists.proofs.Sums.{sum_cong}
use Rattle.poly.specs.Poly.{bit, from_bits}
use Rattle.poly.proofs.Sum.{half_push, mod2_push}

-- ---- the digits of a number, and of its half

pub bit-first : (a : ℕ) → bit 0 a ≡ a % 2
unfolding bit
bit-first a = ap (λ (x : ℕ). x % 2) (div-one a)

pub bit_later : (j a : ℕ) → bit (suc j) a ≡ bit j (a / 2)
unfolding bit
bit_later j a = ap (λ (x : ℕ). x % 2) (ap (λ (x : ℕ). a / x) (pow-succ' 2 j) ∙ sym (div-div-eq-div-mul a 2 (2 ^ j)))

pub bit_zero : (j : ℕ) → bit j 0 ≡ 0
bit_zero zero = bit-first 0
bit_zero (suc j) = bit_later j 0 ∙ bit_zero j

-- a number of k digits has none from place k on
pub bit_above : (j k a : ℕ) → a < 2 ^ k → k ≤ j → bit j a ≡ 0
unfolding bit
bit_above j k a h l = ap (λ (x : ℕ). x % 2) (div-eq_of_lt (lt_of_lt_of_le h (pow_mono l)))

-- the digits below place k do not see what stands above
pub bit_low : (j k a r : ℕ) → j < k → bit j (a * 2 ^ k + r) ≡ bit j r
bit_low j zero a r h = absurd (not-suc-le-zero h)
bit_low zero (suc k) a r h = bit-first (a * 2 ^ suc k + r) ∙ block_odd a k r ∙ sym (bit-first r)
bit_low (suc j) (suc k) a r h =
    bit_later j (a * 2 ^ suc k + r) ∙ ap (bit j) (block_half a k r) ∙ bit_low j k a (r / 2) (le_of_suc-le-suc h) ∙ sym (bit_later j r)

-- halving takes one digit off
pub half_lt : (k a : ℕ) → a < 2 ^ suc k → a / 2 < 2 ^ k
half_lt k a h = (div-lt_iff_lt-mul (zero-lt-suc 1)).1 (subst (λ (x : ℕ). a < x) (pow-suc 2 k) h)

-- ---- a number from its digits

pub from_bits_cong : (k : ℕ) (f g : ℕ → ℕ) → ((j : ℕ) → j < k → f j ≡ g j) → from_bits k f ≡ from_bits k g
unfolding from_bits
from_bits_cong zero f g h = refl
from_bits_cong (suc k) f g h =
    ap₂ (λ (x y : ℕ). x + 2 * y) (h 0 (zero-lt-suc k)) (from_bits_cong k (λ j. f (suc j)) (λ j. g (suc j)) (λ j l. h (suc j) (suc-le-suc l)))

pub from_bits_lt : (k : ℕ) (f : ℕ → ℕ) → ((j : ℕ) → f j < 2) → from_bits k f < 2 ^ k
unfolding from_bits
from_bits_lt zero f h = zero-lt-suc 0
from_bits_lt (suc k) f h =
    let ih : from_bits k (λ j. f (suc j)) < 2 ^ k = from_bits_lt k (λ j. f (suc j)) (λ j. h (suc j)) in
    let h0 : f 0 < 2 = h 0 in
    let e : 2 ^ suc k ≡ 2 * 2 ^ k = pow-succ' 2 k in
    omega arith

-- the digit shifted in is the lowest
from_bits_push : (k : ℕ) (f : ℕ → ℕ) → from_bits (suc k) f ≡ 2 * from_bits k (λ j. f (suc j)) + f 0
unfolding from_bits
from_bits_push k f = add_comm (f 0) (2 * from_bits k (λ j. f (suc j)))

pub bit-from_bits : (j k : ℕ) (f : ℕ → ℕ) → ((i : ℕ) → f i < 2) → j < k → bit j (from_bits k f) ≡ f j
bit-from_bits j zero f h l = absurd (not-suc-le-zero l)
bit-from_bits zero (suc k) f h l =
    bit-first (from_bits (suc k) f) ∙ ap (λ (x : ℕ). x % 2) (from_bits_push k f) ∙ mod2_push (from_bits k (λ j. f (suc j))) (f 0) (h 0)
bit-from_bits (suc j) (suc k) f h l =
    bit_later j (from_bits (suc k) f)
    ∙ ap (bit j) (ap (λ (x : ℕ). x / 2) (from_bits_push k f) ∙ half_push (from_bits k (λ i. f (suc i))) (f 0) (h 0))
    ∙ bit-from_bits j k (λ i. f (suc i)) (λ i. h (suc i)) (le_of_suc-le-suc l)

-- a number of k digits is the number from its digits
pub from_bits_bits : (k a : ℕ) → a < 2 ^ k → from_bits k (λ j. bit j a) ≡ a
unfolding from_bits
from_bits_bits zero a h = sym (lt-one h)
from_bits_bits (suc k) a h =
    ap₂ (λ (x y : ℕ). x + 2 * y) (bit-first a)
    (from_bits_cong k (λ j. bit (suc j) a) (λ j. bit j (a / 2)) (λ j _. bit_later j a) ∙ from_bits_bits k (a / 2) (half_lt k a h))
    ∙ mod-add-div a 2

-- numbers of k digits with the same digits are equal
pub eq_by_bits : (k a b : ℕ) → a < 2 ^ k → b < 2 ^ k → ((j : ℕ) → j < k → bit j a ≡ bit j b) → a ≡ b
eq_by_bits k a b ha hb h = sym (from_bits_bits k a ha) ∙ from_bits_cong k (λ j. bit j a) (λ j. bit j b) h ∙ from_bits_bits k b hb

-- the highest digit split off
pub from_bits_last : (k : ℕ) (f : ℕ → ℕ) → from_bits (suc k) f ≡ f k * 2 ^ k + from_bits k f
unfolding from_bits
from_bits_last zero f = omega arith
from_bits_last (suc k) f =
    let ih : f 1 + 2 * from_bits k (λ j. f (suc (suc j))) ≡ f (suc k) * 2 ^ k + from_bits k (λ j. f (suc j)) = from_bits_last k (λ j. f (suc j)) in
    let e : f (suc k) * 2 ^ suc k ≡ 2 * (f (suc k) * 2 ^ k) = ap (λ (x : ℕ). f (suc k) * x) (pow-succ' 2 k) ∙ mul_left_comm (f (suc k)) 2 (2 ^ k) in
    omega arith

pub from_bits-mod : (k : ℕ) (f : ℕ → ℕ) → ((j : ℕ) → f j < 2) → from_bits (suc k) f % 2 ^ k ≡ from_bits k f
from_bits-mod k f h = ap (λ (x : ℕ). x % 2 ^ k) (from_bits_last k f) ∙ low (f k) k (from_bits_lt k f h)

-- ---- the number of ones

pub ones_sum : (k a : ℕ) → a < 2 ^ k → ones a ≡ sum k (λ j. bit j a)
unfolding sum ones ones_in
ones_sum zero a h = ap ones (lt-one h)
ones_sum (suc k) a h =
    ones_step a
    ∙ ap₂ (λ (x y : ℕ). x + y) (sym (bit-first a))
    (ones_sum k (a / 2) (half_lt k a h) ∙ sum_cong k (λ j. bit j (a / 2)) (λ j. bit (suc j) a) (λ j _. sym (bit_later j a)))
