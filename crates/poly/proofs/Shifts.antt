-- Laws of a number in two halves of 64 bits, h * 2^64 + l: its shifts, and when it is below 2^k, in the shapes in which `src/word.rt` computes them.
-- Assumes nothing.
use mathlib.Core.Path.{◌≡◌, sym, ap, ap₂, ◌∙◌, subst}
use mathlib.Core.Bool.{true, false}
use Prim.Native.Nat.{ℕ, ◌+◌, ◌-◌, ◌*◌, ◌/◌, ◌%◌, ◌^◌, ◌≤◌, ◌<◌}
use native.Mathlib.Nat.{one-mul, zero-add, add-zero, add_assoc, add_comm, add-mul, mul_assoc, mul_comm, mul_right_comm, div-one, div-eq_of_lt, mod-eq_of_lt, mod-lt, lt_of_lt_of_le, le_trans, le_of_eq, sub-add_cancel, mul-div-mul_right, mul-div_left, mul-mod_left, mul-add-div_right, div-add-mod'}
use native.Mathlib.Nat.{div-lt_iff_lt-mul, lt_of_mul-lt-mul_right, le-add_right, lt_of_le_of_lt}
use native.Mathlib.Decide.{dec_lt}
use native.Mathlib.Omega.{arith}
use borrow.Author.Tests.{lt-ltb, le-ltb}
use lib.Dec.{ltb}
use lib.Arith.{digits_lt, mod-mul}
use lib.Pow.{pow_pos, pow-add, pow-lt, pow_mono}
use Rattle.poly.proofs.Halves.{shr_high}

pub shl_one : (k : ℕ) → k < 64 → 1 * 2 ^ k % 2 ^ 64 ≡ 2 ^ k
shl_one k h = ap (λ (x : ℕ). x % 2 ^ 64) (one-mul (2 ^ k)) ∙ mod-eq_of_lt (pow-lt h)

-- 2^(k - 64) high halves make 2^k
pub high_power : (k : ℕ) → 64 ≤ k → 2 ^ (k - 64) * 2 ^ 64 ≡ 2 ^ k
high_power k h = sym (pow-add 2 (k - 64) 64) ∙ ap (λ (x : ℕ). 2 ^ x) (sub-add_cancel h)

pub halves_lt : (h l : ℕ) → h < 2 ^ 64 → l < 2 ^ 64 → h * 2 ^ 64 + l < 2 ^ 128
halves_lt h l p q = digits_lt p q

-- ---- below 2^k

ltb_cong : (a b c d : ℕ) → (a < b → c < d) → (c < d → a < b) → ltb a b ≡ ltb c d
ltb_cong a b c d f g =
    elim (dec_lt a b) [
      | yes h ↦ lt-ltb a b h ∙ sym (lt-ltb c d (f h))
      | no h ↦ le-ltb a b (omega arith) ∙ sym (le-ltb c d (not_lt c d (λ l. h (g l))))
    ]
  where
    not_lt : (x y : ℕ) → (x < y → ⊥) → y ≤ x
    not_lt x y n = omega arith

pub below_low : (h l k p : ℕ) → h ≡ 0 → p ≡ 2 ^ k → ltb l p ≡ ltb (h * 2 ^ 64 + l) (2 ^ k)
below_low h l k p e f = ltb_cong l p (h * 2 ^ 64 + l) (2 ^ k) (λ t. omega arith) (λ t. omega arith)

pub not_below_low : (h l k : ℕ) → k < 64 → (h ≡ 0 → ⊥) → false ≡ ltb (h * 2 ^ 64 + l) (2 ^ k)
not_below_low h l k t n = let s : 2 ^ k < 2 ^ 64 = pow-lt t in sym (le-ltb (h * 2 ^ 64 + l) (2 ^ k) (omega arith))

pub below_high : (h l k p : ℕ) → l < 2 ^ 64 → 64 ≤ k → p ≡ 2 ^ (k - 64) → ltb h p ≡ ltb (h * 2 ^ 64 + l) (2 ^ k)
below_high h l k p q s e =
    let f : p * 2 ^ 64 ≡ 2 ^ k = ap (λ (x : ℕ). x * 2 ^ 64) e ∙ high_power k s in
    ltb_cong h p (h * 2 ^ 64 + l) (2 ^ k) (λ t. omega arith) (λ t. omega arith)

pub below_all : (h l k : ℕ) → h < 2 ^ 64 → l < 2 ^ 64 → 128 ≤ k → true ≡ ltb (h * 2 ^ 64 + l) (2 ^ k)
below_all h l k p q s = sym (lt-ltb (h * 2 ^ 64 + l) (2 ^ k) (lt_of_lt_of_le (halves_lt h l p q) (pow_mono s)))

-- ---- one bit shifted in

pub push_low_fits : (l b : ℕ) → b < 2 → l * 2 % 2 ^ 64 + b < 2 ^ 64
push_low_fits l b s = omega arith

pub push_high_fits : (h l : ℕ) → l < 2 ^ 64 → h * 2 % 2 ^ 64 + l / 2 ^ 63 < 2 ^ 64
push_high_fits h l s = omega arith

pub push_carry : (h l b : ℕ) → 2 * (h * 2 ^ 64 + l) + b ≡ (h * 2 + l / 2 ^ 63) * 2 ^ 64 + (l * 2 % 2 ^ 64 + b)
push_carry h l b = omega arith

-- ---- shifts by m, with P = 2^m and Q = 2^(64 - m)

powers : (m : ℕ) → m < 64 → 2 ^ (64 - m) * 2 ^ m ≡ 2 ^ 64
powers m s = sym (pow-add 2 (64 - m) m) ∙ ap (λ (x : ℕ). 2 ^ x) (sub-add_cancel {n = 64} {m = m} (omega arith))

-- a multiple of 2^k, cut to 64 bits
cut : (x k : ℕ) → k < 64 → x * 2 ^ k % 2 ^ 64 ≡ x % 2 ^ (64 - k) * 2 ^ k
cut x k s =
    ap (λ (y : ℕ). x * 2 ^ k % y) (sym (powers k s))
    ∙ mod-mul (x * 2 ^ k) (pow_pos (64 - k)) (pow_pos k)
    ∙ ap₂ (λ (y z : ℕ). y % 2 ^ (64 - k) * 2 ^ k + z) (mul-div_left x (pow_pos k)) (mul-mod_left x (2 ^ k))
    ∙ add-zero (x % 2 ^ (64 - k) * 2 ^ k)

-- a number below 2^k beside one
pub beside_fits : (a x k : ℕ) → k < 64 → a < 2 ^ k → a + x * 2 ^ k % 2 ^ 64 < 2 ^ 64
beside_fits a x k s h =
    subst (λ (y : ℕ). a + y < 2 ^ 64) (sym (cut x k s))
    (subst (λ (y : ℕ). a + x % 2 ^ (64 - k) * 2 ^ k < y) (powers k s)
    (subst (λ (y : ℕ). y < 2 ^ (64 - k) * 2 ^ k) (add_comm (x % 2 ^ (64 - k) * 2 ^ k) a) (digits_lt (mod-lt x (pow_pos (64 - k))) h)))

-- what leaves the low half upwards
carried : (l m : ℕ) → m < 64 → l * 2 ^ m / 2 ^ 64 ≡ l / 2 ^ (64 - m)
carried l m s = ap (λ (x : ℕ). l * 2 ^ m / x) (sym (powers m s)) ∙ mul-div-mul_right l (2 ^ (64 - m)) (pow_pos m)

-- the shifted number, with its high half not yet cut
up_parts : (h l m : ℕ) → m < 64 → (h * 2 ^ m + l / 2 ^ (64 - m)) * 2 ^ 64 + l * 2 ^ m % 2 ^ 64 ≡ (h * 2 ^ 64 + l) * 2 ^ m
up_parts h l m s =
    ap (λ (x : ℕ). (h * 2 ^ m + x) * 2 ^ 64 + l * 2 ^ m % 2 ^ 64) (sym (carried l m s))
    ∙ ap (λ (x : ℕ). x + l * 2 ^ m % 2 ^ 64) (add-mul (h * 2 ^ m) (l * 2 ^ m / 2 ^ 64) (2 ^ 64))
    ∙ add_assoc (h * 2 ^ m * 2 ^ 64) (l * 2 ^ m / 2 ^ 64 * 2 ^ 64) (l * 2 ^ m % 2 ^ 64)
    ∙ ap₂ (λ (x y : ℕ). x + y) (mul_right_comm h (2 ^ m) (2 ^ 64)) (div-add-mod' (l * 2 ^ m) (2 ^ 64))
    ∙ sym (add-mul (h * 2 ^ 64) l (2 ^ m))

up_fits : (h l m : ℕ) → m < 64 → (h * 2 ^ 64 + l) * 2 ^ m < 2 ^ 128 → h * 2 ^ m + l / 2 ^ (64 - m) < 2 ^ 64
up_fits h l m s t =
    lt_of_mul-lt-mul_right (2 ^ 64)
    (lt_of_le_of_lt (le_trans (le-add_right ((h * 2 ^ m + l / 2 ^ (64 - m)) * 2 ^ 64) (l * 2 ^ m % 2 ^ 64)) (le_of_eq (up_parts h l m s))) t)

up_whole : (h l m : ℕ) → m < 64 → (h * 2 ^ 64 + l) * 2 ^ m < 2 ^ 128 → h * 2 ^ m % 2 ^ 64 ≡ h * 2 ^ m
up_whole h l m s t = mod-eq_of_lt (lt_of_le_of_lt (le-add_right (h * 2 ^ m) (l / 2 ^ (64 - m))) (up_fits h l m s t))

pub up_high_fits : (h l m : ℕ) → m < 64 → (h * 2 ^ 64 + l) * 2 ^ m < 2 ^ 128 → h * 2 ^ m % 2 ^ 64 + l / 2 ^ (64 - m) < 2 ^ 64
up_high_fits h l m s t = subst (λ (x : ℕ). x + l / 2 ^ (64 - m) < 2 ^ 64) (sym (up_whole h l m s t)) (up_fits h l m s t)

pub up_halves : (h l m : ℕ) → m < 64 → (h * 2 ^ 64 + l) * 2 ^ m < 2 ^ 128
    → (h * 2 ^ m % 2 ^ 64 + l / 2 ^ (64 - m)) * 2 ^ 64 + l * 2 ^ m % 2 ^ 64 ≡ (h * 2 ^ 64 + l) * 2 ^ m
up_halves h l m s t =
    ap (λ (x : ℕ). (x + l / 2 ^ (64 - m)) * 2 ^ 64 + l * 2 ^ m % 2 ^ 64) (up_whole h l m s t) ∙ up_parts h l m s

-- what of the high half comes down into the low one: a multiple of Q
come_down : (h m : ℕ) → m < 64 → h * 2 ^ (64 - m) % 2 ^ 64 ≡ h % 2 ^ m * 2 ^ (64 - m)
come_down h m s =
    ap (λ (x : ℕ). h * 2 ^ (64 - m) % x) (sym (powers m s) ∙ mul_comm (2 ^ (64 - m)) (2 ^ m))
    ∙ mod-mul (h * 2 ^ (64 - m)) (pow_pos m) (pow_pos (64 - m))
    ∙ ap₂ (λ (x y : ℕ). x % 2 ^ m * 2 ^ (64 - m) + y) (mul-div_left h (pow_pos (64 - m))) (mul-mod_left h (2 ^ (64 - m)))
    ∙ add-zero (h % 2 ^ m * 2 ^ (64 - m))

low_part_lt : (l m : ℕ) → m < 64 → l < 2 ^ 64 → l / 2 ^ m < 2 ^ (64 - m)
low_part_lt l m s q = (div-lt_iff_lt-mul (pow_pos m)).1 (subst (λ (x : ℕ). l < x) (sym (powers m s)) q)

pub down_low_fits : (h l m : ℕ) → m < 64 → l < 2 ^ 64 → l / 2 ^ m + h * 2 ^ (64 - m) % 2 ^ 64 < 2 ^ 64
down_low_fits h l m s q =
    subst (λ (x : ℕ). l / 2 ^ m + h * 2 ^ (64 - m) % 2 ^ 64 < x) (mul_comm (2 ^ m) (2 ^ (64 - m)) ∙ powers m s)
    (subst (λ (x : ℕ). x < 2 ^ m * 2 ^ (64 - m)) (sym (add_comm (l / 2 ^ m) (h * 2 ^ (64 - m) % 2 ^ 64) ∙ ap (λ (x : ℕ). x + l / 2 ^ m) (come_down h m s)))
    (digits_lt (mod-lt h (pow_pos m)) (low_part_lt l m s q)))

pub down_halves : (h l m : ℕ) → m < 64
    → h / 2 ^ m * 2 ^ 64 + (l / 2 ^ m + h * 2 ^ (64 - m) % 2 ^ 64) ≡ (h * 2 ^ 64 + l) / 2 ^ m
down_halves h l m s =
    let q : ℕ = 2 ^ (64 - m) in
    ap (λ (x : ℕ). x * 2 ^ 64 + (l / 2 ^ m + h * q % 2 ^ 64))
    (sym (ap (λ (x : ℕ). h * q / x) (sym (powers m s) ∙ mul_comm q (2 ^ m)) ∙ mul-div-mul_right h (2 ^ m) (pow_pos (64 - m))))
    ∙ regroup (h * q / 2 ^ 64 * 2 ^ 64) (l / 2 ^ m) (h * q % 2 ^ 64)
    ∙ ap (λ (x : ℕ). x + l / 2 ^ m) (div-add-mod' (h * q) (2 ^ 64))
    ∙ sym (ap (λ (x : ℕ). (h * x + l) / 2 ^ m) (sym (powers m s)) ∙ ap (λ (x : ℕ). (x + l) / 2 ^ m) (sym (mul_assoc h q (2 ^ m))) ∙ mul-add-div_right (pow_pos m) (h * q) l)
  where
    regroup : (a b c : ℕ) → a + (b + c) ≡ a + c + b
    regroup a b c = omega arith

-- by no bits, from the low half on, and past both halves
pub down_none : (u k : ℕ) → k ≡ 0 → u ≡ u / 2 ^ k
down_none u k e = sym (ap (λ (x : ℕ). u / 2 ^ x) e ∙ div-one u)

pub down_high : (h l k : ℕ) → l < 2 ^ 64 → 64 ≤ k → 0 * 2 ^ 64 + h / 2 ^ (k - 64) ≡ (h * 2 ^ 64 + l) / 2 ^ k
down_high h l k q s = zero-add (h / 2 ^ (k - 64)) ∙ sym (shr_high k h l q s)

pub down_past : (h l k : ℕ) → h < 2 ^ 64 → l < 2 ^ 64 → 128 ≤ k → 0 * 2 ^ 64 + 0 ≡ (h * 2 ^ 64 + l) / 2 ^ k
down_past h l k p q s = sym (div-eq_of_lt (lt_of_lt_of_le (halves_lt h l p q) (pow_mono s)))
