-- Laws of a number in two halves of 64 bits, h * 2^64 + l: its bits; and of words in a table.
-- Assumes nothing.
use mathlib.Core.Path.{◌≡◌, refl, sym, ap, ap₂, ◌∙◌}
use Prim.Native.Nat.{ℕ, zero, suc, ◌+◌, ◌-◌, ◌*◌, ◌/◌, ◌%◌, ◌^◌, ◌≤◌, ◌<◌}
use native.Mathlib.Nat.{zero-add, add-sub_of_le, div-eq_of_lt, div-div-eq-div-mul, lt_of_lt_of_le}
use native.Mathlib.Numerals.{add-one}
use native.Mathlib.Omega.{arith}
use mathlib.Core.List.{List, [], ◌∷◌, ◌++◌, flat_map}
use lib.ListN.{length, get_or, set, replicate, length-append}
use lib.Pow.{pow-add, pow_mono, high}
use lib.Seq.{sets}
use Rattle.lists.specs.Lists.{padded}
use Rattle.lists.proofs.Blocks.{flat_map_one, flat_map_append}
use Rattle.lists.proofs.Stores.{sets_append, sets_cleared}
use Rattle.poly.specs.Poly.{bit}
use Rattle.poly.specs.Word.{halves}
use Rattle.poly.proofs.Bits.{bit_low}

pub bit_of_low : (i h l : ℕ) → i < 64 → l / 2 ^ i % 2 ≡ bit i (h * 2 ^ 64 + l)
unfolding bit
bit_of_low i h l p = sym (bit_low i 64 h l p)

-- above the low half
pub shr_high : (i h l : ℕ) → l < 2 ^ 64 → 64 ≤ i → (h * 2 ^ 64 + l) / 2 ^ i ≡ h / 2 ^ (i - 64)
shr_high i h l p q =
    ap (λ (x : ℕ). (h * 2 ^ 64 + l) / x) (ap (λ (x : ℕ). 2 ^ x) (sym (add-sub_of_le q)) ∙ pow-add 2 64 (i - 64))
    ∙ sym (div-div-eq-div-mul (h * 2 ^ 64 + l) (2 ^ 64) (2 ^ (i - 64)))
    ∙ ap (λ (x : ℕ). x / 2 ^ (i - 64)) (high h 64 p)

pub bit_of_high : (i h l : ℕ) → l < 2 ^ 64 → 64 ≤ i → h / 2 ^ (i - 64) % 2 ≡ bit i (h * 2 ^ 64 + l)
unfolding bit
bit_of_high i h l p q = ap (λ (x : ℕ). x % 2) (sym (shr_high i h l p q))

pub bit_past : (i h l : ℕ) → h < 2 ^ 64 → l < 2 ^ 64 → 128 ≤ i → 0 ≡ bit i (h * 2 ^ 64 + l)
unfolding bit
bit_past i h l p q r =
    ap (λ (x : ℕ). x % 2) (sym (shr_high i h l q (omega arith) ∙ div-eq_of_lt (lt_of_lt_of_le p (pow_mono {i = 64} {j = i - 64} (omega arith)))))

-- ---- words in a table, two numbers a word

pub length-halves : (us : List ℕ) → length (flat_map halves us) ≡ 2 * length us
unfolding flat_map halves
length-halves [] = refl
length-halves (u ∷ us) = let r = length-halves us in omega arith

-- what stands where
pub get_or-halves : (us : List ℕ) (i : ℕ) → (get_or (flat_map halves us) (2 * i) 0 ≡ get_or us i 0 % 2 ^ 64) × (get_or (flat_map halves us) (2 * i + 1) 0 ≡ get_or us i 0 / 2 ^ 64)
unfolding flat_map halves
get_or-halves [] i = (refl, refl)
get_or-halves (u ∷ us) zero = (refl, refl)
get_or-halves (u ∷ us) (suc i) =
    let rest = get_or-halves us i in
    let e : 2 * suc i ≡ suc (suc (2 * i)) = omega arith in
    let f : 2 * suc i + 1 ≡ suc (suc (2 * i + 1)) = omega arith in
    (ap (λ (k : ℕ). get_or (flat_map halves (u ∷ us)) k 0) e ∙ rest.0, ap (λ (k : ℕ). get_or (flat_map halves (u ∷ us)) k 0) f ∙ rest.1)

stores : (t : List ℕ) (k u : ℕ) → set (set t k (u % 2 ^ 64)) (k + 1) (u / 2 ^ 64) ≡ sets t k (halves u)
unfolding halves
stores t k u = ap (λ (i : ℕ). set (set t k (u % 2 ^ 64)) i (u / 2 ^ 64)) (add-one k)

-- one word more, stored behind the words there are in a table of zeros
pub stored-halves : (size : ℕ) (ws : List ℕ) (u : ℕ) → 2 * length ws + 2 ≤ size
    → set (set (padded size 0 (flat_map halves ws)) (2 * length ws) (u % 2 ^ 64)) (2 * length ws + 1) (u / 2 ^ 64) ≡ padded size 0 (flat_map halves (ws ++ (u ∷ [])))
stored-halves size ws u h =
    let xs : List ℕ = flat_map halves ws in
    let n : length xs ≡ 2 * length ws = length-halves ws in
    let n' : length (flat_map halves (ws ++ (u ∷ []))) ≡ 2 * length ws + 2 = length-halves (ws ++ (u ∷ [])) ∙ ap (λ (k : ℕ). 2 * k) (length-append ws (u ∷ [])) ∙ twice (length ws) in
    ap₂ (λ (t : List ℕ) (k : ℕ). set (set t k (u % 2 ^ 64)) (k + 1) (u / 2 ^ 64)) (sym (sets_cleared size 0 xs (omega arith))) (sym n ∙ sym (zero-add (length xs)))
    ∙ stores (sets (replicate size 0) 0 xs) (0 + length xs) u
    ∙ sym (sets_append (replicate size 0) 0 xs (halves u))
    ∙ ap (sets (replicate size 0) 0) (sym (flat_map_append halves ws (u ∷ []) ∙ ap (λ (l : List ℕ). xs ++ l) (flat_map_one halves u)))
    ∙ sets_cleared size 0 (flat_map halves (ws ++ (u ∷ []))) (omega arith)
  where
    twice : (x : ℕ) → 2 * (x + 1) ≡ 2 * x + 2
    twice x = omega arith
