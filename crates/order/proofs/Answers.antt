-- The answers to single questions, from the comparisons that the code makes.
-- Assumes nothing.
use mathlib.Core.Path.{◌≡◌, refl, sym, ap, ap₂, ◌∙◌}
use mathlib.Core.Bool.{Bool, true, false, ◌&&◌, ◌||◌}
use mathlib.Core.List.{List, [], ◌∷◌}
use Prim.Native.Nat.{ℕ, ◌+◌, ◌*◌, ◌/◌, ◌%◌, ◌^◌, ◌≤◌, ◌<◌}
use native.Mathlib.Nat.{div-eq_of_lt, lt_of_lt_of_le}
use native.Mathlib.Omega.{arith}
use borrow.Author.Tests.{leb-true, ltb-true, lt-ltb, le-ltb, le-leb, eq-eqb, ne_eqb}
use lib.Dec.{leb, ltb, eqb}
use lib.Pow.{pow_mono}
use Rattle.std.specs.List.{list_all, list_any}
use Rattle.lists.specs.Lists.{all, any}
use Rattle.lists.proofs.Tests.{and_yes, and_no, both}
use Rattle.poly.specs.Poly.{bit}
use Rattle.poly.proofs.Shifts.{shl_one}
use Rattle.order.specs.Questions.{from_to, in_range, has_bit}

pub not_too_small : (low high x : ℕ) → low ≤ x → leb x high ≡ from_to low high x
unfolding from_to
not_too_small low high x h = and_yes (leb low x) (leb x high) (le-leb low x h)

pub no_such_degree : (m p : ℕ) → p < 2 ^ 64 → 63 < m → eqb (p / 2 ^ m) 1 ≡ false
no_such_degree m p h l = ap (λ (x : ℕ). eqb x 1) (div-eq_of_lt (lt_of_lt_of_le h (pow_mono l)))

pub zero_out_of_range : (v g : ℕ) → g ≡ 0 → in_range v g ≡ false
unfolding in_range
zero_out_of_range v g e = sym (and_no (ltb 0 g) (ltb g (2 ^ (v + 1))) (le-ltb 0 g (omega arith)))

pub large_out_of_range : (v g : ℕ) → v < 63 → (g ≡ 0 → ⊥) → 1 * 2 ^ (v + 1) % 2 ^ 64 ≤ g → in_range v g ≡ false
unfolding in_range
large_out_of_range v g hv n h =
    let e : 1 * 2 ^ (v + 1) % 2 ^ 64 ≡ 2 ^ (v + 1) = shl_one (v + 1) (omega arith) in
    sym (and_yes (ltb 0 g) (ltb g (2 ^ (v + 1))) (lt-ltb 0 g (omega arith))) ∙ le-ltb g (2 ^ (v + 1)) (omega arith)

pub is_in_range : (v g : ℕ) → v < 63 → (g ≡ 0 → ⊥) → g < 1 * 2 ^ (v + 1) % 2 ^ 64 → in_range v g ≡ true
unfolding in_range
is_in_range v g hv n h =
    let e : 1 * 2 ^ (v + 1) % 2 ^ 64 ≡ 2 ^ (v + 1) = shl_one (v + 1) (omega arith) in
    sym (and_yes (ltb 0 g) (ltb g (2 ^ (v + 1))) (lt-ltb 0 g (omega arith))) ∙ lt-ltb g (2 ^ (v + 1)) (omega arith)

pub has_bit_lem : (j g x : ℕ) → x ≡ bit j g → x ≡ 1 → has_bit j g ≡ true
unfolding has_bit
has_bit_lem j g x e f = eq-eqb (bit j g) 1 (sym e ∙ f)

pub has_no_bit : (j g x : ℕ) → x ≡ bit j g → (x ≡ 1 → ⊥) → has_bit j g ≡ false
unfolding has_bit
has_no_bit j g x e n = ne_eqb (bit j g) 1 (λ f. n (e ∙ f))

-- the code's test, by a shift
pub in_range_same : (v g : ℕ) → v < 63 → (ltb 0 g && ltb g (1 * 2 ^ (v + 1) % 2 ^ 64)) ≡ in_range v g
unfolding in_range
in_range_same v g h = ap (λ (n : ℕ). ltb 0 g && ltb g n) (shl_one (v + 1) (omega arith))

pub has_bit_same : (j g : ℕ) → eqb (bit j g) 1 ≡ has_bit j g
unfolding has_bit
has_bit_same j g = refl

-- ---- all and any are the library's

module _ {A : Type 0} (f test : A → Bool) (same : (x : A) → test x ≡ f x) where
  pub all_same : (xs : List A) → list_all test xs ≡ all f xs
  unfolding all
  all_same [] = refl
  all_same (x ∷ xs) = ap₂ (λ (a b : Bool). a && b) (same x) (all_same xs)

  pub any_same : (xs : List A) → list_any test xs ≡ any f xs
  unfolding any
  any_same [] = refl
  any_same (x ∷ xs) = ap₂ (λ (a b : Bool). a || b) (same x) (any_same xs)

-- ---- the comparisons, from the answers

pub range : (low high x : ℕ) → from_to low high x ≡ true → (low ≤ x) × (x ≤ high)
unfolding from_to
range low high x e = (leb-true low x (both (leb low x) (leb x high) e).0, leb-true x high (both (leb low x) (leb x high) e).1)

pub below_of_range : (v g : ℕ) → in_range v g ≡ true → g < 2 ^ (v + 1)
unfolding in_range
below_of_range v g e = ltb-true g (2 ^ (v + 1)) (both (ltb 0 g) (ltb g (2 ^ (v + 1))) e).1
