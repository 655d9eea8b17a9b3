-- Euclid's scheme a step at a time, as the code takes it: a division, and a list from its first member on.
-- Assumes nothing.
use mathlib.Core.Path.{◌≡◌, refl, ap}
use mathlib.Core.Bool.{true}
use mathlib.Core.List.{List}
use Prim.Native.Nat.{ℕ, zero, suc, ◌+◌, ◌≤◌, ◌<◌}
use native.Mathlib.Omega.{arith}
use lib.ListN.{length, get_or, drop, drop_of_length-le}
use Rattle.lists.proofs.Scan.{drop-next}
use Rattle.poly.specs.Poly.{remainder}
use Rattle.poly.proofs.Remainder.{degree_bounds, remainder_lt}
use Rattle.gcd.specs.Model.Gcd.{degree, euclid, gcd, gcd_with}
use Rattle.gcd.proofs.Degree.{degree_of}

-- a remainder is a smaller number than the divisor
pub remainder_falls : (a b : ℕ) → 0 < b → remainder (degree b) b a < b
remainder_falls a b some =
    let d = degree_of b some in
    let below = remainder_lt (degree b) b a d in
    let low = (degree_bounds (degree b) b d).0 in
    omega arith

-- steps beyond those that are needed change nothing
enough : (i j a b : ℕ) → b ≤ i → b ≤ j → euclid i a b ≡ euclid j a b
unfolding euclid
enough zero zero a b h g = refl
enough zero (suc j) a zero h g = refl
enough (suc i) zero a zero h g = refl
enough (suc i) (suc j) a zero h g = refl
enough zero (suc j) a (suc b) h g = absurd (omega arith)
enough (suc i) zero a (suc b) h g = absurd (omega arith)
enough (suc i) (suc j) a (suc b) h g =
    let below = remainder_falls a (suc b) (omega arith) in
    enough i j (suc b) (remainder (degree (suc b)) (suc b) a) (omega arith) (omega arith)

pub gcd_step : (a b : ℕ) → 0 < b → gcd a b ≡ gcd b (remainder (degree b) b a)
unfolding gcd euclid
gcd_step a zero h = absurd (omega arith)
gcd_step a (suc b) h =
    let r : ℕ = remainder (degree (suc b)) (suc b) a in
    let below = remainder_falls a (suc b) h in
    enough b r (suc b) r (omega arith) (omega arith)

pub gcd_zero : (a : ℕ) → gcd a 0 ≡ a
unfolding gcd euclid
gcd_zero a = refl

-- ---- a list

module _ (gs : List ℕ) where
  pub gcd_with-next : (d i : ℕ) → i < length gs → gcd_with d (drop i gs) ≡ gcd_with (gcd d (get_or gs i 0)) (drop (i + 1) gs)
  unfolding gcd_with
  gcd_with-next d i h = ap (gcd_with d) (drop-next (λ _. true) gs 0 i h)

  pub gcd_with_end : (d i : ℕ) → length gs ≤ i → gcd_with d (drop i gs) ≡ d
  unfolding gcd_with
  gcd_with_end d i h = ap (gcd_with d) (drop_of_length-le gs h)
