-- What holds of 0, of x times and of sums holds of multiples, and of a greatest common divisor where it holds of those that it is taken of.
-- So a common divisor divides it (`divides-gcd_all`); and it is one itself (`gcd_all-divides`).
-- Assumes nothing.
use mathlib.Core.Path.{◌≡◌, sym, ap, ap₂, ◌∙◌, subst}
use mathlib.Core.List.Memᴰ
use mathlib.Core.List.{List, [], ◌∷◌, Memᴰ}
use mathlib.Core.Logic.{⊎_elim}
use Prim.Native.Nat.{ℕ, zero, suc, ◌*◌, ◌/◌, ◌%◌, ◌^◌, ◌≤◌}
use native.Mathlib.Nat.{zero-mul, one-mul, mul-one, mul_left_comm, pow-succ'}
use native.Mathlib.Omega.{arith}
use lib.Arith.{bin_ind}
use Rattle.poly.specs.Poly.{◌⊕◌, ◌⊗◌, remainder, Divides}
use Rattle.poly.proofs.Sum.{mod2_lt, for_bits, ⊕_comm, ⊕_cancel_r}
use Rattle.poly.proofs.Product.{⊗_zero, ⊗_one, ⊗_step, ⊗_double, ⊗_⊕_r}
use Rattle.poly.proofs.Remainder.{division}
use Rattle.gcd.specs.Model.Gcd.{degree, euclid, gcd, gcd_with, gcd_all}
use Rattle.gcd.proofs.Euclid.{remainder_falls}

-- closed under sums and under x times
pub record Ideal (Z : ℕ → Type 0) : Type 0 where
  pub none : Z 0
  pub double : (a : ℕ) → Z a → Z (2 * a)
  pub sum : (a b : ℕ) → Z a → Z b → Z (a ⊕ b)

module _ (Z : ℕ → Type 0) (i : Ideal Z) where
  pub multiple : (a q : ℕ) → Z a → Z (a ⊗ q)
  multiple a q z =
      bin_ind (λ (n : ℕ). Z (a ⊗ n)) (subst Z (sym (⊗_zero a)) i.none)
      (λ n ih. subst Z (sym (⊗_step a n)) (i.sum (2 * (a ⊗ (n / 2))) (n % 2 * a) (i.double (a ⊗ (n / 2)) ih)
      (for_bits (λ (c : ℕ). Z (c * a)) (subst Z (sym (zero-mul a)) i.none) (subst Z (sym (one-mul a)) z) (n % 2) (mod2_lt n)))) q

  -- x^k times
  pub shifted : (a k : ℕ) → Z a → Z (a * 2 ^ k)
  shifted a zero z = subst Z (sym (mul-one a)) z
  shifted a (suc k) z =
      subst Z (sym (ap (λ (x : ℕ). a * x) (pow-succ' 2 k) ∙ mul_left_comm a 2 (2 ^ k))) (i.double (a * 2 ^ k) (shifted a k z))

  pub rest_in : (m a b : ℕ) → Z a → Z b → Z (remainder m b a)
  rest_in m a b za zb =
      let d = division m b a in
      subst Z (ap (λ (x : ℕ). x ⊕ (b ⊗ d.0)) (d.1 ∙ ⊕_comm (b ⊗ d.0) (remainder m b a)) ∙ ⊕_cancel_r (remainder m b a) (b ⊗ d.0))
      (i.sum a (b ⊗ d.0) za (multiple b d.0 zb))

  -- of a dividend, too, where it holds of the divisor and the remainder
  pub dividend_in : (m a b : ℕ) → Z b → Z (remainder m b a) → Z a
  dividend_in m a b zb zr =
      let d = division m b a in
      subst Z (sym d.1) (i.sum (b ⊗ d.0) (remainder m b a) (multiple b d.0 zb) zr)

  euclid_in : (most a b : ℕ) → Z a → Z b → Z (euclid most a b)
  unfolding euclid
  euclid_in zero a b za zb = za
  euclid_in (suc most) a zero za zb = za
  euclid_in (suc most) a (suc b) za zb =
      let m : ℕ = degree (suc b) in
      euclid_in most (suc b) (remainder m (suc b) a) zb (rest_in m a (suc b) za zb)

  gcd_with_in : (d : ℕ) (gs : List ℕ) → Z d → ((g : ℕ) → Memᴰ g gs → Z g) → Z (gcd_with d gs)
  unfolding gcd_with gcd
  gcd_with_in d [] z h = z
  gcd_with_in d (g ∷ gs) z h = gcd_with_in (gcd d g) gs (euclid_in g d g z (h g (Memᴰ.head (λ i. g)))) (λ x m. h x (Memᴰ.tail m))

  pub gcd_all_in : (gs : List ℕ) → ((g : ℕ) → Memᴰ g gs → Z g) → Z (gcd_all gs)
  unfolding gcd_all
  gcd_all_in gs = gcd_with_in 0 gs i.none

-- ---- multiples of c

pub multiples : (c : ℕ) → Ideal (Divides c)
multiples c = record {
  none = (0, ⊗_zero c);
  double = λ a h. (2 * h.0, ⊗_double c h.0 ∙ ap (λ (x : ℕ). 2 * x) h.1);
  sum = λ a b h g. (h.0 ⊕ g.0, ⊗_⊕_r c h.0 g.0 ∙ ap₂ (λ (x y : ℕ). x ⊕ y) h.1 g.1);
}

pub divides_self : (c : ℕ) → Divides c c
divides_self c = (1, ⊗_one c)

pub divides-gcd_all : (c : ℕ) (gs : List ℕ) → ((g : ℕ) → Memᴰ g gs → Divides c g) → Divides c (gcd_all gs)
divides-gcd_all c = gcd_all_in (Divides c) (multiples c)

-- ---- the greatest common divisor divides

-- what divides it divides all that it was taken of
euclid-divides : (c most a b : ℕ) → b ≤ most → Divides c (euclid most a b) → Divides c a × Divides c b
unfolding euclid
euclid-divides c zero a b h d = (d, subst (Divides c) (none b h) (multiples c).none)
  where
    none : (x : ℕ) → x ≤ 0 → 0 ≡ x
    none x l = omega arith
euclid-divides c (suc most) a zero h d = (d, (multiples c).none)
euclid-divides c (suc most) a (suc b) h d =
    let m : ℕ = degree (suc b) in
    let below = remainder_falls a (suc b) (omega arith) in
    let both = euclid-divides c most (suc b) (remainder m (suc b) a) (omega arith) d in
    (dividend_in (Divides c) (multiples c) m a (suc b) both.0 both.1, both.0)

gcd_with-divides : (c d : ℕ) (gs : List ℕ) → Divides c (gcd_with d gs) → Divides c d × ((g : ℕ) → Memᴰ g gs → Divides c g)
unfolding gcd_with gcd
gcd_with-divides c d [] h = (h, λ g m. absurd (Memᴰ.not-nil m))
gcd_with-divides c d (g ∷ gs) h =
    let rest = gcd_with-divides c (gcd d g) gs h in
    let both = euclid-divides c g d g (omega arith) rest.0 in
    (both.0, λ x m. ⊎_elim (λ e. subst (Divides c) (sym e) both.1) (λ r. rest.1 x r) (Memᴰ.cases_cons m))

pub gcd_all-divides : (gs : List ℕ) (g : ℕ) → Memᴰ g gs → Divides (gcd_all gs) g
unfolding gcd_all
gcd_all-divides gs = (gcd_with-divides (gcd_all gs) 0 gs (divides_self (gcd_all gs))).1
