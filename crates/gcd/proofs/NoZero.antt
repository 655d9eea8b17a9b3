-- A polynomial whose products with all of a list are taken to 0 is taken to 0 itself, where no factor is shared (`no_zero_multiples`); and a product of
-- polynomials other than 0 is not 0 (`no_zero_product`).
-- Assumes nothing.
use mathlib.Core.Path.{◌≡◌, sym, ap, ap₂, ◌∙◌, subst}
use mathlib.Core.Bool.{false}
use mathlib.Core.List.{List, Memᴰ}
use Prim.Native.Nat.{ℕ, ◌+◌, ◌*◌, ◌≤◌}
use native.Mathlib.Omega.{arith}
use borrow.Author.Tests.{not-false}
use lib.Dec.{T, eqb, eqb→eq}
use lib.Pow.{pow_pos}
use Rattle.poly.specs.Poly.{◌⊕◌, ◌⊗◌, remainder, register}
use Rattle.poly.proofs.Sum.{⊕_zero_l}
use Rattle.poly.proofs.Product.{⊗_zero, ⊗_one, ⊗_double, ⊗_⊕_r}
use Rattle.poly.proofs.Remainder.{remainder_zero, remainder_⊕, remainder_double, degree_bounds}
use Rattle.gcd.specs.SharedFactor.{share_factor}
use Rattle.gcd.specs.Model.Gcd.{degree, gcd_all}
use Rattle.gcd.proofs.Degree.{degree_of, ⊗_degree}
use Rattle.gcd.proofs.Ideal.{Ideal, gcd_all_in}
use Rattle.gcd.proofs.SharedFactor.{share_factor_by_gcd}

-- keeps sums, and takes x times what it takes to 0 to 0
pub record Linear (f : ℕ → ℕ) : Type 0 where
  pub none : f 0 ≡ 0
  pub double : (a : ℕ) → f a ≡ 0 → f (2 * a) ≡ 0
  pub sum : (a b : ℕ) → f (a ⊕ b) ≡ f a ⊕ f b

-- a number itself, and its remainder
pub itself : Linear (λ a. a)
itself = record { none = λ i. 0; double = λ a e. ap (λ (x : ℕ). 2 * x) e; sum = λ a b i. a ⊕ b }

pub remainders : (m p : ℕ) → Linear (remainder m p)
remainders m p = record {
  none = remainder_zero m p;
  double = λ a e. remainder_double m p a ∙ ap (λ (x : ℕ). register m p x 0) (e ∙ sym (remainder_zero m p)) ∙ sym (remainder_double m p 0) ∙ remainder_zero m p;
  sum = remainder_⊕ m p;
}

-- what u times is taken to 0
vanishing : (f : ℕ → ℕ) → Linear f → (u : ℕ) → Ideal (λ x. f (u ⊗ x) ≡ 0)
vanishing f l u = record {
  none = ap f (⊗_zero u) ∙ l.none;
  double = λ a e. ap f (⊗_double u a) ∙ l.double (u ⊗ a) e;
  sum = λ a b e g. ap f (⊗_⊕_r u a b) ∙ l.sum (u ⊗ a) (u ⊗ b) ∙ ap₂ (λ (x y : ℕ). x ⊕ y) e g ∙ ⊕_zero_l 0;
}

one_of_none : (gs : List ℕ) → share_factor gs ≡ false → gcd_all gs ≡ 1
one_of_none gs e = eqb→eq (gcd_all gs) 1 (subst T (sym (not-false (eqb (gcd_all gs) 1) (sym (share_factor_by_gcd gs) ∙ e))) tt)

-- the greatest common divisor is 1, and u times 1 is u
pub no_zero_multiples : (f : ℕ → ℕ) → Linear f → (u : ℕ) (gs : List ℕ) → share_factor gs ≡ false → ((g : ℕ) → Memᴰ g gs → f (u ⊗ g) ≡ 0) → f u ≡ 0
no_zero_multiples f l u gs none zeros =
    ap f (sym (⊗_one u)) ∙ subst (λ (x : ℕ). f (u ⊗ x) ≡ 0) (one_of_none gs none) (gcd_all_in (λ x. f (u ⊗ x) ≡ 0) (vanishing f l u) gs zeros)

-- the degrees of factors other than 0 add up
pub no_zero_product : (a b : ℕ) → 1 ≤ a → 1 ≤ b → 1 ≤ a ⊗ b
no_zero_product a b h g =
    let low = (degree_bounds (degree a + degree b) (a ⊗ b) (⊗_degree (degree a) (degree b) a b (degree_of a h) (degree_of b g))).0 in
    let some = pow_pos (degree a + degree b) in
    omega arith
