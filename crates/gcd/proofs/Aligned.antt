-- The divisor moved up to the degree of what is divided, as counts of leading zeros tell it: taken off, it lowers that and keeps its remainder.
-- Assumes nothing.
use mathlib.Core.Path.{◌≡◌, sym, ap, ◌∙◌, subst}
use mathlib.Core.Logic.{⊎_elim}
use Prim.Native.Nat.{ℕ, suc, ◌+◌, ◌-◌, ◌*◌, ◌/◌, ◌%◌, ◌^◌, ◌≤◌, ◌<◌}
use native.Mathlib.Nat.{mod-eq_of_lt, eq-zero-or-pos}
use native.Mathlib.Omega.{arith}
use lib.Count.{count_leading_zeros, leading_top, leading_of_zero}
use lib.Pow.{pow_mono, pow_pos, shl-shr, shr-shr}
use Rattle.poly.specs.Poly.{◌⊕◌, HasDegree, remainder}
use Rattle.poly.proofs.Sum.{⊕_zero_r}
use Rattle.poly.proofs.Remainder.{degree_bounds, remainder_⊕, same_top_lt, divides⇒remainder_zero}
use Rattle.gcd.specs.Model.Gcd.{degree}
use Rattle.gcd.proofs.Degree.{degree_of, degree_only}
use Rattle.gcd.proofs.Ideal.{shifted, multiples, divides_self}

-- the zeros above the highest digit, and the degree
leading_degree : (a : ℕ) → 0 < a → a < 2 ^ 64 → count_leading_zeros 64 a + suc (degree a) ≡ 64
leading_degree a some fits =
    let t = leading_top 64 a some fits in
    ap (λ (m : ℕ). count_leading_zeros 64 a + suc m) (degree_only t.0 a t.2 t.3) ∙ t.1

shifted_degree : (m k b : ℕ) → HasDegree m b → HasDegree (k + m) (b * 2 ^ k)
shifted_degree m k b d = sym (shr-shr (b * 2 ^ k) k m) ∙ ap (λ (x : ℕ). x / 2 ^ m) (shl-shr b k) ∙ d

module _ (a b : ℕ) (a-fits : a < 2 ^ 64) (b-fits : b < 2 ^ 64) (some : 0 < b) where
  zeros_of_b : count_leading_zeros 64 b + suc (degree b) ≡ 64
  zeros_of_b = leading_degree b some b-fits

  -- ---- the degree of a is lower than that of b

  pub lower : count_leading_zeros 64 b < count_leading_zeros 64 a → a < 2 ^ degree b
  lower h =
      ⊎_elim (λ e. subst (λ (x : ℕ). x < 2 ^ degree b) (sym e) (pow_pos (degree b)))
      (λ pos.
      let zeros-of-a = leading_degree a pos a-fits in
      let o = zeros_of_b in
      let wide : 2 ^ suc (degree a) ≤ 2 ^ degree b = pow_mono (omega arith) in
      let high = (degree_bounds (degree a) a (degree_of a pos)).1 in
      omega arith)
      (eq-zero-or-pos a)

  -- ---- it is not

  module _ (h : count_leading_zeros 64 a ≤ count_leading_zeros 64 b) where
    -- as far as b is moved up
    abbrev up : ℕ
    up = count_leading_zeros 64 b - count_leading_zeros 64 a

    pub up_lt : up < 64
    up_lt = let o = zeros_of_b in omega arith

    a_some : 0 < a
    a_some =
        let o = zeros_of_b in
        ⊎_elim (λ e. absurd (let none = ap (count_leading_zeros 64) e ∙ leading_of_zero 64 in omega arith)) (λ pos. pos) (eq-zero-or-pos a)

    degree_a : HasDegree (degree a) a
    degree_a = degree_of a a_some

    moved : HasDegree (degree a) (b * 2 ^ up)
    moved =
        let zeros-of-a = leading_degree a a_some a-fits in
        let o = zeros_of_b in
        let same : up + degree b ≡ degree a = omega arith in
        subst (λ (x : ℕ). HasDegree x (b * 2 ^ up)) same (shifted_degree (degree b) up b (degree_of b some))

    -- nothing is lost
    whole : b * 2 ^ up % 2 ^ 64 ≡ b * 2 ^ up
    whole =
        let zeros-of-a = leading_degree a a_some a-fits in
        let few : suc (degree a) ≤ 64 = omega arith in
        let wide : 2 ^ suc (degree a) ≤ 2 ^ 64 = pow_mono few in
        let high = (degree_bounds (degree a) (b * 2 ^ up) moved).1 in
        mod-eq_of_lt (omega arith)

    pub falls : a ⊕ (b * 2 ^ up % 2 ^ 64) < a
    falls =
        let low = (degree_bounds (degree a) a degree_a).0 in
        let less = same_top_lt (degree a) a (b * 2 ^ up) (degree_a ∙ sym moved) in
        subst (λ (x : ℕ). a ⊕ x < a) (sym whole) (omega arith)

    pub keeps : remainder (degree b) b (a ⊕ (b * 2 ^ up % 2 ^ 64)) ≡ remainder (degree b) b a
    keeps =
        ap (λ (x : ℕ). remainder (degree b) b (a ⊕ x)) whole
        ∙ remainder_⊕ (degree b) b a (b * 2 ^ up)
        ∙ ap (λ (x : ℕ). remainder (degree b) b a ⊕ x)
        (divides⇒remainder_zero (degree b) b (b * 2 ^ up) (degree_of b some) (shifted _ (multiples b) b up (divides_self b)))
        ∙ ⊕_zero_r (remainder (degree b) b a)
