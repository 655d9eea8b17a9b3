-- Question 16's test says what `SharesFactor` says, of every list, and it fails exactly where the greatest common divisor is 1.
-- Assumes nothing.
use mathlib.Core.Path.{◌≡◌, sym, subst}
use mathlib.Core.Bool.{not, ◌&&◌}
use mathlib.Core.List.Memᴰ
use mathlib.Core.List.{List, [], ◌∷◌, Memᴰ}
use mathlib.Core.Logic.{◌↔◌, ⊎_elim}
use Prim.Native.Nat.{ℕ, zero, suc, ◌≤◌, zero-le}
use native.Mathlib.Omega.{arith}
use lib.Dec.{T, T_not, not_T, eqb, eqb→eq}
use Rattle.lists.specs.Lists.{up_from, all}
use Rattle.lists.proofs.Tests.{T_and, same_test, lt_or_ge}
use Rattle.lists.proofs.Choices.{eqb_passes}
use Rattle.lists.proofs.Member.{of_any, in_any, of_all, in_all, in_up_from}
use Rattle.poly.specs.Poly.{◌⊗◌, Divides}
use Rattle.poly.proofs.Product.{⊗_zero}
use Rattle.gcd.specs.SharedFactor.{SharedFactor, SharesFactor, divides, total, share_factor}
use Rattle.gcd.specs.Model.Gcd.{gcd_all}
use Rattle.gcd.proofs.Degree.{factor_le, quotient_le, divides_one}
use Rattle.gcd.proofs.Ideal.{divides-gcd_all, gcd_all-divides}

tried : {x : ℕ} (k : ℕ) → x ≤ k → Memᴰ x (up_from 0 (suc k))
tried k h = in_up_from 0 (suc k) zero-le (omega arith)

-- ---- the test of one divisor

pub divides⇔Divides : (c g : ℕ) → T (divides c g) ↔ Divides c g
unfolding divides
divides⇔Divides c g = (
  λ t. let w = of_any _ _ t in (w.0, eqb→eq _ _ w.2),
  λ h. let q = least g h in in_any _ _ (tried g q.1) (eqb_passes _ _ q.2),
)
  where
    -- a quotient that is at most g
    least : (g : ℕ) → Divides c g → (q : ℕ) × (q ≤ g) × (c ⊗ q ≡ g)
    least zero h = (0, omega arith, ⊗_zero c)
    least (suc g) (q, e) = (q, let l = quotient_le c q (subst (λ (x : ℕ). 1 ≤ x) (sym e) (omega arith)) in omega arith, e)

-- ---- the test of all

total_le : (gs : List ℕ) (g : ℕ) → Memᴰ g gs → g ≤ total gs
unfolding total
total_le [] g m = absurd (Memᴰ.not-nil m)
total_le (x ∷ xs) g m = ⊎_elim (λ (e : g ≡ x). omega arith) (λ r. let l = total_le xs g r in omega arith) (Memᴰ.cases_cons m)

-- a factor that they share is at most their sum, where that is not 0
shared_le : (c : ℕ) (gs : List ℕ) → ((g : ℕ) → Memᴰ g gs → Divides c g) → 1 ≤ total gs → c ≤ total gs
unfolding total
shared_le c [] d h = absurd (omega arith)
shared_le c (zero ∷ gs) d h = let l = shared_le c gs (λ g m. d g (Memᴰ.tail m)) (omega arith) in omega arith
shared_le c (suc g ∷ gs) d h =
    let (q, e) = d (suc g) (Memᴰ.head (λ i. suc g)) in
    let l = factor_le c q (subst (λ (x : ℕ). 1 ≤ x) (sym e) (omega arith)) in
    omega arith

-- of polynomials that are all 0, 0 is a factor as good as any
small : (gs : List ℕ) → SharesFactor gs → (c : ℕ) × (c ≤ total gs) × SharedFactor c gs
small gs (c, s) =
    ⊎_elim
    (λ none. (
      0,
      omega arith,
      record { not_one = λ e. omega arith; divides_each = λ g m. let l = total_le gs g m in subst (Divides 0) (omega arith) (0, ⊗_zero 0) },
    ))
    (λ some. (c, shared_le c gs s.divides_each some, s))
    (lt_or_ge (total gs) 1)

-- the test of one polynomial
tested : (gs : List ℕ) (c : ℕ) → T (not (eqb c 1) && all (divides c) gs) ↔ SharedFactor c gs
tested gs c = (
  λ t.
      let parts = (T_and (not (eqb c 1)) (all (divides c) gs)).0 t in
      record {
        not_one = λ e. T_not (eqb c 1) parts.0 (eqb_passes c 1 e);
        divides_each = λ g m. (divides⇔Divides c g).0 (of_all (divides c) gs parts.1 g m);
      },
  λ s. (T_and (not (eqb c 1)) (all (divides c) gs)).1 (
    not_T (eqb c 1) (λ t. s.not_one (eqb→eq c 1 t)),
    in_all (divides c) gs (λ g m. (divides⇔Divides c g).1 (s.divides_each g m)),
  ),
)

pub share_factor⇔SharesFactor : (gs : List ℕ) → T (share_factor gs) ↔ SharesFactor gs
unfolding share_factor
share_factor⇔SharesFactor gs = (
  λ t. let w = of_any _ _ t in (w.0, (tested gs w.0).0 w.2),
  λ h. let w = small gs h in in_any _ _ (tried (total gs) w.1) ((tested gs w.0).1 w.2),
)

-- ---- Euclid's scheme finds it

pub shared_unless_one : (gs : List ℕ) → SharesFactor gs ↔ (gcd_all gs ≡ 1 → ⊥)
shared_unless_one gs = (
  λ (c, s) one. s.not_one (divides_one c (subst (Divides c) one (divides-gcd_all c gs s.divides_each))),
  λ other. (gcd_all gs, record { not_one = other; divides_each = gcd_all-divides gs }),
)

pub share_factor_by_gcd : (gs : List ℕ) → share_factor gs ≡ not (eqb (gcd_all gs) 1)
share_factor_by_gcd gs =
    same_test (share_factor gs) (not (eqb (gcd_all gs) 1))
    (λ t. not_T (eqb (gcd_all gs) 1) (λ one. (shared_unless_one gs).0 ((share_factor⇔SharesFactor gs).0 t) (eqb→eq (gcd_all gs) 1 one)))
    (λ t. (share_factor⇔SharesFactor gs).1 ((shared_unless_one gs).1 (λ e. T_not (eqb (gcd_all gs) 1) t (eqb_passes (gcd_all gs) 1 e))))
