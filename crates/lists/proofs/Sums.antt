-- Laws of a sum f 0 + .. + f (k - 1).
-- Assumes nothing.
use mathlib.Core.Path.{◌≡◌, refl, sym, ap, ap₂, ◌∙◌}
use Prim.Native.Nat.{ℕ, zero, suc, ◌+◌, ◌*◌, ◌≤◌, ◌<◌, suc-le-suc}
use native.Mathlib.Nat.{add_assoc, add_comm, add-zero, zero-add, suc-add, add-suc, suc-mul, zero-lt-suc}
use native.Mathlib.Omega.{arith}
use Rattle.lists.specs.Lists.{sum}

-- equal terms, equal sums
pub sum_cong : (k : ℕ) (f g : ℕ → ℕ) → ((j : ℕ) → j < k → f j ≡ g j) → sum k f ≡ sum k g
unfolding sum
sum_cong zero f g h = refl
sum_cong (suc k) f g h =
    ap₂ (λ (x y : ℕ). x + y) (h 0 (zero-lt-suc k)) (sum_cong k (λ j. f (suc j)) (λ j. g (suc j)) (λ j l. h (suc j) (suc-le-suc l)))

-- the last term taken off
pub sum_last : (k : ℕ) (f : ℕ → ℕ) → sum (suc k) f ≡ sum k f + f k
unfolding sum
sum_last zero f = add_comm (f 0) 0
sum_last (suc k) f = ap (λ (x : ℕ). f 0 + x) (sum_last k (λ j. f (suc j))) ∙ sym (add_assoc (f 0) (sum k (λ j. f (suc j))) (f (suc k)))

pub sum_zero : (k : ℕ) → sum k (λ _. 0) ≡ 0
unfolding sum
sum_zero zero = refl
sum_zero (suc k) = zero-add (sum k (λ _. 0)) ∙ sum_zero k

pub sum_add : (k : ℕ) (f g : ℕ → ℕ) → sum k (λ j. f j + g j) ≡ sum k f + sum k g
unfolding sum
sum_add zero f g = refl
sum_add (suc k) f g =
    let e : sum k (λ j. f (suc j) + g (suc j)) ≡ sum k (λ j. f (suc j)) + sum k (λ j. g (suc j)) = sum_add k (λ j. f (suc j)) (λ j. g (suc j)) in
    omega arith

-- begun one later, where the term at k is the term at 0
sum_later : (k : ℕ) (g : ℕ → ℕ) → g k ≡ g 0 → sum k (λ j. g (suc j)) ≡ sum k g
unfolding sum
sum_later k g e = let l : g 0 + sum k (λ j. g (suc j)) ≡ sum k g + g k = sum_last k g in omega arith

-- a sum over a whole period does not depend on where it begins
pub sum_period : (k r : ℕ) (f : ℕ → ℕ) → ((j : ℕ) → f (j + k) ≡ f j) → sum k (λ j. f (j + r)) ≡ sum k f
sum_period k zero f h = sum_cong k (λ j. f (j + 0)) f (λ j _. ap f (add-zero j))
sum_period k (suc r) f h =
    sum_cong k (λ j. f (j + suc r)) (λ j. f (suc j + r)) (λ j _. ap f (add-suc j r ∙ sym (suc-add j r)))
    ∙ sum_later k (λ j. f (j + r)) (ap f (add_comm k r) ∙ h r ∙ ap f (sym (zero-add r)))
    ∙ sum_period k r f h

-- one of the numbers grows by one
pub sum_one : (k i : ℕ) (f g : ℕ → ℕ) → i < k → ((j : ℕ) → (j ≡ i → ⊥) → g j ≡ f j) → g i ≡ suc (f i) → sum k g ≡ suc (sum k f)
unfolding sum
sum_one zero i f g h same more = absurd (omega arith)
sum_one (suc k) zero f g h same more =
    let rest = sum_cong k (λ j. g (suc j)) (λ j. f (suc j)) (λ j l. same (suc j) (λ e. omega arith)) in omega arith
sum_one (suc k) (suc i) f g h same more =
    let rest = sum_one k i (λ j. f (suc j)) (λ j. g (suc j)) (omega arith) (λ j n. same (suc j) (λ e. n (omega arith))) more in
    let first = same 0 (λ e. omega arith) in
    omega arith

pub sum_most : (k most : ℕ) (f : ℕ → ℕ) → ((j : ℕ) → f j ≤ most) → sum k f ≤ k * most
unfolding sum
sum_most zero most f h = omega arith
sum_most (suc k) most f h = let r = sum_most k most (λ j. f (suc j)) (λ j. h (suc j)) in let a = h 0 in let e = suc-mul k most in omega arith
