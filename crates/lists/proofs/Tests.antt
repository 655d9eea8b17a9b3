-- What a test made of tests says: `&&` is both, `||` one of the two, `not` the failure; and every test passes or fails.
-- Assumes nothing.
use mathlib.Core.Path.{◌≡◌, refl, sym, ap, subst}
use mathlib.Core.Bool.{Bool, true, false, not, ◌&&◌, ◌||◌}
use mathlib.Core.Logic.{◌↔◌, ◌⊎◌, inl, inr, ⊎_elim}
use Prim.Native.Nat.{ℕ, ◌≤◌, ◌<◌}
use lib.Dec.{T, ltb, ltb→lt, nltb→le}

pub T_and : (a b : Bool) → T (a && b) ↔ (T a × T b)
T_and true b = (λ t. (tt, t), λ h. h.1)
T_and false b = (λ t. absurd t, λ h. h.0)

pub T_or : (a b : Bool) → T (a || b) ↔ (T a ⊎ T b)
T_or true b = (λ t. inl tt, λ h. tt)
T_or false b = (λ t. inr t, λ h. elim h [ inl t ↦ absurd t | inr t ↦ t ])

pub passes_or_fails : (a : Bool) → T a ⊎ T (not a)
passes_or_fails true = inl tt
passes_or_fails false = inr tt

pub lt_or_ge : (a b : ℕ) → (a < b) ⊎ (b ≤ a)
lt_or_ge a b = ⊎_elim (λ t. inl (ltb→lt a b t)) (λ t. inr (nltb→le a b t)) (passes_or_fails (ltb a b))

pub true_of_T : (a : Bool) → T a → a ≡ true
true_of_T true t = refl
true_of_T false t = absurd t

pub false_of_T_not : (a : Bool) → T (not a) → a ≡ false
false_of_T_not true t = absurd t
false_of_T_not false t = refl

-- a conjunction whose first test is known
pub and_yes : (a b : Bool) → a ≡ true → b ≡ (a && b)
and_yes a b e = sym (ap (λ (x : Bool). x && b) e)

pub and_no : (a b : Bool) → a ≡ false → false ≡ (a && b)
and_no a b e = sym (ap (λ (x : Bool). x && b) e)

pub both : (a b : Bool) → (a && b) ≡ true → (a ≡ true) × (b ≡ true)
both true b e = (refl, e)
both false b e = absurd (subst T (sym e) tt)

pub T_not_not : (a : Bool) → T (not (not a)) → T a
T_not_not true t = tt
T_not_not false t = absurd t

-- tests that pass together are equal
pub same_test : (a b : Bool) → (T a → T b) → (T b → T a) → a ≡ b
same_test true true f g = refl
same_test true false f g = absurd (f tt)
same_test false true f g = absurd (g tt)
same_test false false f g = refl
