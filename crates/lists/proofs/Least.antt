-- In a list that is not empty, some member is bettered by no member, where bettering is transitive and nothing betters itself.
-- Assumes nothing.
use mathlib.Core.Path.{refl, subst⁻¹}
use mathlib.Core.Bool.{Bool, not}
use mathlib.Core.Logic.{⊎_elim}
use mathlib.Core.List.Memᴰ
use mathlib.Core.List.{List, [], ◌∷◌, Memᴰ}
use lib.Dec.{T, T_not, not_T}
use Rattle.lists.proofs.Tests.{passes_or_fails}

-- a member that no member betters
pub record Unbettered {A : Type 0} (better : A → A → Bool) (xs : List A) : Type 0 where
  pub least : A
  pub member : Memᴰ least xs
  pub unbettered : (z : A) → Memᴰ z xs → T (not (better z least))

module _ {A : Type 0} (better : A → A → Bool) where
  -- the first member and the later ones, one by one
  unbettered_cons : (x y : A) (xs : List A) → T (not (better x y)) → ((z : A) → Memᴰ z xs → T (not (better z y)))
      → (z : A) → Memᴰ z (x ∷ xs) → T (not (better z y))
  unbettered_cons x y xs first later z m = ⊎_elim (λ e. subst⁻¹ (λ a. T (not (better a y))) e first) (later z) (Memᴰ.cases_cons m)

  module _ (irreflexive : (x : A) → T (better x x) → ⊥) (transitive : (x y z : A) → T (better x y) → T (better y z) → T (better x z)) where
    fails_itself : (x : A) → T (not (better x x))
    fails_itself x = not_T (better x x) (irreflexive x)

    -- what betters x would better what x betters
    fails_too : (x y z : A) → T (better x y) → T (not (better z y)) → T (not (better z x))
    fails_too x y z b n = not_T (better z x) (λ c. T_not (better z y) n (transitive z x y c b))

    -- one more member: it betters the least so far, or it does not
    replaced : (x : A) (xs : List A) (u : Unbettered better xs) → T (better x u.least) → Unbettered better (x ∷ xs)
    replaced x xs u b =
        let later : (z : A) → Memᴰ z xs → T (not (better z x)) = λ z m. fails_too x u.least z b (u.unbettered z m) in
        record { least = x; member = Memᴰ.head refl; unbettered = unbettered_cons x x xs (fails_itself x) later }

    stays : (x : A) (xs : List A) (u : Unbettered better xs) → T (not (better x u.least)) → Unbettered better (x ∷ xs)
    stays x xs u n =
        record { least = u.least; member = Memᴰ.tail u.member; unbettered = unbettered_cons x u.least xs n u.unbettered }

    pub some_unbettered : (x : A) (xs : List A) → Unbettered better (x ∷ xs)
    some_unbettered x [] =
        let none : (z : A) → Memᴰ z [] → T (not (better z x)) = λ z m. absurd (Memᴰ.not-nil m) in
        record { least = x; member = Memᴰ.head refl; unbettered = unbettered_cons x x [] (fails_itself x) none }
    some_unbettered x (y ∷ ys) =
        let u = some_unbettered y ys in
        ⊎_elim (replaced x (y ∷ ys) u) (stays x (y ∷ ys) u) (passes_or_fails (better x u.least))
