-- `fewer` compares two lists of counts at the lowest weight where they differ (`fewer⇔lowest`). It is a strict order, and total on lists
-- of the same length.
-- Assumes nothing.
use Prim.Native.Nat.{ℕ, zero, suc, ◌<◌, zero-le, suc-le-suc}
use native.Mathlib.Nat.{le_of_suc-le-suc}
use native.Mathlib.Decide.{dec_lt}
use native.Mathlib.Omega.{arith}
use mathlib.Core.Path.{◌≡◌, refl, sym, ◌∙◌, ap₂, subst}
use mathlib.Core.Bool.{not, ◌&&◌}
use mathlib.Core.Logic.{◌↔◌, ◌⊎◌, inl, inr, ⊎_elim}
use mathlib.Core.List.{List, [], ◌∷◌}
use lib.Dec.{T, not_T, ltb, eqb, ltb→lt, lt→ltb, eqb→eq, eqb_refl}
use lib.ListN.{length, get_or}
use Rattle.lists.proofs.Tests.{T_and, T_or}
use Rattle.choice.specs.Choice.{fewer}
use Rattle.choice.specs.Best.{LowestLess}

agree_cons : (x y w : ℕ) (s t : List ℕ) → x ≡ y → ((k : ℕ) → k < w → get_or s k 0 ≡ get_or t k 0)
    → (k : ℕ) → k < suc w → get_or (x ∷ s) k 0 ≡ get_or (y ∷ t) k 0
agree_cons x y w s t e below zero h = e
agree_cons x y w s t e below (suc k) h = below k (le_of_suc-le-suc h)

-- ---- one step

fewer-first : (x y : ℕ) (s t : List ℕ) → x < y → T (fewer (x ∷ s) (y ∷ t))
unfolding fewer
fewer-first x y s t h = (T_or (ltb x y) _).1 (inl (lt→ltb x y h))

fewer_later : (x y : ℕ) (s t : List ℕ) → x ≡ y → T (fewer s t) → T (fewer (x ∷ s) (y ∷ t))
unfolding fewer
fewer_later x y s t e h =
    (T_or (ltb x y) (eqb x y && fewer s t)).1 (inr ((T_and (eqb x y) (fewer s t)).1 (subst (λ z. T (eqb x z)) e (eqb_refl x), h)))

fewer_cases : (x y : ℕ) (s t : List ℕ) → T (fewer (x ∷ s) (y ∷ t)) → (x < y) ⊎ ((x ≡ y) × T (fewer s t))
unfolding fewer
fewer_cases x y s t h =
    ⊎_elim (λ l. inl (ltb→lt x y l)) (λ r. let b = (T_and (eqb x y) (fewer s t)).0 r in inr (eqb→eq x y b.0, b.1))
    ((T_or (ltb x y) (eqb x y && fewer s t)).0 h)

-- ---- the lowest weight where they differ

pub lowest_of_fewer : (a b : List ℕ) → T (fewer a b) → LowestLess (length a) a b
unfolding fewer
lowest_of_fewer [] b h = absurd h
lowest_of_fewer (x ∷ s) [] h = absurd h
lowest_of_fewer (x ∷ s) (y ∷ t) h = ⊎_elim here (λ r. later r.0 (lowest_of_fewer s t r.1)) (fewer_cases x y s t h)
  where
    here : x < y → LowestLess (suc (length s)) (x ∷ s) (y ∷ t)
    here l = (zero, suc-le-suc zero-le, λ k g. absurd (omega arith), l)

    later : x ≡ y → LowestLess (length s) s t → LowestLess (suc (length s)) (x ∷ s) (y ∷ t)
    later e r = (suc r.0, suc-le-suc r.1, agree_cons x y r.0 s t e r.2, r.3)

pub fewer_of_lowest : (a b : List ℕ) → LowestLess (length a) a b → T (fewer a b)
fewer_of_lowest [] b h = absurd (omega arith)
fewer_of_lowest (x ∷ s) [] h = absurd (omega arith)
fewer_of_lowest (x ∷ s) (y ∷ t) (zero, inside, below, less) = fewer-first x y s t less
fewer_of_lowest (x ∷ s) (y ∷ t) (suc w, inside, below, less) =
    fewer_later x y s t (below 0 (suc-le-suc zero-le))
    (fewer_of_lowest s t (w, le_of_suc-le-suc inside, λ k h. below (suc k) (suc-le-suc h), less))

-- (also where the lists differ in length)
pub fewer⇔lowest : (a b : List ℕ) → T (fewer a b) ↔ LowestLess (length a) a b
fewer⇔lowest a b = (lowest_of_fewer a b, fewer_of_lowest a b)

-- ---- a strict order

pub fewer_irreflexive : (a : List ℕ) → T (fewer a a) → ⊥
fewer_irreflexive a h = let l = lowest_of_fewer a a h in omega arith

pub not_itself : (a : List ℕ) → T (not (fewer a a))
not_itself a = not_T (fewer a a) (fewer_irreflexive a)

pub fewer_transitive : (a b c : List ℕ) → T (fewer a b) → T (fewer b c) → T (fewer a c)
unfolding fewer
fewer_transitive [] b c h g = absurd h
fewer_transitive (x ∷ s) [] c h g = absurd h
fewer_transitive (x ∷ s) (y ∷ t) [] h g = absurd g
fewer_transitive (x ∷ s) (y ∷ t) (z ∷ u) h g = step (fewer_transitive s t u) (fewer_cases x y s t h) (fewer_cases y z t u g)
  where
    step : (T (fewer s t) → T (fewer t u) → T (fewer s u))
        → (x < y) ⊎ ((x ≡ y) × T (fewer s t)) → (y < z) ⊎ ((y ≡ z) × T (fewer t u)) → T (fewer (x ∷ s) (z ∷ u))
    step rest (inl p) (inl q) = fewer-first x z s u (omega arith)
    step rest (inl p) (inr q) = fewer-first x z s u (omega arith)
    step rest (inr p) (inl q) = fewer-first x z s u (omega arith)
    step rest (inr p) (inr q) = fewer_later x z s u (p.0 ∙ q.0) (rest p.1 q.1)

pub fewer_asymmetric : (a b : List ℕ) → T (fewer a b) → T (fewer b a) → ⊥
fewer_asymmetric a b h g = fewer_irreflexive a (fewer_transitive a b a h g)

-- equal, or one of them has fewer
abbrev pub Compared : List ℕ → List ℕ → Type 0
Compared a b = (a ≡ b) ⊎ T (fewer a b) ⊎ T (fewer b a)

pub fewer-total : (a b : List ℕ) → length a ≡ length b → Compared a b
fewer-total [] [] e = inl refl
fewer-total [] (y ∷ t) e = absurd (omega arith)
fewer-total (x ∷ s) [] e = absurd (omega arith)
fewer-total (x ∷ s) (y ∷ t) e = step (dec_lt x y) (dec_lt y x) (fewer-total s t (omega arith))
  where
    same : x ≡ y → Compared s t → Compared (x ∷ s) (y ∷ t)
    same p (inl q) = inl (ap₂ ◌∷◌ p q)
    same p (inr (inl q)) = inr (inl (fewer_later x y s t p q))
    same p (inr (inr q)) = inr (inr (fewer_later y x t s (sym p) q))

    step : Dec (x < y) → Dec (y < x) → Compared s t → Compared (x ∷ s) (y ∷ t)
    step (yes p) d r = inr (inl (fewer-first x y s t p))
    step (no p) (yes q) r = inr (inr (fewer-first y x t s q))
    step (no p) (no q) r = same (omega arith) r
