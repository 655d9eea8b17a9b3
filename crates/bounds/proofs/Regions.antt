-- The regions of the work area lie apart (`regions_apart`), so what is stored in one leaves the others as they were (`Keeps`, `kept`).
-- Assumes nothing.
use Prim.Native.Nat.{ℕ, ◌+◌, ◌≤◌, ◌<◌}
use native.Mathlib.Omega.{arith}
use mathlib.Core.Path.{◌≡◌, refl, sym, ◌∙◌, subst}
use mathlib.Core.Bool.{Bool, true, ◌&&◌, ◌||◌}
use mathlib.Core.Logic.{◌⊎◌, inl, inr, ⊎_elim}
use mathlib.Core.List.{List, [], ◌∷◌}
use lib.Dec.{T, leb, leb→le}
use lib.ListN.{length, get_or, set, length-set}
use lib.Seq.{get_or-set_other}
use Rattle.lists.proofs.Tests.{T_and, T_or}
use Rattle.bounds.specs.Model.Places.{area_size, Region, regions}

-- ---- apart: tests that compute

-- two regions have no place in common
abbrev pub apart : Region → Region → Bool
apart r s = leb (r.start + r.size) s.start || leb (s.start + s.size) r.start

-- a region has none in common with those of a list
abbrev pub away : Region → List Region → Bool
away r [] = true
away r (s ∷ ss) = apart r s && away r ss

-- nor have any two of a list, and all are within the area
abbrev pub laid_out : List Region → Bool
laid_out [] = true
laid_out (r ∷ rs) = leb (r.start + r.size) area_size && away r rs && laid_out rs

pub regions_apart : T (laid_out regions)
regions_apart = tt

-- ---- places

-- place i is in a region, and in one of several
abbrev pub Within : Region → ℕ → Type 0
Within r i = (r.start ≤ i) × (i < r.start + r.size)

abbrev pub In : List Region → ℕ → Type 0
In [] i = ⊥
In (r ∷ rs) i = Within r i ⊎ In rs i

-- a place of a region is in none that lies apart from it
pub away_out : (r : Region) (rs : List Region) → T (away r rs) → (i : ℕ) → i < r.size → In rs (r.start + i) → ⊥
away_out r [] t i h none = none
away_out r (s ∷ ss) t i h within =
    let tests = (T_and (apart r s) (away r ss)).0 t in
    ⊎_elim
    (λ (w : Within s (r.start + i)). ⊎_elim
    (λ before. let b = leb→le (r.start + r.size) s.start before in omega arith)
    (λ after. let a = leb→le (s.start + s.size) r.start after in omega arith)
    ((T_or (leb (r.start + r.size) s.start) (leb (s.start + s.size) r.start)).0 tests.0))
    (λ rest. away_out r ss tests.1 i h rest) within

-- ---- what stays

-- the length, and the numbers outside some regions
pub record Keeps (rs : List Region) (before after : List ℕ) : Type 0 where
  pub size : length after ≡ length before
  pub same : (j : ℕ) → (In rs j → ⊥) → get_or after j 0 ≡ get_or before j 0

pub keeps_all : {rs : List Region} (work : List ℕ) → Keeps rs work work
keeps_all work = record { size = refl; same = λ j out. refl }

pub keeps_then : {rs : List Region} {a b c : List ℕ} → Keeps rs a b → Keeps rs b c → Keeps rs a c
keeps_then p q = record { size = q.size ∙ p.size; same = λ j out. q.same j out ∙ p.same j out }

pub keeps_set : {rs : List Region} (work : List ℕ) (i x : ℕ) → In rs i → Keeps rs work (set work i x)
keeps_set {rs} work i x h = record {
  size = length-set work i x;
  same = λ j out. get_or-set_other work i j x 0 (λ e. out (subst (In rs) (sym e) h));
}

-- more regions are named than were stored to
pub keeps_more : {rs ss : List Region} {a b : List ℕ} → ((i : ℕ) → In rs i → In ss i) → Keeps rs a b → Keeps ss a b
keeps_more more k = record { size = k.size; same = λ j out. k.same j (λ w. out (more j w)) }

pub keeps_also : {r : Region} {rs : List Region} {a b : List ℕ} → Keeps rs a b → Keeps (r ∷ rs) a b
keeps_also k = keeps_more (λ i w. inr w) k

pub keeps_within : {r : Region} {rs : List Region} {a b : List ℕ} (q : Region) → r.start ≤ q.start
    → q.start + q.size ≤ r.start + r.size
    → Keeps (q ∷ []) a b → Keeps (r ∷ rs) a b
keeps_within {r} q h g k =
    keeps_more (λ i w. ⊎_elim (λ (v : Within q i). inl (omega arith, omega arith)) (λ none. absurd none) w) k

-- a number of a region that lies apart from those
pub kept : {rs : List Region} {a b : List ℕ} → Keeps rs a b → (r : Region) → T (away r rs) → (i : ℕ) → i < r.size
    → get_or b (r.start + i) 0 ≡ get_or a (r.start + i) 0
kept {rs} k r t i h = k.same (r.start + i) (away_out r rs t i h)

-- and one below a region
pub kept_below : {r : Region} {a b : List ℕ} → Keeps (r ∷ []) a b → (j : ℕ) → j < r.start → get_or b j 0 ≡ get_or a j 0
kept_below {r} k j h = k.same j (λ w. ⊎_elim (λ (v : Within r j). omega arith) (λ none. none) w)
