-- Laws of a choice between two by a test: its members, its order, its blocks, and choices that agree where it matters. And tests of equality.
-- Assumes nothing.
use Prim.Native.Nat.{ℕ}
use mathlib.Core.Path.{◌≡◌, refl, subst}
use mathlib.Core.Bool.{Bool, true, false, not, cond}
use mathlib.Core.Logic.{◌≢◌, ◌⊎◌, inl, inr}
use mathlib.Core.List.Memᴰ
use mathlib.Core.List.{List, [], flat_map, Memᴰ}
use lib.Dec.{T, T_not, not_T, eqb, eqb→eq, eqb_refl}
use Rattle.lists.proofs.Sorted.{Sorted}

pub eqb_passes : (m n : ℕ) → m ≡ n → T (eqb m n)
eqb_passes m n e = subst (λ (x : ℕ). T (eqb m x)) e (eqb_refl m)

pub eqb_fails : (m n : ℕ) → m ≢ n → T (not (eqb m n))
eqb_fails m n h = not_T (eqb m n) (λ t. h (eqb→eq m n t))

-- what a test of equality that failed says
pub eqb_differs : (m n : ℕ) → T (not (eqb m n)) → m ≢ n
eqb_differs m n t e = T_not (eqb m n) t (eqb_passes m n e)

module _ {A : Type 0} where
  pub cond_true : (b : Bool) (x y : A) → T b → cond b x y ≡ x
  cond_true true x y t = refl
  cond_true false x y t = absurd t

  pub cond_false : (b : Bool) (x y : A) → T (not b) → cond b x y ≡ y
  cond_false true x y t = absurd t
  cond_false false x y t = refl

  -- what is chosen agrees
  pub cond_cong_on : (b : Bool) (x x' y y' : A) → (T b → x ≡ x') → (T (not b) → y ≡ y') → cond b x y ≡ cond b x' y'
  cond_cong_on true x x' y y' p q = p tt
  cond_cong_on false x x' y y' p q = q tt

  pub mem_choice : (b : Bool) {x : A} (l k : List A) → Memᴰ x (cond b l k) → (T b × Memᴰ x l) ⊎ (T (not b) × Memᴰ x k)
  mem_choice true l k m = inl (tt, m)
  mem_choice false l k m = inr (tt, m)

  -- a list behind a test
  pub of_guarded : (b : Bool) {x : A} (l : List A) → Memᴰ x (cond b l []) → T b × Memᴰ x l
  of_guarded true l m = (tt, m)
  of_guarded false l m = absurd (Memᴰ.not-nil m)

  pub in_first : (b : Bool) {x : A} (l k : List A) → T b → Memᴰ x l → Memᴰ x (cond b l k)
  in_first true l k t m = m
  in_first false l k t m = absurd t

  pub in_second : (b : Bool) {x : A} (l k : List A) → T (not b) → Memᴰ x k → Memᴰ x (cond b l k)
  in_second true l k t m = absurd t
  in_second false l k t m = m

  pub flat_map_cond : {B : Type 0} (f : A → List B) (b : Bool) (l k : List A) → flat_map f (cond b l k) ≡ cond b (flat_map f l) (flat_map f k)
  flat_map_cond f true l k = refl
  flat_map_cond f false l k = refl

  pub choice-sorted : (R : A → A → Type 0) (b : Bool) (l k : List A) → Sorted R l → Sorted R k → Sorted R (cond b l k)
  choice-sorted R true l k s t = s
  choice-sorted R false l k s t = t

  pub guarded_sorted : (R : A → A → Type 0) (b : Bool) (l : List A) → Sorted R l → Sorted R (cond b l [])
  guarded_sorted R b l s = choice-sorted R b l [] s tt
