-- What `first_meets` says: the walk ends at i and is above i in between. Only one length of a walk's beginnings does so, and only the inputs of
-- those steps count.
-- Assumes nothing.
use mathlib.Core.Path.{◌≡◌, sym, ◌∙◌, subst}
use Prim.Native.Nat.{ℕ, zero, suc, ◌/◌, ◌%◌, ◌≤◌, ◌<◌}
use native.Mathlib.Omega.{arith}
use lib.Dec.{T, ltb, eqb, ltb→lt, lt→ltb, eqb→eq, eqb_refl}
use Rattle.lists.proofs.Tests.{T_and}
use Rattle.poly.specs.Poly.{bit}
use Rattle.code.specs.Trellis.{next, walk, first_meets}
use Rattle.code.proofs.Cuts.{walk_cong}

-- the walk of l steps from s ends at i, and is above i in between
pub record Meets (v i l s c : ℕ) : Type 0 where
  pub some_step : 1 ≤ l
  pub arrives : walk v l s c ≡ i
  pub above : (t : ℕ) → 1 ≤ t → t < l → i < walk v t s c

module _ (v i : ℕ) where
  -- one step more at the beginning
  above_later : (l s c : ℕ) → i < next v s (c % 2) → ((t : ℕ) → 1 ≤ t → t < l → i < walk v t (next v s (c % 2)) (c / 2))
      → (t : ℕ) → 1 ≤ t → t < suc l → i < walk v t s c
  unfolding walk
  above_later l s c first later zero g h = absurd (omega arith)
  above_later l s c first later (suc zero) g h = first
  above_later l s c first later (suc (suc t)) g h = later (suc t) (omega arith) (omega arith)

  pub of_first_meets : (l s c : ℕ) → T (first_meets v i l s c) → Meets v i l s c
  unfolding walk first_meets
  of_first_meets zero s c t = absurd t
  of_first_meets (suc zero) s c t =
      record { some_step = omega arith; arrives = eqb→eq (next v s (c % 2)) i t; above = λ t g h. absurd (omega arith) }
  of_first_meets (suc (suc l)) s c t =
      let s' : ℕ = next v s (c % 2) in
      let h = (T_and (ltb i s') (first_meets v i (suc l) s' (c / 2))).0 t in
      let rest = of_first_meets (suc l) s' (c / 2) h.1 in
      record { some_step = omega arith; arrives = rest.arrives; above = above_later (suc l) s c (ltb→lt i s' h.0) rest.above }

  pub in_first_meets : (l s c : ℕ) → Meets v i l s c → T (first_meets v i l s c)
  unfolding walk first_meets
  in_first_meets zero s c m = absurd (omega (arith, m.some_step))
  in_first_meets (suc zero) s c m = subst (λ (x : ℕ). T (eqb (next v s (c % 2)) x)) m.arrives (eqb_refl (next v s (c % 2)))
  in_first_meets (suc (suc l)) s c m =
      let s' : ℕ = next v s (c % 2) in
      let first : i < s' = m.above 1 (omega arith) (omega arith) in
      let rest : Meets v i (suc l) s' (c / 2) =
      record { some_step = omega arith; arrives = m.arrives; above = λ t g h. m.above (suc t) (omega arith) (omega arith) } in
      (T_and (ltb i s') (first_meets v i (suc l) s' (c / 2))).1 (lt→ltb i s' first, in_first_meets (suc l) s' (c / 2) rest)

  pub meets_cong : (l s c c' : ℕ) → ((j : ℕ) → j < l → bit j c ≡ bit j c') → Meets v i l s c → Meets v i l s c'
  meets_cong l s c c' same m =
      let early : (t : ℕ) → t ≤ l → walk v t s c ≡ walk v t s c' = λ t h. walk_cong v t s c c' (λ j g. same j (omega arith)) in
      record {
        some_step = m.some_step;
        arrives = sym (early l (omega arith)) ∙ m.arrives;
        above = λ t g h. let e = early t (omega arith) in let a = m.above t g h in omega arith;
      }

  -- the first return comes once
  pub meets_unique : (l l' s c : ℕ) → Meets v i l s c → Meets v i l' s c → l ≡ l'
  meets_unique l l' s c m m' =
      let some = m.some_step in
      let some' = m'.some_step in
      let end = m.arrives in
      let end' = m'.arrives in
      let early : ¬ (l < l') = λ h. let a = m'.above l some h in omega arith in
      let late : ¬ (l' < l) = λ h. let a = m.above l' some' h in omega arith in
      omega arith
