-- The zero loop told by its numbers, and the least weight of the events that are longer.
-- Assumes nothing.
use Prim.Native.Nat.{ℕ, zero, suc, ◌+◌, ◌-◌, ◌≤◌, ◌<◌, min}
use native.Mathlib.Decide.{ℕ_discrete}
use native.Mathlib.Omega.{arith}
use mathlib.Core.Path.{◌≡◌, refl, sym, ap, ◌∙◌, subst}
use mathlib.Core.Bool.{Bool, true, false, cond, ◌&&◌}
use mathlib.Core.List.{List}
use lib.Dec.{T, eqb, eqb→eq}
use Rattle.lists.proofs.Tests.{T_and}
use Rattle.lists.proofs.Choices.{eqb_passes}
use Rattle.events.specs.declared.Event.{Event}
use Rattle.bounds.specs.Model.Places.{length_count, too_heavy}
use Rattle.bounds.specs.Model.Tables.{least_at, start_at, is_zero_loop, lightest, light_of}

-- ---- tests one after another

and_rest : (a b : Bool) → T a → a && b ≡ b
and_rest true b t = refl
and_rest false b t = absurd t

module _ (e : Event) where
  pub loop-high : e.length ≡ 1 → e.weight ≡ 0 → e.low ≡ 0 → eqb e.high 0 ≡ is_zero_loop e
  unfolding is_zero_loop
  loop-high l w k =
      sym (and_rest (eqb e.length 1) (eqb e.weight 0 && (eqb e.low 0 && eqb e.high 0)) (eqb_passes e.length 1 l)
      ∙ and_rest (eqb e.weight 0) (eqb e.low 0 && eqb e.high 0) (eqb_passes e.weight 0 w)
      ∙ and_rest (eqb e.low 0) (eqb e.high 0) (eqb_passes e.low 0 k))

  -- what it says
  pub record ZeroLoop : Type 0 where
    pub one_step : e.length ≡ 1
    pub no_weight : e.weight ≡ 0
    pub no_low : e.low ≡ 0
    pub no_high : e.high ≡ 0

  pub zero_loop : T (is_zero_loop e) → ZeroLoop
  unfolding is_zero_loop
  zero_loop t =
      let a = (T_and (eqb e.length 1) (eqb e.weight 0 && (eqb e.low 0 && eqb e.high 0))).0 t in
      let b = (T_and (eqb e.weight 0) (eqb e.low 0 && eqb e.high 0)).0 a.1 in
      let c = (T_and (eqb e.low 0) (eqb e.high 0)).0 b.1 in
      record {
        one_step = eqb→eq e.length 1 a.0;
        no_weight = eqb→eq e.weight 0 b.0;
        no_low = eqb→eq e.low 0 c.0;
        no_high = eqb→eq e.high 0 c.1;
      }

  pub loop-told : ZeroLoop → T (is_zero_loop e)
  loop-told z =
      subst T (loop-high z.one_step z.no_weight z.no_low) (eqb_passes e.high 0 z.no_high)

-- ---- the least weight of the longer ones

pub lightest_le : (work : List ℕ) (n l : ℕ) → 2 ≤ l → l < n + 2 → lightest work n ≤ least_at work l
unfolding lightest
lightest_le work zero l h g = absurd (omega arith)
lightest_le work (suc n) l h g =
    elim (ℕ_discrete l (n + 2)) [
      | yes same ↦ let e = ap (least_at work) same in omega arith
      | no apart ↦ let rest = lightest_le work n l h (omega arith) in omega arith
    ]

pub lightest_begin : (work : List ℕ) → too_heavy ≡ lightest work (2 - 2)
unfolding lightest
lightest_begin work = refl

pub lightest_again : (work : List ℕ) (l least r : ℕ) → 2 ≤ l → least ≡ lightest work (l - 2) → r ≡ min least (least_at work l)
    → r ≡ lightest work (l + 1 - 2)
unfolding lightest
lightest_again work l least r h e is =
    is ∙ ap (λ (x : ℕ). min x (least_at work l)) e ∙ ap (λ (x : ℕ). min (lightest work (l - 2)) (least_at work x)) place ∙ ap (lightest work) next
  where
    place : l ≡ l - 2 + 2
    place = omega arith

    next : suc (l - 2) ≡ l + 1 - 2
    next = omega arith

-- ---- what the code tells of them

module _ (work : List ℕ) (e : Event) (from : ℕ) where
  -- where it tells something
  pub light_means : 1 ≤ light_of work e from → ZeroLoop e × ((start_at work 2 ≡ from + 1) × (light_of work e from ≡ lightest work (length_count - 2)))
  unfolding light_of
  light_means h = by (is_zero_loop e && eqb (start_at work 2) (from + 1)) (λ t. t) h
    where
      by : (b : Bool) → (T b → T (is_zero_loop e && eqb (start_at work 2) (from + 1))) → 1 ≤ cond b (lightest work (length_count - 2)) 0
          → ZeroLoop e × ((start_at work 2 ≡ from + 1) × (cond b (lightest work (length_count - 2)) 0 ≡ lightest work (length_count - 2)))
      by true t h =
          let a = (T_and (is_zero_loop e) (eqb (start_at work 2) (from + 1))).0 (t tt) in
          (zero_loop e a.0, (eqb→eq (start_at work 2) (from + 1) a.1, refl))
      by false t h = absurd (omega arith)
