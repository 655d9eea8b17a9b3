-- The way to a state: a walk of t steps from i that stays above i at every place from 1 on that lies before place l. One step more at its end, and
-- one less.
-- Assumes nothing.
use Prim.Native.Nat.{ℕ, suc, ◌+◌, ◌*◌, ◌/◌, ◌%◌, ◌^◌, ◌≤◌, ◌<◌}
use native.Mathlib.Nat.{mod-eq_of_lt, mod-lt, pow-succ', div-lt_iff_lt-mul, div-add-mod'}
use native.Mathlib.Numerals.{add-one}
use native.Mathlib.Decide.{ℕ_discrete}
use native.Mathlib.Omega.{arith}
use mathlib.Core.Path.{◌≡◌, refl, sym, ap, ap₂, ◌∙◌, subst}
use mathlib.Core.List.{List}
use lib.Arith.{digits_lt}
use lib.Pow.{pow_pos}
use Rattle.code.specs.Trellis.{next, step_weight, walk, walk_weight}
use Rattle.code.proofs.Cuts.{walk_low, walk_high, walk_weight_high}

module _ (v i l : ℕ) where
  pub record Way (t s low : ℕ) : Type 0 where
    pub fits : low < 2 ^ t
    pub arrives : walk v t i low ≡ s
    pub above : (j : ℕ) → 1 ≤ j → j ≤ t → j < l → i < walk v j i low

  -- no step
  pub way_none : Way 0 i 0
  unfolding walk
  way_none = record { fits = omega arith; arrives = refl; above = λ j g h _. absurd (omega arith) }

  module _ (t low b : ℕ) (hb : b < 2) (fits : low < 2 ^ t) where
    pub walk_more : walk v (suc t) i (b * 2 ^ t + low) ≡ next v (walk v t i low) b
    unfolding walk
    walk_more =
        ap (λ (n : ℕ). walk v n i (b * 2 ^ t + low)) (sym (add-one t)) ∙ walk_high v t low b fits 1 i
        ∙ ap (next v (walk v t i low)) (mod-eq_of_lt hb)

    pub weight_more : (gs : List ℕ) → walk_weight gs v (suc t) i (b * 2 ^ t + low) ≡ walk_weight gs v t i low + step_weight gs (walk v t i low) b
    unfolding walk_weight
    weight_more gs =
        ap (λ (n : ℕ). walk_weight gs v n i (b * 2 ^ t + low)) (sym (add-one t)) ∙ walk_weight_high v t low b fits gs 1 i
        ∙ ap₂ (λ (x y : ℕ). x + y) refl (add_zero' (step_weight gs (walk v t i low) (b % 2)) ∙ ap (step_weight gs (walk v t i low)) (mod-eq_of_lt hb))
      where
        add_zero' : (x : ℕ) → x + 0 ≡ x
        add_zero' x = omega arith

    more_fits : b * 2 ^ t + low < 2 ^ suc t
    more_fits = subst (λ (x : ℕ). b * 2 ^ t + low < x) (sym (pow-succ' 2 t)) (digits_lt hb fits)

  -- one step more, with input b
  pub way_more : (t p low b : ℕ) → b < 2 → Way t p low → (suc t < l → i < next v p b) → Way (suc t) (next v p b) (b * 2 ^ t + low)
  way_more t p low b hb w last =
      let fits = w.fits in
      let end : walk v (suc t) i (b * 2 ^ t + low) ≡ next v p b = walk_more t low b hb fits ∙ ap (λ (x : ℕ). next v x b) w.arrives in
      record {
        fits = more_fits t low b hb fits;
        arrives = end;
        above = λ j g h k. elim (ℕ_discrete j (suc t)) [
          | yes e ↦
              let final : i < next v p b = last (omega arith) in
              let same : walk v j i (b * 2 ^ t + low) ≡ next v p b = ap (λ (x : ℕ). walk v x i (b * 2 ^ t + low)) e ∙ end in
              omega arith
          | no n ↦ subst (λ (x : ℕ). i < x) (sym (walk_low v t low b j i (omega arith))) (w.above j g (omega arith) k)
        ];
      }

  -- one step less
  pub record Shorter (t s low : ℕ) : Type 0 where
    pub rest : ℕ
    pub bit : ℕ
    pub is : low ≡ bit * 2 ^ t + rest
    pub bit_lt : bit < 2
    pub way : Way t (walk v t i rest) rest
    pub last : s ≡ next v (walk v t i rest) bit

  pub way_less : (t s low : ℕ) → Way (suc t) s low → Shorter t s low
  way_less t s low w =
      let b : ℕ = low / 2 ^ t in
      let rest : ℕ = low % 2 ^ t in
      let parts : low ≡ b * 2 ^ t + rest = sym (div-add-mod' low (2 ^ t)) in
      let hb : b < 2 = (div-lt_iff_lt-mul (pow_pos t)).1 (subst (λ (x : ℕ). low < x) (pow-succ' 2 t) w.fits) in
      let fits : rest < 2 ^ t = mod-lt low (pow_pos t) in
      record {
        rest = rest;
        bit = b;
        is = parts;
        bit_lt = hb;
        way = record {
          fits = fits;
          arrives = refl;
          above = λ j g h k.
              subst (λ (x : ℕ). i < x) (ap (walk v j i) parts ∙ walk_low v t rest b j i h) (w.above j g (omega arith) k);
        };
        last = sym w.arrives ∙ ap (walk v (suc t) i) parts ∙ walk_more t rest b hb fits;
      }
