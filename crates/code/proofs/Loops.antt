-- Walks that begin and end at i and never fall below i. Such a walk begins with a walk that meets i for the first time (`loop-first`); what is left
-- is such a walk again (`loop-rest`), and a first return joined to such a walk is one (`loop-join`).
-- Assumes nothing.
use mathlib.Core.Path.{◌≡◌, refl, sym, ap, ◌∙◌, subst}
use Prim.Native.Nat.{ℕ, zero, suc, ◌+◌, ◌-◌, ◌*◌, ◌/◌, ◌^◌, ◌≤◌, ◌<◌}
use native.Mathlib.Nat.{add_comm}
use native.Mathlib.Decide.{ℕ_discrete, dec_le}
use native.Mathlib.Omega.{arith}
use lib.Arith.{digits_lt, lt_of_le-ne}
use lib.Pow.{pow-add, shr_lt}
use Rattle.lists.proofs.Hits.{first_hit}
use Rattle.poly.proofs.Bits.{bit_low}
use Rattle.code.specs.Trellis.{walk}
use Rattle.code.proofs.Cuts.{walk-cut, walk_low, walk_high}
use Rattle.code.proofs.Meets.{Meets, meets_cong}

-- k steps from i back to i, never below i
pub record Loop (v i k c : ℕ) : Type 0 where
  pub fits : c < 2 ^ k
  pub closes : walk v k i c ≡ i
  pub above : (t : ℕ) → t ≤ k → i ≤ walk v t i c

module _ (v i : ℕ) where
  -- no step at all
  pub loop-empty : Loop v i 0 0
  unfolding walk
  loop-empty = record { fits = omega arith; closes = refl; above = at }
    where
      at : (t : ℕ) → t ≤ 0 → i ≤ walk v t i 0
      at zero h = omega arith
      at (suc t) h = absurd (omega arith)

  -- a first return does not fall below i
  meets_above : (l c t : ℕ) → Meets v i l i c → t ≤ l → i ≤ walk v t i c
  unfolding walk
  meets_above l c zero m h = omega arith
  meets_above l c (suc t) m h =
      elim (ℕ_discrete (suc t) l) [
        | yes e ↦ let back = ap (λ (x : ℕ). walk v x i c) e ∙ m.arrives in omega (arith, back)
        | no n ↦ let a = m.above (suc t) (omega arith) (omega arith) in omega arith
      ]

  module _ (l k a c : ℕ) where
    -- a first return, its inputs low, then a loop
    module _ (m : Meets v i l i a) (fit : a < 2 ^ l) (rest : Loop v i k c) where
      joint_fits : c * 2 ^ l + a < 2 ^ (l + k)
      joint_fits = subst (λ (x : ℕ). c * 2 ^ l + a < x) (sym (pow-add 2 k l) ∙ ap (λ (x : ℕ). 2 ^ x) (add_comm k l)) (digits_lt rest.fits fit)

      from_rest : (t : ℕ) → walk v (l + t) i (c * 2 ^ l + a) ≡ walk v t i c
      from_rest t = walk_high v l a c fit t i ∙ ap (λ (s : ℕ). walk v t s c) m.arrives

      joint_above : (t : ℕ) → t ≤ l + k → i ≤ walk v t i (c * 2 ^ l + a)
      joint_above t h = elim (dec_le t l) [
        | yes g ↦ subst (λ (x : ℕ). i ≤ x) (sym (walk_low v l a c t i g)) (meets_above l a t m g)
        | no g ↦
            let place : t ≡ l + (t - l) = omega arith in
            subst (λ (x : ℕ). i ≤ x) (sym (ap (λ (x : ℕ). walk v x i (c * 2 ^ l + a)) place ∙ from_rest (t - l))) (rest.above (t - l) (omega arith))
      ]

      pub loop-join : Loop v i (l + k) (c * 2 ^ l + a)
      loop-join = record { fits = joint_fits; closes = from_rest k ∙ rest.closes; above = joint_above }

    pub joint_meets : Meets v i l i a → Meets v i l i (c * 2 ^ l + a)
    joint_meets = meets_cong v i l i a (c * 2 ^ l + a) (λ j h. sym (bit_low j l c a h))

  -- what is left of a loop after a return to i
  pub loop-rest : (l k c : ℕ) → Loop v i (l + k) c → walk v l i c ≡ i → Loop v i k (c / 2 ^ l)
  loop-rest l k c loop back =
      let early : (t : ℕ) → walk v t i (c / 2 ^ l) ≡ walk v (l + t) i c =
      λ t. sym (walk-cut v l t i c ∙ ap (λ (s : ℕ). walk v t s (c / 2 ^ l)) back) in
      record {
        fits = shr_lt k l (subst (λ (x : ℕ). c < 2 ^ x) (add_comm l k) loop.fits);
        closes = early k ∙ loop.closes;
        above = λ t h. subst (λ (x : ℕ). i ≤ x) (sym (early t)) (loop.above (l + t) (omega arith));
      }

  -- a loop begins with a first return
  pub loop-first : (k c : ℕ) → 1 ≤ k → Loop v i k c → (l : ℕ) × (l ≤ k) × Meets v i l i c
  loop-first k c some loop =
      let hit = first_hit (λ t. walk v t i c) i k some loop.closes in
      let short = hit.within in
      let above : (t : ℕ) → 1 ≤ t → t < hit.at → i < walk v t i c =
      λ t g h. lt_of_le-ne (loop.above t (omega arith)) (λ e. hit.none_before t g h (sym e)) in
      (hit.at, short, record { some_step = hit.positive; arrives = hit.hits; above = above })
