-- The places carried on: each is the highest of the places before it. And the least weights filled in: each is at most a first event and the rest.
-- Assumes nothing.
use Prim.Native.Nat.{ℕ, zero, suc, ◌+◌, ◌-◌, ◌≤◌, ◌<◌, min, max}
use native.Mathlib.Nat.{add-zero}
use native.Mathlib.Decide.{ℕ_discrete}
use native.Mathlib.Omega.{arith}
use mathlib.Core.Path.{◌≡◌, refl, sym, ap, ◌∙◌, subst}
use mathlib.Core.Logic.{◌⊎◌, inl, inr, ⊎_elim, ◌≢◌}
use mathlib.Core.List.{List}
use lib.ListN.{length, get_or, set, length-set}
use lib.Seq.{get_or-set_other, get_or-set_same}
use Rattle.code.specs.Model.Steps.{most_steps}
use Rattle.bounds.specs.Model.Places.{area_size, least_place, fill_place}
use Rattle.bounds.specs.Model.Tables.{least_at, fill_at, bits_at, carried, least_sum, filled_from, filled}
use Rattle.bounds.proofs.Regions.{kept_below}
use Rattle.bounds.proofs.Kept.{carried_keeps, filled_from_keeps}

-- the highest of `from` and the j numbers from place `ends` on
unfoldable pub highest : List ℕ → ℕ → ℕ → ℕ → ℕ
highest work ends from zero = from
highest work ends from (suc j) = highest work (ends + 1) (max from (get_or work ends 0)) j

highest_cong : (a b : List ℕ) (ends from j : ℕ) → ((i : ℕ) → ends ≤ i → i < ends + j → get_or a i 0 ≡ get_or b i 0)
    → highest a ends from j ≡ highest b ends from j
unfolding highest
highest_cong a b ends from zero same = refl
highest_cong a b ends from (suc j) same =
    ap (λ (x : ℕ). highest a (ends + 1) (max from x) j) (same ends (omega arith) (omega arith))
    ∙ highest_cong a b (ends + 1) (max from (get_or b ends 0)) j (λ i h g. same i (omega arith) (omega arith))

pub carried_at : (ends starts n from : ℕ) (work : List ℕ) (j : ℕ) → j ≤ n → starts + n < length work
    → (starts + n < ends) ⊎ (ends + n ≤ starts)
    → get_or (carried ends starts n from work) (starts + j) 0 ≡ highest work ends from j
unfolding carried highest
carried_at ends starts zero from work zero h room apart = rw add-zero (get_or-set_same work starts from 0 (omega arith))
carried_at ends starts zero from work (suc j) h room apart = absurd (omega arith)
carried_at ends starts (suc n) from work zero h room apart =
    rw add-zero (kept_below (carried_keeps (ends + 1) (starts + 1) n _ _) starts (omega arith)
    ∙ get_or-set_same work starts from 0 (omega arith))
carried_at ends starts (suc n) from work (suc j) h room apart =
    let size : length (set work starts from) ≡ length work = length-set work starts from in
    let later : ℕ = max from (get_or work ends 0) in
    let one_more : starts + suc j ≡ starts + 1 + j = omega arith in
    let off : (i : ℕ) → ends + 1 ≤ i → i < ends + 1 + j → i ≢ starts = λ i p q e.
    ⊎_elim (λ (l : starts + suc n < ends). absurd (omega arith)) (λ (l : ends + suc n ≤ starts). absurd (omega arith)) apart in
    rw one_more (carried_at (ends + 1) (starts + 1) n later (set work starts from) j (omega arith) (omega arith)
    (⊎_elim (λ l. inl (omega arith)) (λ l. inr (omega arith)) apart)
    ∙ highest_cong (set work starts from) work (ends + 1) later j (λ i p q. get_or-set_other work starts i from 0 (off i p q)))

module _ (work : List ℕ) where
  pub highest_from : (ends from j : ℕ) → from ≤ highest work ends from j
  unfolding highest
  highest_from ends from zero = omega arith
  highest_from ends from (suc j) = let rest = highest_from (ends + 1) (max from (get_or work ends 0)) j in omega arith

  pub highest_rises : (ends from j j' : ℕ) → j ≤ j' → highest work ends from j ≤ highest work ends from j'
  unfolding highest
  highest_rises ends from zero j' h = highest_from ends from j'
  highest_rises ends from (suc j) zero h = absurd (omega arith)
  highest_rises ends from (suc j) (suc j') h = highest_rises (ends + 1) (max from (get_or work ends 0)) j j' (omega arith)

  pub highest_above : (ends from j i : ℕ) → i < j → get_or work (ends + i) 0 ≤ highest work ends from j
  unfolding highest
  highest_above ends from zero i h = absurd (omega arith)
  highest_above ends from (suc j) zero h =
      rw add-zero (let rest = highest_from (ends + 1) (max from (get_or work ends 0)) j in omega arith)
  highest_above ends from (suc j) (suc i) h =
      let one_more : ends + suc i ≡ ends + 1 + i = omega arith in
      rw one_more (highest_above (ends + 1) (max from (get_or work ends 0)) j i (omega arith))

  pub highest_most : (ends from j most : ℕ) → from ≤ most
      → ((i : ℕ) → i < j → get_or work (ends + i) 0 ≤ most) → highest work ends from j ≤ most
  unfolding highest
  highest_most ends from zero most h all = h
  highest_most ends from (suc j) most h all =
      let first : get_or work ends 0 ≤ most = rw add-zero at (all 0 (omega arith)) in
      let one_more : (i : ℕ) → ends + suc i ≡ ends + 1 + i = λ i. omega arith in
      highest_most (ends + 1) (max from (get_or work ends 0)) j most (omega arith)
      (λ i g. rw (one_more i) at (all (suc i) (omega arith)))

-- ---- the least weights of a number of steps

least_sum_each : (work : List ℕ) (k m l : ℕ) → 1 ≤ l → l ≤ m → least_sum work k m ≤ least_at work l + fill_at work (k - l)
unfolding least_sum
least_sum_each work k zero l h g = absurd (omega arith)
least_sum_each work k (suc m) l h g =
    elim (ℕ_discrete l (suc m)) [
      | yes is ↦
          let each : min (least_sum work k m) (least_at work (suc m) + fill_at work (k - suc m)) ≤ least_at work
          (suc m) + fill_at work (k - suc m) = omega arith in
          subst (λ (x : ℕ). min (least_sum work k m)
          (least_at work (suc m) + fill_at work (k - suc m)) ≤ least_at work x + fill_at work (k - x)) (sym is) each
      | no apart ↦ let rest = least_sum_each work k m l h (omega arith) in omega arith
    ]

filled_from_step : (n from : ℕ) (work : List ℕ) (k l : ℕ) → fill_place + (from + n) ≤ length work
    → from ≤ k → k < from + n → 1 ≤ l → l ≤ k
    → fill_at (filled_from n from work) k ≤ least_at (filled_from n from work) l + fill_at (filled_from n from work) (k - l)
unfolding filled_from
filled_from_step zero from work k l room h g p q = absurd (omega arith)
filled_from_step (suc n) from work k l room h g p q =
    let w : ℕ = least_sum work from from in
    let next : List ℕ = set work (fill_place + from) w in
    let final : List ℕ = filled_from n (from + 1) next in
    let size : length next ≡ length work = length-set work (fill_place + from) w in
    let later = filled_from_keeps n (from + 1) next in
    let kept : (i : ℕ) → i < fill_place + from → get_or final i 0 ≡ get_or work i 0 =
    λ i b. kept_below later i (omega arith) ∙ get_or-set_other work (fill_place + from) i w 0 (λ e. absurd (omega arith)) in
    elim (ℕ_discrete k from) [
      | yes is ↦
          let here : fill_at final from ≡ w = kept_below later (fill_place + from) (omega arith)
          ∙ get_or-set_same work (fill_place + from) w 0 (omega arith) in
          let each = least_sum_each work from from l p (omega arith) in
          let a = kept (least_place + l) (omega arith) in
          let b = kept (fill_place + (from - l)) (omega arith) in
          let both : fill_at final from ≤ least_at final l + fill_at final (from - l) = omega arith in
          subst (λ (x : ℕ). fill_at final x ≤ least_at final l + fill_at final (x - l)) (sym is) both
      | no apart ↦ filled_from_step n (from + 1) next k l (omega arith) (omega arith) (omega arith) p q
    ]

pub filled_zero : (work : List ℕ) → area_size ≤ length work → fill_at (filled work) 0 ≡ 0
unfolding filled
filled_zero work room =
    kept_below (filled_from_keeps (bits_at work) 1 _) fill_place (omega arith) ∙ get_or-set_same work fill_place 0 0 (omega arith)

pub filled_step : (work : List ℕ) (k l : ℕ) → area_size ≤ length work → bits_at work ≤ most_steps → 1 ≤ l → l ≤ k → k ≤ bits_at work
    → fill_at (filled work) k ≤ least_at (filled work) l + fill_at (filled work) (k - l)
unfolding filled
filled_step work k l room bits p q h =
    let size = length-set work fill_place 0 in
    filled_from_step (bits_at work) 1 (set work fill_place 0) k l (omega arith) (omega arith) (omega arith) p q
