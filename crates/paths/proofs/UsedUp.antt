-- Where the events begin with the zero loop, and every other weighs something: once the weight is used up, the steps left are zero loops, so the chain is
-- whole as it stands (`used_up`); and a weight left that is below that of every other event is never used up (`too_light`).
-- Assumes nothing.
use Prim.Native.Nat.{ℕ, zero, suc, ◌+◌, ◌-◌, ◌*◌, ◌^◌, ◌≤◌, ◌<◌}
use native.Mathlib.Nat.{add-zero, zero-mul}
use native.Mathlib.Omega.{arith}
use mathlib.Core.Path.{◌≡◌, refl, sym, ap, ap₂, ◌∙◌, subst}
use mathlib.Core.Bool.{cond}
use mathlib.Core.Logic.{◌⊎◌, inl, inr, ⊎_elim}
use mathlib.Core.List.Memᴰ
use mathlib.Core.List.{List, [], ◌∷◌, ◌++◌, flat_map, append-nil, Memᴰ}
use lib.Dec.{T, leb, eqb, leb→le, le→leb, not_T}
use Rattle.lists.proofs.Sorted.{Within}
use Rattle.lists.proofs.Tests.{T_and}
use Rattle.lists.proofs.Blocks.{flat_map_cong_on}
use Rattle.lists.proofs.Choices.{eqb_passes, eqb_fails, cond_true, cond_false}
use Rattle.events.specs.Events.{ErrorEvent}
use Rattle.paths.specs.Chains.{cost}
use Rattle.paths.specs.Model.Joining.{turns, first_or, fits_in, joining, joined}
use Rattle.paths.proofs.Joined.{first_or_again}
use Rattle.paths.proofs.Pruned.{joined_none}

-- the zero loop, and others that weigh at least `light`
pub record Calm (light : ℕ) (es : List ErrorEvent) : Type 0 where
  pub loop : ErrorEvent
  pub others : List ErrorEvent
  pub are : es ≡ loop ∷ others
  pub one_step : loop.length ≡ 1
  pub no_weight : loop.weight ≡ 0
  pub no_input : loop.input ≡ 0
  pub weighs : (e : ErrorEvent) → Memᴰ e others → light ≤ e.weight

none_of : {A B : Type 0} (xs : List A) → flat_map {B = B} (λ _. []) xs ≡ []
unfolding flat_map
none_of [] = refl
none_of (x ∷ xs) = none_of xs

-- blocks of which all but the first are empty
first_only : {A B : Type 0} (f : A → List B) (x : A) (xs : List A) → ((y : A) → Memᴰ y xs → f y ≡ []) → flat_map f (x ∷ xs) ≡ f x
unfolding flat_map
first_only f x xs h = ap (λ l. f x ++ l) (flat_map_cong_on f (λ _. []) xs h ∙ none_of xs) ∙ append-nil (f x)

one_less : (x : ℕ) → suc (suc x) - 1 ≡ suc x
one_less x = omega arith

module _ (N : ℕ) (es : List ErrorEvent) (light : ℕ) (some-light : 1 ≤ light) (calm : Calm light es) where
  -- nothing that weighs is joined where no weight is left
  heavy_none : (more : ℕ → ℕ → ℕ → ℕ → List ℕ) (left acc first : ℕ) (e : ErrorEvent) → light ≤ e.weight → joining N more left acc first 0 e ≡ []
  unfolding joining fits_in
  heavy_none more left acc first e h =
      cond_false (fits_in left 0 e) _ [] (not_T (fits_in left 0 e) (λ t.
      let g = leb→le e.weight 0 ((T_and (leb e.length left) (leb e.weight 0)).0 t).1 in omega arith))

  -- one zero loop more
  module _ (more : ℕ → ℕ → ℕ → ℕ → List ℕ) (left acc first : ℕ) (some : 1 ≤ left) where
    abbrev e : ErrorEvent
    e = calm.loop

    loop-fits : T (fits_in left 0 e)
    unfolding fits_in
    loop-fits =
        let l = calm.one_step in
        let w = calm.no_weight in
        (T_and (leb e.length left) (leb e.weight 0)).1 (le→leb e.length left (omega arith), le→leb e.weight 0 (omega arith))

    number_same : acc + e.input * 2 ^ (N - left) ≡ acc
    number_same =
        ap (λ (x : ℕ). acc + x * 2 ^ (N - left)) calm.no_input ∙ ap (λ (x : ℕ). acc + x) (zero-mul (2 ^ (N - left))) ∙ add-zero acc

    loop-last : left ≡ 1 → joining N more left acc first 0 e ≡ turns N (first_or first 1) acc
    unfolding joining
    loop-last z =
        let rest : List ℕ = more (left - e.length) (acc + e.input * 2 ^ (N - left)) (first_or first e.length) (0 - e.weight) in
        let end : List ℕ = turns N (first_or first e.length) (acc + e.input * 2 ^ (N - left)) in
        cond_true (fits_in left 0 e) (cond (eqb e.length left) (cond (eqb e.weight 0) end []) rest) [] loop-fits
        ∙ cond_true (eqb e.length left) (cond (eqb e.weight 0) end []) rest (eqb_passes e.length left (calm.one_step ∙ sym z))
        ∙ cond_true (eqb e.weight 0) end [] (eqb_passes e.weight 0 calm.no_weight)
        ∙ ap₂ (turns N) (ap (first_or first) calm.one_step) number_same

    loop-more : 1 < left → joining N more left acc first 0 e ≡ more (left - 1) acc (first_or first 1) 0
    unfolding joining
    loop-more z =
        let l = calm.one_step in
        let rest : List ℕ = more (left - e.length) (acc + e.input * 2 ^ (N - left)) (first_or first e.length) (0 - e.weight) in
        let end : List ℕ = turns N (first_or first e.length) (acc + e.input * 2 ^ (N - left)) in
        let none : 0 - e.weight ≡ 0 = omega arith in
        cond_true (fits_in left 0 e) (cond (eqb e.length left) (cond (eqb e.weight 0) end []) rest) [] loop-fits
        ∙ cond_false (eqb e.length left) (cond (eqb e.weight 0) end []) rest (eqb_fails e.length left (λ q. absurd (omega arith)))
        ∙ ap₂ (λ (x y : ℕ). more (left - x) (acc + e.input * 2 ^ (N - left)) (first_or first x) y) calm.one_step none
        ∙ ap (λ (x : ℕ). more (left - 1) x (first_or first 1) 0) number_same

  only_loop : (fuel left acc first : ℕ) → joined (suc fuel) es N left acc first 0 ≡ joining N (joined fuel es N) left acc first 0 calm.loop
  unfolding joined
  only_loop fuel left acc first =
      ap (flat_map (joining N (joined fuel es N) left acc first 0)) calm.are
      ∙ first_only (joining N (joined fuel es N) left acc first 0) calm.loop calm.others
      (λ e m. heavy_none (joined fuel es N) left acc first e (calm.weighs e m))

  -- the weight is used up: what was joined so far is a whole chain, and the only one
  pub used_up : (fuel left acc first : ℕ) → 1 ≤ left → left ≤ fuel → joined fuel es N left acc first 0 ≡ turns N (first_or first 1) acc
  used_up fuel zero acc first some h = absurd (omega arith)
  used_up zero (suc left) acc first some h = absurd (omega arith)
  used_up (suc fuel) (suc zero) acc first some h = only_loop fuel 1 acc first ∙ loop-last (joined fuel es N) 1 acc first some refl
  used_up (suc fuel) (suc (suc left)) acc first some h =
      only_loop fuel (suc (suc left)) acc first ∙ loop-more (joined fuel es N) (suc (suc left)) acc first some (omega arith)
      ∙ ap (λ (x : ℕ). joined fuel es N x acc (first_or first 1) 0) (one_less left)
      ∙ used_up fuel (suc left) acc (first_or first 1) (omega arith) (omega arith)
      ∙ ap (λ (x : ℕ). turns N x acc) (first_or_again first 1 1 (omega arith))

  -- ---- weights that no chain has

  either : (e : ErrorEvent) → Memᴰ e es → (e.weight ≡ 0) ⊎ (light ≤ e.weight)
  either e m =
      ⊎_elim (λ (p : e ≡ calm.loop). inl (ap (λ (x : ErrorEvent). x.weight) p ∙ calm.no_weight)) (λ n. inr (calm.weighs e n))
      (Memᴰ.cases_cons (subst (Memᴰ e) calm.are m))

  pub cost_either : (c : List ErrorEvent) → Within c es → (cost c ≡ 0) ⊎ (light ≤ cost c)
  unfolding cost
  cost_either [] w = inl refl
  cost_either (e ∷ c) w =
      ⊎_elim (λ z. ⊎_elim (λ y. inl (omega arith)) (λ y. inr (omega arith)) (cost_either c (λ x m. w x (Memᴰ.tail m)))) (λ y. inr (omega arith))
      (either e (w e (Memᴰ.head refl)))

  pub too_light : ((e : ErrorEvent) → Memᴰ e es → 1 ≤ e.length) → (fuel left acc first budget : ℕ) → left ≤ N → 1 ≤ budget → budget < light
      → joined fuel es N left acc first budget ≡ []
  too_light some_step fuel left acc first budget h some few =
      joined_none N es some_step fuel left acc first budget h (λ c f.
      let w = f.cost_is in
      ⊎_elim (λ z. absurd (omega arith)) (λ y. absurd (omega arith)) (cost_either c f.from))
