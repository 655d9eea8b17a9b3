-- The work area is ready for a code and a threshold, and filled for a state: what follows for the walk backwards. Every least weight is at most what
-- a way to its state weighs (`least_bound`), so the cut loses no event and lets nothing else through (`ready_cuts`).
-- Assumes nothing.
use Prim.Native.Nat.{ℕ, zero, suc, ◌+◌, ◌-◌, ◌*◌, ◌/◌, ◌%◌, ◌^◌, ◌≤◌, ◌<◌, min}
use native.Mathlib.Decide.{ℕ_discrete, dec_le}
use native.Mathlib.Omega.{arith}
use mathlib.Core.Path.{◌≡◌, refl, sym, ap, ap₂, ◌∙◌, subst}
use mathlib.Core.Logic.{inl, inr, ⊎_elim}
use mathlib.Core.Bool.{Bool, ◌||◌}
use mathlib.Core.List.{List}
use lib.Dec.{T, ltb, eqb, ltb→lt, lt→ltb, eqb→eq, eqb_refl}
use lib.Pow.{pow_mono}
use lib.ListN.{length, get_or}
use Rattle.lists.proofs.Tests.{T_or}
use Rattle.code.specs.Trellis.{next, step_weight, walk, walk_weight}
use Rattle.code.proofs.States.{next_lt}
use Rattle.code.proofs.Walks.{walk_last}
use Rattle.code.proofs.Weights.{step_few}
use Rattle.poly.specs.Poly.{bit}
use Rattle.poly.proofs.Sum.{half_push, mod2_push}
use Rattle.needed.specs.Model.Tables.{step_count, steps_place, tables_end, need, step_at, threshold_at, half_at, through, least_to, Tables}
use Rattle.needed.proofs.Filling.{least_off_start, least_at_start, least_below, least_above}
use Rattle.collection.proofs.Halving.{twice_half, before_is}
use Rattle.collection.proofs.Ways.{Way, way_less, weight_more}
use Rattle.needed.proofs.Rows.{Filled}
use Rattle.collection.proofs.Back.{Cuts}

pub record Ready (gs : List ℕ) (v d : ℕ) (work : List ℕ) : Type 0 where
  pub enough : tables_end ≤ length work
  pub steps : (x : ℕ) → x < step_count → get_or work (steps_place + x) 0 ≡ step_weight gs (x / 2) (x % 2)
  pub threshold_is : threshold_at work ≡ d
  pub half_is : half_at work ≡ 2 ^ (v - 1)

-- ---- sums stay small

pub half_at_most : (v : ℕ) → v ≤ 8 → 2 ^ (v - 1) ≤ 128
half_at_most v h = let few : v - 1 ≤ 7 = omega arith in pow_mono few

pub ready_tables : (gs : List ℕ) (v d : ℕ) (work : List ℕ) → length gs ≤ 4 → v ≤ 8 → Ready gs v d work → Tables work
ready_tables gs v d work hg hv r =
    let half = half_at_most v hv in
    let is = r.half_is in
    record {
      enough = r.enough;
      half_small = omega arith;
      steps_small = λ x h. let e = r.steps x h in let le = step_few gs (x / 2) (x % 2) in omega arith;
    }

module _ (gs : List ℕ) (v d : ℕ) (work : List ℕ) (ready : Ready gs v d work) where
  pub step_is : (p b : ℕ) → p < 256 → b < 2 → step_at work p b ≡ step_weight gs p b
  step_is p b hp hb =
      ap (λ (k : ℕ). get_or work k 0) place ∙ ready.steps (2 * p + b) (omega arith) ∙ ap₂ (step_weight gs) (half_push p b hb) (mod2_push p b hb)
    where
      place : steps_place + 2 * p + b ≡ steps_place + (2 * p + b)
      place = omega arith

  module _ (i words rows l : ℕ) (filled : Filled i words rows work) (pos : 1 ≤ v) (most : v ≤ 8) (covers : 2 ^ v ≤ 8 * words) (hi : i < 2 ^ v) (short : l ≤ rows) where
    pub states_few : 2 ^ v ≤ 256
    states_few = pow_mono most

    on_way : (t c : ℕ) → walk v t i c < 2 ^ v
    unfolding walk
    on_way zero c = hi
    on_way (suc t) c = subst (λ (x : ℕ). x < 2 ^ v) (sym (walk_last v t i c)) (next_lt v (walk v t i c) (bit t c))

    -- a lesser number of two
    through_one : (t s p b : ℕ) → s < 2 ^ v → p < 2 ^ v → b < 2 → s ≡ next v p b
        → min 64 (min (through work t (s / 2) (s % 2)) (through work t (s / 2 + half_at work) (s % 2))) ≤ through work t p b
    unfolding next
    through_one t s p b hs hp hb e =
        let half = ready.half_is in
        ⊎_elim
        (λ h. let same : through work t p b ≡ through work t (s / 2) (s % 2) = ap₂ (through work t) h.0 h.1 in omega arith)
        (λ h. let same : through work t p b ≡ through work t (s / 2 + half_at work) (s % 2) = ap₂ (through work t) (h.0 ∙ ap (λ (x : ℕ). s / 2 + x) (sym half)) h.1 in omega arith)
        (before_is (2 ^ v) (2 ^ (v - 1)) (twice_half v pos) p b s hp hb e)

    through_is : (t p b : ℕ) → p < 2 ^ v → b < 2 → through work t p b ≡ need work t p + step_weight gs p b
    unfolding through
    through_is t p b hp hb = let few = states_few in ap (λ (x : ℕ). need work t p + x) (step_is p b (omega arith) hb)

    -- a least weight is at most what any such way weighs
    pub least_bound : (t s low : ℕ) → t < l → Way v i l t s low → need work t s ≤ walk_weight gs v t i low
    unfolding walk
    least_bound zero s low ht way =
        let here : s ≡ i = sym way.arrives in
        let filled-here = filled 0 s (omega arith) (omega arith) in
        let none = least_at_start work i 0 s refl here in
        omega arith
    least_bound (suc t) s low ht way =
        let cut = way_less v i l t s low way in
        let r : ℕ = cut.rest in
        let b : ℕ = cut.bit in
        let p : ℕ = walk v t i r in
        let hp : p < 2 ^ v = on_way t r in
        let hs : s < 2 ^ v = subst (λ (x : ℕ). x < 2 ^ v) way.arrives (on_way (suc t) low) in
        let over : i < s = subst (λ (x : ℕ). i < x) way.arrives (way.above (suc t) (omega arith) (omega arith) ht) in
        let before : need work t p ≤ walk_weight gs v t i r = least_bound t p r (omega arith) cut.way in
        let weighs : walk_weight gs v (suc t) i low ≡ walk_weight gs v t i r + step_weight gs p b =
        ap (walk_weight gs v (suc t) i) cut.is ∙ weight_more v i l t r b cut.bit_lt cut.way.fits gs in
        let here : need work (suc t) s ≡ least_to work i (suc t) s = filled (suc t) s (omega arith) (omega arith) in
        let found = least_above work i (suc t) s (λ e. absurd (omega arith)) over in
        let less = through_one (suc t - 1) s p b hs hp cut.bit_lt cut.last in
        let is : through work (suc t - 1) p b ≡ need work t p + step_weight gs p b = ap (λ (x : ℕ). through work x p b) (one_less t) ∙ through_is t p b hp cut.bit_lt in
        omega arith
      where
        one_less : (x : ℕ) → suc x - 1 ≡ x
        one_less x = omega arith

    -- the test of a node
    abbrev pub go : ℕ → ℕ → ℕ → Bool
    go t s w = eqb t l || ltb (w + need work t s) d

    inner : (t s w : ℕ) → t < l → T (go t s w) → w + need work t s < d
    inner t s w h g = ⊎_elim (λ e. let same = eqb→eq t l e in absurd (omega arith)) (λ k. ltb→lt (w + need work t s) d k) ((T_or (eqb t l) (ltb (w + need work t s) d)).0 g)

    pub ready_cuts : 1 ≤ l → d ≤ 64 → Cuts gs v i l go d
    ready_cuts hl hd = record {
      root = λ s w. (T_or (eqb l l) (ltb (w + need work l s) d)).1 (inl (eqb_refl l));
      ends = λ s w hs g.
          let light = inner 0 s w (omega arith) g in
          let here = filled 0 s (omega arith) (omega arith) in
          elim (ℕ_discrete s i) [
            | yes e ↦ (e, omega arith)
            | no n ↦ let far = least_off_start work i 0 s refl n in absurd (omega arith)
          ];
      stays = λ t s w hs pos' ht g.
          let light = inner t s w ht g in
          let here = filled t s (omega arith) (omega arith) in
          elim (dec_le s i) [
            | yes h ↦ let far = least_below work i t s (λ e. absurd (omega arith)) h in absurd (omega arith)
            | no h ↦ omega arith
          ];
      keeps = λ t s w low ht way light.
          let bound = least_bound t s low ht way in
          (T_or (eqb t l) (ltb (w + need work t s) d)).1 (inr (lt→ltb (w + need work t s) d (omega arith)));
    }
