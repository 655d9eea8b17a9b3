-- The recursion of `specs/Model/Joining.antt` emits, chain by chain, the rotations of the chains that `Chains.antt` lists (`joined_is_chains`).
-- Assumes nothing.
use Prim.Native.Nat.{ℕ, zero, suc, ◌+◌, ◌-◌, ◌*◌, ◌^◌, ◌≤◌}
use native.Mathlib.Nat.{zero-add, zero-mul, mul_assoc, add-mul}
use native.Mathlib.Omega.{arith}
use mathlib.Core.Path.{◌≡◌, refl, sym, ap, ap₂, ◌∙◌}
use mathlib.Core.Bool.{cond}
use mathlib.Core.List.{List, [], ◌∷◌, map, flat_map, Memᴰ}
use lib.Dec.{eqb}
use lib.Pow.{pow-add}
use Rattle.lists.proofs.Blocks.{flat_map_one, flat_map_none, flat_map_cong_on, flat_map_flat_map, flat_map_map}
use Rattle.lists.proofs.Choices.{cond_cong_on, flat_map_cond}
use Rattle.events.specs.Events.{ErrorEvent}
use Rattle.paths.specs.Chains.{input_number, first_length}
use Rattle.paths.specs.Model.Joining.{turns, first_or, fits_in, joining, joined}
use Rattle.paths.proofs.Chains.{chaining, chains, fits_parts}

-- what the recursion emits for a chain c of the `left` last steps, where it had joined `acc` before
unfoldable pub emit : ℕ → ℕ → ℕ → ℕ → List ErrorEvent → List ℕ
emit N left acc first c = turns N (first_or first (first_length c)) (acc + input_number c * 2 ^ (N - left))

-- the first event's length stays
pub first_or_again : (first l x : ℕ) → 1 ≤ l → first_or (first_or first l) x ≡ first_or first l
unfolding first_or
first_or_again zero zero x h = absurd (omega arith)
first_or_again zero (suc l) x h = refl
first_or_again (suc first) l x h = refl

-- the number of a longer chain: a before the inputs n, after acc
joint_number : (N left l acc a n : ℕ) → l ≤ left → left ≤ N → acc + a * 2 ^ (N - left) + n * 2 ^ (N - (left - l)) ≡ acc + (n * 2 ^ l + a) * 2 ^ (N - left)
joint_number N left l acc a n h g =
    let place : N - (left - l) ≡ l + (N - left) = omega arith in
    let moved : n * 2 ^ (N - (left - l)) ≡ n * 2 ^ l * 2 ^ (N - left) =
    ap (λ (x : ℕ). n * 2 ^ x) place ∙ ap (λ (x : ℕ). n * x) (pow-add 2 l (N - left)) ∙ sym (mul_assoc n (2 ^ l) (2 ^ (N - left))) in
    let both : (n * 2 ^ l + a) * 2 ^ (N - left) ≡ n * 2 ^ l * 2 ^ (N - left) + a * 2 ^ (N - left) = add-mul (n * 2 ^ l) a (2 ^ (N - left)) in
    omega arith

module _ (N : ℕ) where
  -- what is found with one event more hangs on what is found after it
  pub joining_more : (more more' : ℕ → ℕ → ℕ → ℕ → List ℕ) (left acc first budget : ℕ) (e : ErrorEvent)
      → more (left - e.length) (acc + e.input * 2 ^ (N - left)) (first_or first e.length) (budget - e.weight)
      ≡ more' (left - e.length) (acc + e.input * 2 ^ (N - left)) (first_or first e.length) (budget - e.weight)
      → joining N more left acc first budget e ≡ joining N more' left acc first budget e
  unfolding joining
  joining_more more more' left acc first budget e same =
      let c : ℕ = acc + e.input * 2 ^ (N - left) in
      let f : ℕ = first_or first e.length in
      ap (λ (rest : List ℕ). cond (fits_in left budget e)
      (cond (eqb e.length left) (cond (eqb e.weight budget) (turns N f c) []) rest) []) same

  emit_one : (left acc first : ℕ) (e : ErrorEvent) → turns N (first_or first e.length) (acc + e.input * 2 ^ (N - left)) ≡ emit N left acc first (e ∷ [])
  unfolding emit input_number first_length
  emit_one left acc first e =
      ap (λ (x : ℕ). turns N (first_or first e.length) (acc + x * 2 ^ (N - left)))
      (sym (ap (λ (x : ℕ). x + e.input) (zero-mul (2 ^ e.length)) ∙ zero-add e.input))

  emit_more : (left acc first : ℕ) (e : ErrorEvent) (c : List ErrorEvent) → 1 ≤ e.length → e.length ≤ left → left ≤ N
      → emit N (left - e.length) (acc + e.input * 2 ^ (N - left)) (first_or first e.length) c ≡ emit N left acc first (e ∷ c)
  unfolding emit input_number first_length
  emit_more left acc first e c h g k =
      ap₂ (turns N) (first_or_again first e.length (first_length c) h) (joint_number N left e.length acc e.input (input_number c) g k)

  module _ (more : ℕ → ℕ → ℕ → ℕ → List ℕ) (lists : ℕ → ℕ → List (List ErrorEvent))
      (same : (left acc first budget : ℕ) → left ≤ N → more left acc first budget ≡ flat_map (emit N left acc first) (lists left budget))
      (left acc first budget : ℕ) (e : ErrorEvent) (some : 1 ≤ e.length) (inside : left ≤ N) where
    -- the number joined so far, with e
    abbrev acc' : ℕ
    acc' = acc + e.input * 2 ^ (N - left)

    abbrev first' : ℕ
    first' = first_or first e.length

    abbrev emitted : List ErrorEvent → List ℕ
    emitted = emit N left acc first

    -- e alone, and e before a chain of what is left
    abbrev alone : List (List ErrorEvent)
    alone = cond (eqb e.weight budget) ((e ∷ []) ∷ []) []

    abbrev longer : List (List ErrorEvent)
    longer = map (λ c. e ∷ c) (lists (left - e.length) (budget - e.weight))

    emits_alone : cond (eqb e.weight budget) (turns N first' acc') [] ≡ flat_map emitted alone
    emits_alone =
        cond_cong_on (eqb e.weight budget) (turns N first' acc') (flat_map emitted ((e ∷ []) ∷ [])) [] (flat_map emitted [])
        (λ _. emit_one left acc first e ∙ sym (flat_map_one emitted (e ∷ []))) (λ _. sym (flat_map_none emitted))
        ∙ sym (flat_map_cond emitted (eqb e.weight budget) ((e ∷ []) ∷ []) [])

    emits_longer : e.length ≤ left → more (left - e.length) acc' first' (budget - e.weight) ≡ flat_map emitted longer
    emits_longer short =
        let rest : List (List ErrorEvent) = lists (left - e.length) (budget - e.weight) in
        same (left - e.length) acc' first' (budget - e.weight) (omega arith)
        ∙ flat_map_cong_on (emit N (left - e.length) acc' first') (λ c. emitted (e ∷ c)) rest (λ c _. emit_more left acc first e c some short inside)
        ∙ sym (flat_map_map emitted (λ c. e ∷ c) rest)

    emits_either : e.length ≤ left
        → cond (eqb e.length left) (cond (eqb e.weight budget) (turns N first' acc') []) (more (left - e.length) acc' first' (budget - e.weight))
        ≡ flat_map emitted (cond (eqb e.length left) alone longer)
    emits_either short =
        cond_cong_on (eqb e.length left) (cond (eqb e.weight budget) (turns N first' acc') []) (flat_map emitted alone)
        (more (left - e.length) acc' first' (budget - e.weight)) (flat_map emitted longer) (λ _. emits_alone) (λ _. emits_longer short)
        ∙ sym (flat_map_cond emitted (eqb e.length left) alone longer)

    pub joining_is_chaining : joining N more left acc first budget e ≡ flat_map (emit N left acc first) (chaining lists left budget e)
    unfolding joining chaining
    joining_is_chaining =
        cond_cong_on (fits_in left budget e)
        (cond (eqb e.length left) (cond (eqb e.weight budget) (turns N first' acc') []) (more (left - e.length) acc' first' (budget - e.weight)))
        (flat_map emitted (cond (eqb e.length left) alone longer)) [] (flat_map emitted [])
        (λ t. emits_either (fits_parts left budget e t).0) (λ _. sym (flat_map_none emitted))
        ∙ sym (flat_map_cond emitted (fits_in left budget e) (cond (eqb e.length left) alone longer) [])

  pub joined_is_chains : (es : List ErrorEvent) → ((e : ErrorEvent) → Memᴰ e es → 1 ≤ e.length)
      → (fuel left acc first budget : ℕ) → left ≤ N → joined fuel es N left acc first budget ≡ flat_map (emit N left acc first) (chains fuel es left budget)
  unfolding joined chains
  joined_is_chains es some zero left acc first budget h = sym (flat_map_none (emit N left acc first))
  joined_is_chains es some (suc fuel) left acc first budget h =
      flat_map_cong_on (joining N (joined fuel es N) left acc first budget) (λ e. flat_map (emit N left acc first) (chaining (chains fuel es) left budget e)) es
      (λ e m. joining_is_chaining (joined fuel es N) (chains fuel es) (joined_is_chains es some fuel) left acc first budget e (some e m) h)
      ∙ sym (flat_map_flat_map (emit N left acc first) (chaining (chains fuel es) left budget) es)
