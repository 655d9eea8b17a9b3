-- The chains that the recursion of `specs/Model/Joining.antt` meets, as a list: its members are the lists of events that fill the steps left and the
-- weight left (`of_chains`, `in_chains`), and none stands twice (`chains_distinct`).
-- Assumes nothing.
use Prim.Native.Nat.{ℕ, zero, suc, ◌-◌, ◌≤◌, ◌<◌}
use native.Mathlib.Omega.{arith}
use mathlib.Core.Path.{◌≡◌, refl, sym, ◌∙◌, subst}
use mathlib.Core.Bool.{cond}
use mathlib.Core.Logic.{◌≢◌, ⊎_elim}
use mathlib.Core.List.Memᴰ
use mathlib.Core.List.{List, [], ◌∷◌, map, flat_map, head-eq_of_cons-eq, tail-eq_of_cons-eq, Memᴰ}
use lib.Dec.{T, leb, eqb, leb→le, le→leb, eqb→eq}
use Rattle.lists.proofs.Tests.{T_and}
use Rattle.lists.proofs.Member.{of_flat_map, in_flat_map}
use Rattle.lists.proofs.Sorted.{Within, map-sorted}
use Rattle.lists.proofs.Blocks.{flat_map_sorted-on}
use Rattle.lists.proofs.Distinct.{Distinct}
use Rattle.lists.proofs.Choices.{eqb_passes, eqb_fails, mem_choice, of_guarded, in_first, in_second, guarded_sorted, choice-sorted}
use Rattle.events.specs.Events.{ErrorEvent}
use Rattle.paths.specs.Chains.{steps, cost}
use Rattle.paths.specs.Model.Joining.{fits_in}

-- ---- the list

-- the chains that begin with e: e alone if it fills what is left, or else e before what `more` makes of what is left then
unfoldable pub chaining : (ℕ → ℕ → List (List ErrorEvent)) → ℕ → ℕ → ErrorEvent → List (List ErrorEvent)
chaining more left budget e =
    cond (fits_in left budget e)
    (cond (eqb e.length left) (cond (eqb e.weight budget) ((e ∷ []) ∷ []) []) (map (λ c. e ∷ c) (more (left - e.length) (budget - e.weight)))) []

unfoldable pub chains : ℕ → List ErrorEvent → ℕ → ℕ → List (List ErrorEvent)
chains zero es left budget = []
chains (suc fuel) es left budget = flat_map (chaining (chains fuel es) left budget) es

-- c is made of events of es, and fills that many steps at that weight
pub record Fills (es : List ErrorEvent) (left budget : ℕ) (c : List ErrorEvent) : Type 0 where
  pub from : Within c es
  pub steps_are : steps c ≡ left
  pub cost_is : cost c ≡ budget

pub fits_parts : (left budget : ℕ) (e : ErrorEvent) → T (fits_in left budget e) → (e.length ≤ left) × (e.weight ≤ budget)
unfolding fits_in
fits_parts left budget e t =
    let h = (T_and (leb e.length left) (leb e.weight budget)).0 t in
    (leb→le e.length left h.0, leb→le e.weight budget h.1)

fits_of_parts : (left budget : ℕ) (e : ErrorEvent) → e.length ≤ left → e.weight ≤ budget → T (fits_in left budget e)
unfolding fits_in
fits_of_parts left budget e h g =
    (T_and (leb e.length left) (leb e.weight budget)).1 (le→leb e.length left h, le→leb e.weight budget g)

-- ---- the members

module _ (es : List ErrorEvent) where
  -- one event more in front
  fills_cons : (left budget : ℕ) (e : ErrorEvent) (c : List ErrorEvent) → Memᴰ e es → e.length ≤ left → e.weight ≤ budget
      → Fills es (left - e.length) (budget - e.weight) c → Fills es left budget (e ∷ c)
  unfolding steps cost
  fills_cons left budget e c m h g f =
      let s = f.steps_are in
      let w = f.cost_is in
      record {
        from = λ x n. ⊎_elim (λ p. subst (λ y. Memᴰ y es) (sym p) m) (f.from x) (Memᴰ.cases_cons n);
        steps_are = omega arith;
        cost_is = omega arith;
      }

  fills_nil : (left budget : ℕ) → left ≡ 0 → budget ≡ 0 → Fills es left budget []
  unfolding steps cost
  fills_nil left budget h g = record { from = λ x m. absurd (Memᴰ.not-nil m); steps_are = sym h; cost_is = sym g }

  module _ (more : ℕ → ℕ → List (List ErrorEvent)) (left budget : ℕ) (e : ErrorEvent) where
    of_chaining : ((l b : ℕ) (c : List ErrorEvent) → Memᴰ c (more l b) → Fills es l b c) → Memᴰ e es
        → {c : List ErrorEvent} → Memᴰ c (chaining more left budget e) → (rest : List ErrorEvent) × (c ≡ e ∷ rest) × Fills es left budget (e ∷ rest)
    unfolding chaining
    of_chaining sound m {c} n =
        let alone : List (List ErrorEvent) = cond (eqb e.weight budget) ((e ∷ []) ∷ []) [] in
        let longer : List (List ErrorEvent) = map (λ c. e ∷ c) (more (left - e.length) (budget - e.weight)) in
        let outer = of_guarded (fits_in left budget e) (cond (eqb e.length left) alone longer) n in
        let fit = fits_parts left budget e outer.0 in
        ⊎_elim (λ k. last fit.0 fit.1 k.0 k.1) (λ k. further fit.0 fit.1 k.1) (mem_choice (eqb e.length left) alone longer outer.1)
      where
        Begun : Type 0
        Begun = (rest : List ErrorEvent) × (c ≡ e ∷ rest) × Fills es left budget (e ∷ rest)

        last : e.length ≤ left → e.weight ≤ budget → T (eqb e.length left) → Memᴰ c (cond (eqb e.weight budget) ((e ∷ []) ∷ []) []) → Begun
        last h g t k =
            let whole = eqb→eq e.length left t in
            let inner = of_guarded (eqb e.weight budget) ((e ∷ []) ∷ []) k in
            let spent = eqb→eq e.weight budget inner.0 in (
              [],
              Memᴰ.eq_of_singleton inner.1,
              fills_cons left budget e [] m h g (fills_nil (left - e.length) (budget - e.weight) (omega arith) (omega arith)),
            )

        further : e.length ≤ left → e.weight ≤ budget → Memᴰ c (map (λ c. e ∷ c) (more (left - e.length) (budget - e.weight))) → Begun
        further h g k =
            let found = Memᴰ.of_map (λ c. e ∷ c) (more (left - e.length) (budget - e.weight)) k in
            (found.0, sym found.2, fills_cons left budget e found.0 m h g (sound (left - e.length) (budget - e.weight) found.0 found.1))

    -- e alone
    in_chaining_last : e.length ≡ left → e.weight ≡ budget → Memᴰ (e ∷ []) (chaining more left budget e)
    unfolding chaining
    in_chaining_last h g =
        let longer : List (List ErrorEvent) = map (λ c. e ∷ c) (more (left - e.length) (budget - e.weight)) in
        let alone : List (List ErrorEvent) = cond (eqb e.weight budget) ((e ∷ []) ∷ []) [] in
        let here = in_first (eqb e.weight budget) ((e ∷ []) ∷ []) [] (eqb_passes e.weight budget g) (Memᴰ.head refl) in
        in_first (fits_in left budget e) (cond (eqb e.length left) alone longer) [] (fits_of_parts left budget e (omega arith) (omega arith))
        (in_first (eqb e.length left) alone longer (eqb_passes e.length left h) here)

    -- e before a chain of what is left
    in_chaining_more : (c : List ErrorEvent) → e.length < left → e.weight ≤ budget → Memᴰ c (more (left - e.length) (budget - e.weight))
        → Memᴰ (e ∷ c) (chaining more left budget e)
    unfolding chaining
    in_chaining_more c h g m =
        let longer : List (List ErrorEvent) = map (λ c. e ∷ c) (more (left - e.length) (budget - e.weight)) in
        let alone : List (List ErrorEvent) = cond (eqb e.weight budget) ((e ∷ []) ∷ []) [] in
        let short : e.length ≢ left = omega arith in
        in_first (fits_in left budget e) (cond (eqb e.length left) alone longer) [] (fits_of_parts left budget e (omega arith) (omega arith))
        (in_second (eqb e.length left) alone longer (eqb_fails e.length left short) (Memᴰ.map (λ c. e ∷ c) m))

  pub of_chains : (fuel left budget : ℕ) (c : List ErrorEvent) → Memᴰ c (chains fuel es left budget) → Fills es left budget c
  unfolding chains
  of_chains zero left budget c m = absurd (Memᴰ.not-nil m)
  of_chains (suc fuel) left budget c m =
      let h = of_flat_map (chaining (chains fuel es) left budget) es m in
      let k = of_chaining (chains fuel es) left budget h.0 (of_chains fuel) h.1 h.2 in
      subst (Fills es left budget) (sym k.1) k.2

  -- the chains that begin with e, one by one
  pub of_first : (fuel left budget : ℕ) (e : ErrorEvent) → Memᴰ e es → {c : List ErrorEvent} → Memᴰ c (chaining (chains fuel es) left budget e)
      → (rest : List ErrorEvent) × (c ≡ e ∷ rest) × Fills es left budget (e ∷ rest)
  of_first fuel left budget e = of_chaining (chains fuel es) left budget e (of_chains fuel)

  module _ (some_step : (e : ErrorEvent) → Memᴰ e es → 1 ≤ e.length) where
    pub in_chains : (fuel left budget : ℕ) (e : ErrorEvent) (c : List ErrorEvent) → left ≤ fuel → Fills es left budget (e ∷ c)
        → Memᴰ (e ∷ c) (chains fuel es left budget)
    unfolding chains steps cost
    in_chains zero left budget e c h f = absurd (omega (arith, some_step e (f.from e (Memᴰ.head refl)), f.steps_are))
    in_chains (suc fuel) left budget e [] h f =
        let s = f.steps_are in
        let w = f.cost_is in
        in_flat_map (chaining (chains fuel es) left budget) es (f.from e (Memᴰ.head refl))
        (in_chaining_last (chains fuel es) left budget e (omega arith) (omega arith))
    in_chains (suc fuel) left budget e (e' ∷ c) h f =
        let s = f.steps_are in
        let w = f.cost_is in
        let some = some_step e (f.from e (Memᴰ.head refl)) in
        let some' = some_step e' (f.from e' (Memᴰ.tail (Memᴰ.head refl))) in
        let rest : Fills es (left - e.length) (budget - e.weight) (e' ∷ c) =
        record { from = λ x m. f.from x (Memᴰ.tail m); steps_are = omega arith; cost_is = omega arith } in
        in_flat_map (chaining (chains fuel es) left budget) es (f.from e (Memᴰ.head refl))
        (in_chaining_more (chains fuel es) left budget e (e' ∷ c) (omega arith) (omega arith)
        (in_chains fuel (left - e.length) (budget - e.weight) e' c (omega arith) rest))

  -- ---- no repeats

  chaining_distinct : (more : ℕ → ℕ → List (List ErrorEvent)) → ((l b : ℕ) → Distinct (more l b)) → (left budget : ℕ) (e : ErrorEvent)
      → Distinct (chaining more left budget e)
  unfolding chaining
  chaining_distinct more h left budget e =
      let rest : List (List ErrorEvent) = more (left - e.length) (budget - e.weight) in
      let alone : List (List ErrorEvent) = cond (eqb e.weight budget) ((e ∷ []) ∷ []) [] in
      guarded_sorted (λ x y. x ≢ y) (fits_in left budget e) (cond (eqb e.length left) alone (map (λ c. e ∷ c) rest))
      (choice-sorted (λ x y. x ≢ y) (eqb e.length left) alone (map (λ c. e ∷ c) rest)
      (guarded_sorted (λ x y. x ≢ y) (eqb e.weight budget) ((e ∷ []) ∷ []) (λ y m. absurd (Memᴰ.not-nil m), tt))
      (map-sorted (λ x y. x ≢ y) (λ x y. x ≢ y) (λ c. e ∷ c) (λ x y n p. n (tail-eq_of_cons-eq p)) rest (h (left - e.length) (budget - e.weight))))

  pub chains_distinct : Distinct es → (fuel left budget : ℕ) → Distinct (chains fuel es left budget)
  unfolding chains
  chains_distinct s zero left budget = tt
  chains_distinct s (suc fuel) left budget =
      flat_map_sorted-on (λ x y. x ≢ y) (λ x y. x ≢ y) (chaining (chains fuel es) left budget) es s
      (λ e m. chaining_distinct (chains fuel es) (chains_distinct s fuel) left budget e)
      (λ e e' m m' n c c' k k' p. n (head-eq_of_cons-eq (sym (of_first fuel left budget e m k).1 ∙ p ∙ (of_first fuel left budget e' m' k').1)))
