-- Steps that cannot be filled find nothing: tables of least weights tell so (`joined_drops`), and of the tables only three inequalities are asked.
-- Assumes nothing.
use Prim.Native.Nat.{ℕ, ◌+◌, ◌-◌, ◌≤◌, ◌<◌}
use native.Mathlib.Omega.{arith}
use mathlib.Core.Path.{◌≡◌, refl, ap, ◌∙◌}
use mathlib.Core.List.{List, [], ◌∷◌, flat_map, Memᴰ}
use Rattle.lists.proofs.Sorted.{Within}
use Rattle.lists.proofs.Blocks.{nil_of_no_member, flat_map_none}
use Rattle.events.specs.Events.{ErrorEvent}
use Rattle.paths.specs.Chains.{steps, cost}
use Rattle.paths.specs.Model.Joining.{joined}
use Rattle.paths.proofs.Chains.{Fills, chains, of_chains}
use Rattle.paths.proofs.Joined.{emit, joined_is_chains}

module _ (N : ℕ) (es : List ErrorEvent) (some_step : (e : ErrorEvent) → Memᴰ e es → 1 ≤ e.length) where
  -- ---- where nothing fills what is left, nothing is emitted

  pub joined_none : (fuel left acc first budget : ℕ) → left ≤ N → ((c : List ErrorEvent) → Fills es left budget c → ⊥)
      → joined fuel es N left acc first budget ≡ []
  joined_none fuel left acc first budget h none =
      joined_is_chains N es some_step fuel left acc first budget h
      ∙ ap (flat_map (emit N left acc first)) (nil_of_no_member (chains fuel es left budget) (λ c m. none c (of_chains es fuel left budget c m)))
      ∙ flat_map_none (emit N left acc first)

  -- ---- bounds by tables

  module _ (least fill : ℕ → ℕ) (fill_zero : fill 0 ≡ 0)
      (fill_step : (k l : ℕ) → 1 ≤ l → l ≤ k → k ≤ N → fill k ≤ least l + fill (k - l))
      (least_weighs : (e : ErrorEvent) → Memᴰ e es → least e.length ≤ e.weight) where
    -- a chain weighs at least what the table says of its steps
    pub fill_le_cost : (c : List ErrorEvent) → Within c es → steps c ≤ N → fill (steps c) ≤ cost c
    unfolding steps cost
    fill_le_cost [] w h = omega arith
    fill_le_cost (e ∷ c) w h =
        let m = w e (Memᴰ.head refl) in
        let some = some_step e m in
        let light = least_weighs e m in
        let rest = fill_le_cost c (λ x n. w x (Memᴰ.tail n)) (omega arith) in
        let step = fill_step (e.length + steps c) e.length some (omega arith) h in
        let left : e.length + steps c - e.length ≡ steps c = omega arith in
        let same = ap fill left in
        omega arith

    fill_le_budget : (left budget : ℕ) (c : List ErrorEvent) → left ≤ N → Fills es left budget c → fill left ≤ budget
    fill_le_budget left budget c h f =
        let s = f.steps_are in
        let w = f.cost_is in
        let all = fill_le_cost c f.from (omega arith) in
        let same = ap fill s in
        omega arith

    -- a partial chain whose steps left cannot be filled emits nothing
    pub joined_drops : (fuel left acc first budget : ℕ) → left ≤ N → budget < fill left → joined fuel es N left acc first budget ≡ []
    joined_drops fuel left acc first budget h heavy =
        joined_none fuel left acc first budget h (λ c f. let light = fill_le_budget left budget c h f in omega arith)
