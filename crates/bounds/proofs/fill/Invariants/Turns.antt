-- What `filled` comes to at first, with one turn more, and at the end.
-- Assumes nothing.
use Prim.Native.Nat.{ℕ, suc, ◌+◌, ◌-◌, ◌≤◌, ◌<◌}
use native.Mathlib.Omega.{arith}
use mathlib.Core.Path.{◌≡◌, ap, ◌∙◌}
use mathlib.Core.List.{List}
use lib.ListN.{set}
use lib.Seq.{get_or-set_other}
use Rattle.code.specs.Model.Steps.{most_steps}
use Rattle.bounds.specs.Model.Places.{fill_place, bits_place}
use Rattle.bounds.specs.Model.Tables.{bits_at, least_sum, filled_from, filled, Small}

-- where the loop stands: what is left to fill in, from step k on
pub record Filling (work₀ : List ℕ) (bits : ℕ) (work : List ℕ) (k : ℕ) : Type 0 where
  pub few : bits ≤ most_steps
  pub small : Small work
  pub left : filled_from (bits + 1 - k) k work ≡ filled_from bits 1 work₀

pub filled_is : (work last : List ℕ) → last ≡ filled_from (bits_at (set work fill_place 0)) 1 (set work fill_place 0)
    → last ≡ filled work
unfolding filled
filled_is work last e =
    e ∙ ap (λ (n : ℕ). filled_from n 1 (set work fill_place 0))
    (get_or-set_other work fill_place bits_place 0 0 (λ q. absurd (omega arith)))

pub fill_again : (bits k w : ℕ) (work goal : List ℕ) → k ≤ bits → w ≡ least_sum work k k → filled_from (bits + 1 - k) k work ≡ goal
    → filled_from (bits + 1 - (k + 1)) (k + 1) (set work (fill_place + k) w) ≡ goal
unfolding filled_from
fill_again bits k w work goal h e inv =
    ap (λ (x : ℕ). filled_from (bits + 1 - (k + 1)) (k + 1) (set work (fill_place + k) x)) e
    ∙ ap (λ (n : ℕ). filled_from n k work) more ∙ inv
  where
    more : suc (bits + 1 - (k + 1)) ≡ bits + 1 - k
    more = omega arith

pub fill_end : (bits k : ℕ) (work goal : List ℕ) → bits < k → filled_from (bits + 1 - k) k work ≡ goal → work ≡ goal
unfolding filled_from
fill_end bits k work goal h inv = ap (λ (n : ℕ). filled_from n k work) none ∙ inv
  where
    none : 0 ≡ bits + 1 - k
    none = omega arith
