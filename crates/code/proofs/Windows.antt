-- The window that is kept, from state 0 on: the last v bits moved in where the link bites its tail, then the word's bits one after another. Before
-- each step it is the state of the definition, on both kinds of link (`kept_window`).
-- Assumes nothing.
use mathlib.Core.Path.{◌≡◌, refl, sym, ap, ap₂, ◌∙◌}
use mathlib.Core.Bool.{Bool, true, false, cond}
use Prim.Native.Nat.{ℕ, ◌+◌, ◌-◌, ◌*◌, ◌/◌, ◌%◌, ◌^◌, ◌≤◌, ◌<◌}
use native.Mathlib.Nat.{le_refl, sub-add_cancel, div-one, div-div-eq-div-mul}
use native.Mathlib.Omega.{arith}
use lib.Pow.{pow_pos, pow-add}
use Rattle.poly.specs.Poly.{bit}
use Rattle.poly.specs.Word.{number}
use Rattle.order.specs.Order.{Order}
use Rattle.order.specs.Model.Accepted.{AcceptedCode}
use Rattle.code.specs.Links.{terminated, steps_of}
use Rattle.code.specs.Trellis.{state_at, walk}
use Rattle.code.specs.Model.Window.{Later, last_state, first_state, First}
use Rattle.code.specs.declared.window.Window.{Window}
use Rattle.code.proofs.States.{state_at_lt}
use Rattle.code.proofs.Walks.{walk_lt, walk-word, walk_forgets, walk_closes}
use Rattle.code.proofs.Cuts.{walk-cut}
use Rattle.code.proofs.Links.{begins_at_zero}

-- ---- the state that a word begins in

-- after v bits nothing is left of what was in the window before them
last_state_lem : (v N u : ℕ) → v ≤ N → last_state v N u ≡ state_at v N u 0
unfolding last_state
last_state_lem v N u h =
    walk_forgets v v 0 (walk v (N - v) 0 u) (u / 2 ^ (N - v)) (le_refl v) (pow_pos v) (walk_lt v (N - v) 0 u (pow_pos v))
    ∙ sym (walk-cut v (N - v) v 0 u)
    ∙ ap (λ (n : ℕ). walk v n 0 u) (sub-add_cancel h)
    ∙ walk_forgets v N 0 (state_at v N u 0) u h (pow_pos v) (state_at_lt v N u 0)
    ∙ walk_closes v N u h

module _ (o : Order) (u : ℕ) where
  pub begins_terminated : terminated o ≡ true → first_state o u ≡ 0
  unfolding first_state
  begins_terminated e = ap (λ (b : Bool). cond b 0 (last_state o.v o.N u)) e

  pub begins_tail_biting : terminated o ≡ false → first_state o u ≡ last_state o.v o.N u
  unfolding first_state
  begins_tail_biting e = ap (λ (b : Bool). cond b 0 (last_state o.v o.N u)) e

  first_state_lem : o.v ≤ o.N → u < 2 ^ o.N → first_state o u ≡ state_at o.v (steps_of o) u 0
  unfolding first_state steps_of
  first_state_lem longer fits = by (terminated o)
    where
      by : (b : Bool) → cond b 0 (last_state o.v o.N u) ≡ state_at o.v (cond b (o.N + o.v) o.N) u 0
      by true = sym (begins_at_zero o.v o.N u fits)
      by false = last_state_lem o.v o.N u longer

-- ---- the kept window is the state: of every memory v and length N, on both kinds of link, for every word and before every step

pub kept_window : (o : Order) (u t : ℕ) → o.v ≤ o.N → u < 2 ^ o.N → t ≤ steps_of o → walk o.v t (first_state o u) u ≡ state_at o.v (steps_of o) u t
kept_window o u t longer fits h = ap (λ (s : ℕ). walk o.v t s u) (first_state_lem o u longer fits) ∙ walk-word o.v (steps_of o) u t h

-- ---- windows of the code

pub later_none : (w : Window) → Later w 0 w
unfolding walk
later_none w = record { memory = refl; state = refl; rest = sym (div-one (number w.rest)) }

module _ {w₀ : Window} {t : ℕ} {w : Window} (at : Later w₀ t w) where
  pub later_more : {w' : Window} → Later w 1 w' → Later w₀ (t + 1) w'
  later_more {w'} m =
      let v : ℕ = w₀.memory in
      let u : ℕ = number w₀.rest in
      record {
        memory = m.memory ∙ at.memory;
        state =
            m.state
            ∙ ap₂ (λ (x y : ℕ). walk x 1 w.state y) at.memory at.rest
            ∙ ap (λ (x : ℕ). walk v 1 x (u / 2 ^ t)) at.state
            ∙ sym (walk-cut v t 1 w₀.state u);
        rest = m.rest ∙ ap (λ (x : ℕ). x / 2 ^ 1) at.rest ∙ div-div-eq-div-mul u (2 ^ t) (2 ^ 1) ∙ ap (λ (x : ℕ). u / x) (sym (pow-add 2 t 1));
      }

-- of a word of an accepted code
module _ {o : Order} {u : ℕ} (code : AcceptedCode o) {w₀ : Window} (first : First o u w₀) {t : ℕ} {w : Window} (at : Later w₀ t w) where
  pub kept_memory : w.memory ≤ 8
  kept_memory = rw (at.memory, first.memory) code.small_memory

  -- what a step taps: the state of the definition and the word's bit
  pub kept_inputs : u < 2 ^ o.N → t < steps_of o → 2 * w.state + number w.rest % 2 ≡ 2 * state_at o.v (steps_of o) u t + bit t u
  unfolding bit
  kept_inputs fits h =
      let kept : w.state ≡ state_at o.v (steps_of o) u t =
      at.state ∙ rw (first.memory, first.state, first.rest) (kept_window o u t code.long_enough fits (omega arith)) in
      ap₂ (λ (x y : ℕ). 2 * x + y % 2) kept (at.rest ∙ ap (λ (x : ℕ). x / 2 ^ t) first.rest)
