-- What the end of a walk tells of its last inputs: where the final state's lowest k bits are 0, so are the inputs of the last k steps. So a walk to
-- state 0 takes v zeros at its end, and its input number has v bits fewer than it has steps (`to_zero_fits`). On every accepted link a walk that ends
-- at a state of events has an input number that fits two halves of 64 bits, even where all other steps of a word come before it (`inputs_fit`).
-- Assumes nothing.
use mathlib.Core.Path.{◌≡◌, refl, sym, ap, ◌∙◌, subst}
use mathlib.Core.Bool.{Bool, true, false}
use Prim.Native.Nat.{ℕ, zero, suc, ◌+◌, ◌-◌, ◌*◌, ◌/◌, ◌%◌, ◌^◌, ◌≤◌, ◌<◌}
use native.Mathlib.Nat.{le_refl, lt_of_lt_of_le, zero-mul, mod-lt, mod-eq_of_lt, sub-zero, zero-sub, suc-sub-suc, sub-add_cancel}
use native.Mathlib.Decide.{dec_lt}
use native.Mathlib.Omega.{arith}
use lib.Arith.{lt-one}
use lib.Pow.{pow_pos, pow_mono, shl_lt, shr_lt, split, mod-pow-add, mod-mod-pow}
use Rattle.poly.specs.Poly.{bit}
use Rattle.order.specs.Order.{Order}
use Rattle.order.specs.Model.Accepted.{AcceptedCode}
use Rattle.code.specs.Links.{terminated, steps_of, event_states}
use Rattle.code.specs.Trellis.{next, walk}
use Rattle.code.proofs.Walks.{walk_last}
use Rattle.code.proofs.Links.{steps-terminated, steps_tail_biting, states_terminated}

-- a number whose highest digit is 0 has one digit fewer
no_top : (l c : ℕ) → c < 2 ^ suc l → bit l c ≡ 0 → c < 2 ^ l
unfolding bit
no_top l c h e =
    let wide : c < 2 ^ (1 + l) = subst (λ (n : ℕ). c < 2 ^ n) (one l) h in
    let top : c / 2 ^ l < 2 = shr_lt 1 l wide in
    let none : c / 2 ^ l ≡ 0 = omega arith in
    let whole : 0 * 2 ^ l + c % 2 ^ l ≡ c = sym (ap (λ (x : ℕ). x * 2 ^ l + c % 2 ^ l) none) ∙ split c l in
    let rest : c % 2 ^ l < 2 ^ l = mod-lt c (pow_pos l) in
    omega arith
  where
    one : (n : ℕ) → suc n ≡ 1 + n
    one n = omega arith

-- where a step leads to a state whose lowest digits are 0, its input is 0 and so are the digits below the highest before it
module _ (v k x b : ℕ) (hb : b < 2) (hk : suc k ≤ v) (zeros : next v x b % 2 ^ suc k ≡ 0) where
  shifted : (2 * x + b) % 2 ^ suc k ≡ 0
  unfolding next
  shifted = sym (mod-mod-pow (2 * x + b) (v - suc k) (suc k)) ∙ ap (λ (n : ℕ). (2 * x + b) % 2 ^ n % 2 ^ suc k) (sub-add_cancel hk) ∙ zeros

  parts : ((2 * x + b) / 2 % 2 ^ k) * 2 + (2 * x + b) % 2 ≡ 0
  parts = sym (mod-pow-add (2 * x + b) k 1) ∙ ap (λ (n : ℕ). (2 * x + b) % 2 ^ n) (last k) ∙ shifted
    where
      last : (n : ℕ) → n + 1 ≡ suc n
      last n = omega arith

  input_zero : b ≡ 0
  input_zero = let p = parts in omega arith

  before_zeros : x % 2 ^ k ≡ 0
  before_zeros =
      let half : (2 * x + b) / 2 ≡ x = omega arith in
      let p = parts in
      let low : (2 * x + b) / 2 % 2 ^ k ≡ 0 = omega arith in
      sym (ap (λ (n : ℕ). n % 2 ^ k) half) ∙ low

pub ends_in_zeros : (v k l s c : ℕ) → k ≤ v → c < 2 ^ l → walk v l s c % 2 ^ k ≡ 0 → c < 2 ^ (l - k)
unfolding bit
ends_in_zeros v zero l s c hk fits z = rw sub-zero fits
ends_in_zeros v (suc k) zero s c hk fits z = rw zero-sub fits
ends_in_zeros v (suc k) (suc l) s c hk fits z =
    let x : ℕ = walk v l s c in
    let zeros : next v x (bit l c) % 2 ^ suc k ≡ 0 = sym (ap (λ (n : ℕ). n % 2 ^ suc k) (walk_last v l s c)) ∙ z in
    let hb : bit l c < 2 = omega arith in
    rw suc-sub-suc (ends_in_zeros v k l s c (omega arith) (no_top l c fits (input_zero v k x (bit l c) hb hk zeros)) (before_zeros v k x (bit l c) hb hk zeros))

-- a walk to state 0
to_zero_fits : (v l s c : ℕ) → c < 2 ^ l → walk v l s c ≡ 0 → c < 2 ^ (l - v)
to_zero_fits v l s c fits z = ends_in_zeros v v l s c (le_refl v) fits (ap (λ (n : ℕ). n % 2 ^ v) z ∙ mod-eq_of_lt (pow_pos v))

-- ---- an accepted link

-- a number of few digits, some places further up
moved_fits : (c j m : ℕ) → c < 2 ^ j → j + m ≤ 128 → c * 2 ^ m < 2 ^ 128
moved_fits c j m h few = lt_of_lt_of_le (shl_lt j m h) (pow_mono few)

-- a walk of k steps to a state of events
module _ (o : Order) (acc : AcceptedCode o) (i s k c : ℕ) (event-state : i < event_states o) (fits : c < 2 ^ k) (arrives : walk o.v k s c ≡ i) where
  to_zero : terminated o ≡ true → c < 2 ^ (k - o.v)
  to_zero t = let states = states_terminated o t in let zero : i ≡ 0 = omega arith in to_zero_fits o.v k s c fits (arrives ∙ zero)

  -- and m steps before it
  pub inputs_fit : (m : ℕ) → k + m ≤ steps_of o → c * 2 ^ m < 2 ^ 128
  inputs_fit m within = by (terminated o) refl
    where
      by : (b : Bool) → terminated o ≡ b → c * 2 ^ m < 2 ^ 128
      by true t =
          let steps = steps-terminated o t in
          let most = acc.at_most_128 in
          elim (dec_lt o.v k) [
            | yes h ↦ moved_fits c (k - o.v) m (to_zero t) (omega arith)
            | no h ↦
                let short : k - o.v ≡ 0 = omega arith in
                let one : c < 1 = subst (λ (n : ℕ). c < 2 ^ n) short (to_zero t) in
                subst (λ (x : ℕ). x < 2 ^ 128) (sym (ap (λ (x : ℕ). x * 2 ^ m) (lt-one one) ∙ zero-mul (2 ^ m))) (pow_pos 128)
          ]
      by false t = let steps = steps_tail_biting o t in let most = acc.at_most_128 in moved_fits c k m fits (omega arith)
