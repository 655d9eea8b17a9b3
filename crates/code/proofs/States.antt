-- Laws of places and states: places repeat after N, the next state is the state with one bit shifted in, and after N steps the state is back.
-- Assumes nothing.
use mathlib.Core.Path.{◌≡◌, sym, ap, ap₂, ◌∙◌}
use Prim.Native.Nat.{ℕ, suc, ◌+◌, ◌-◌, ◌*◌, ◌%◌, ◌^◌, ◌≤◌, ◌<◌}
use native.Mathlib.Nat.{add_comm, suc-add, suc-sub-suc, add-mod_right, mod-eq_of_lt, mod-lt}
use native.Mathlib.Omega.{arith}
use lib.Pow.{pow_pos}
use Rattle.poly.specs.Poly.{bit, from_bits}
use Rattle.poly.proofs.Sum.{bit_lt}
use Rattle.poly.proofs.Bits.{from_bits_cong, from_bits_lt, from_bits-mod, bit-from_bits}
use Rattle.code.specs.Trellis.{place, state_at, next}

-- ---- places

pub place_lt : (N u i : ℕ) → place N u i < 2
unfolding place
place_lt N u i = bit_lt (i % N) u

pub place_period : (N u i : ℕ) → place N u (i + N) ≡ place N u i
unfolding place
place_period N u i = ap (λ (x : ℕ). bit x u) (add-mod_right i N)

-- below N a place is the word's own bit
pub place-bit : (N u i : ℕ) → i < N → place N u i ≡ bit i u
unfolding place
place-bit N u i h = ap (λ (x : ℕ). bit x u) (mod-eq_of_lt h)

-- ---- states

pub state_at_lt : (v N u t : ℕ) → state_at v N u t < 2 ^ v
unfolding state_at
state_at_lt v N u t = from_bits_lt v (λ j. place N u (t + N - suc j)) (λ j. place_lt N u (t + N - suc j))

-- bit j of the state is the word's bit at place t - 1 - j
pub state_at-bit : (v N u t j : ℕ) → j < v → bit j (state_at v N u t) ≡ place N u (t + N - suc j)
unfolding state_at
state_at-bit v N u t j h = bit-from_bits j v (λ i. place N u (t + N - suc i)) (λ i. place_lt N u (t + N - suc i)) h

-- the window of the last v + 1 inputs before step t + 1: its bit j is the input j steps ago
unfoldable pub window : ℕ → ℕ → ℕ → ℕ → ℕ
window N u t j = place N u (suc t + N - suc j)

pub window_lt : (N u t j : ℕ) → window N u t j < 2
unfolding window
window_lt N u t j = place_lt N u (suc t + N - suc j)

pub window_first : (N u t : ℕ) → window N u t 0 ≡ place N u t
unfolding window
window_first N u t = ap (place N u) (omega arith) ∙ place_period N u t

pub window_later : (N u t j : ℕ) → window N u t (suc j) ≡ place N u (t + N - suc j)
unfolding window
window_later N u t j = ap (place N u) (ap (λ (x : ℕ). x - suc (suc j)) (suc-add t N) ∙ suc-sub-suc (t + N) (suc j))

-- the state and the input together are the window
pub state_at_push : (v N u t : ℕ) → 2 * state_at v N u t + place N u t ≡ from_bits (suc v) (window N u t)
unfolding state_at from_bits
state_at_push v N u t =
    add_comm (2 * state_at v N u t) (place N u t)
    ∙ ap₂ (λ (x y : ℕ). x + 2 * y) (sym (window_first N u t))
    (from_bits_cong v (λ j. place N u (t + N - suc j)) (λ j. window N u t (suc j)) (λ j _. sym (window_later N u t j)))

-- the next state: one bit is shifted in
pub state_at-next : (v N u t : ℕ) → state_at v N u (suc t) ≡ next v (state_at v N u t) (place N u t)
unfolding next state_at window
state_at-next v N u t = sym (ap (λ (x : ℕ). x % 2 ^ v) (state_at_push v N u t) ∙ from_bits-mod v (window N u t) (window_lt N u t))

-- the walk closes: after N steps the state is back
pub state_at_period : (v N u t : ℕ) → v ≤ N → state_at v N u (t + N) ≡ state_at v N u t
unfolding state_at
state_at_period v N u t h =
    from_bits_cong v (λ j. place N u (t + N + N - suc j)) (λ j. place N u (t + N - suc j))
    (λ j l. ap (place N u) (omega arith) ∙ place_period N u (t + N - suc j))

pub next_lt : (v s b : ℕ) → next v s b < 2 ^ v
unfolding next
next_lt v s b = mod-lt (2 * s + b) (pow_pos v)
