-- Rotating a word turns its states and keeps its weight.
-- Assumes nothing.
use mathlib.Core.Path.{◌≡◌, sym, ap, ap₂, ◌∙◌}
use mathlib.Core.List.{List}
use Prim.Native.Nat.{ℕ, suc, ◌+◌, ◌-◌, ◌%◌, ◌^◌, ◌≤◌, ◌<◌}
use native.Mathlib.Nat.{add_assoc, add-zero, mod-lt, mod-add-mod}
use native.Mathlib.Omega.{arith}
use Rattle.lists.proofs.Sums.{sum_cong, sum_period}
use Rattle.poly.specs.Poly.{bit}
use Rattle.poly.proofs.Bits.{from_bits_cong, from_bits_lt, bit-from_bits, from_bits_bits}
use Rattle.code.specs.Model.Cyclic.{cyclic_weight}
use Rattle.code.specs.Trellis.{place, state_at, rotate, step_weight}
use Rattle.code.proofs.States.{place_lt, place_period, place-bit, state_at_period}
use Rattle.code.proofs.Steps.{Fit, weighs, weight_is_sum_of_steps}

pub rotate_lt : (N r u : ℕ) → rotate N r u < 2 ^ N
unfolding rotate
rotate_lt N r u = from_bits_lt N (λ t. place N u (t + r)) (λ t. place_lt N u (t + r))

-- the bit at place i of the rotated word is the word's bit at place i + r
pub place-rotate : (N r u i : ℕ) → 0 < N → place N (rotate N r u) i ≡ place N u (i + r)
unfolding place rotate
place-rotate N r u i h =
    bit-from_bits (i % N) N (λ t. place N u (t + r)) (λ t. place_lt N u (t + r)) (mod-lt i h)
    ∙ ap (λ (x : ℕ). bit x u) (mod-add-mod i N r)

-- the rotated word's states are the word's states r steps later
pub state_at-rotate : (v N r u t : ℕ) → 0 < N → v ≤ N → state_at v N (rotate N r u) t ≡ state_at v N u (t + r)
unfolding state_at
state_at-rotate v N r u t h0 hv =
    from_bits_cong v (λ j. place N (rotate N r u) (t + N - suc j)) (λ j. place N u (t + r + N - suc j))
    (λ j l. place-rotate N r u (t + N - suc j) h0 ∙ ap (place N u) (omega arith))

-- turning by r and then by q is turning by their sum
pub rotate-rotate : (N q r u : ℕ) → 0 < N → rotate N q (rotate N r u) ≡ rotate N (q + r) u
unfolding rotate
rotate-rotate N q r u h =
    from_bits_cong N (λ t. place N (rotate N r u) (t + q)) (λ t. place N u (t + (q + r)))
    (λ t _. place-rotate N r u (t + q) h ∙ ap (place N u) (add_assoc t q r))

-- turning by nothing, and all the way round, gives the word back
pub rotate_zero : (N u : ℕ) → u < 2 ^ N → rotate N 0 u ≡ u
unfolding rotate
rotate_zero N u h =
    from_bits_cong N (λ t. place N u (t + 0)) (λ t. bit t u) (λ t l. ap (place N u) (add-zero t) ∙ place-bit N u t l) ∙ from_bits_bits N u h

pub rotate-all : (N u : ℕ) → u < 2 ^ N → rotate N N u ≡ u
unfolding rotate
rotate-all N u h =
    from_bits_cong N (λ t. place N u (t + N)) (λ t. bit t u) (λ t l. place_period N u t ∙ place-bit N u t l) ∙ from_bits_bits N u h

pub weighs_rotate : (gs : List ℕ) (v N r u t : ℕ) → 0 < N → v ≤ N → weighs gs v N (rotate N r u) t ≡ weighs gs v N u (t + r)
weighs_rotate gs v N r u t h0 hv = ap₂ (step_weight gs) (state_at-rotate v N r u t h0 hv) (place-rotate N r u t h0)

weighs_period : (gs : List ℕ) (v N u t : ℕ) → v ≤ N → weighs gs v N u (t + N) ≡ weighs gs v N u t
weighs_period gs v N u t hv = ap₂ (step_weight gs) (state_at_period v N u t hv) (place_period N u t)

pub weight-rotate : (gs : List ℕ) (v N r u : ℕ) → 0 < N → v ≤ N → u < 2 ^ N → Fit v gs → cyclic_weight N gs (rotate N r u) ≡ cyclic_weight N gs u
weight-rotate gs v N r u h0 hv hu fit =
    weight_is_sum_of_steps gs v N (rotate N r u) h0 hv (rotate_lt N r u) fit
    ∙ sum_cong N (weighs gs v N (rotate N r u)) (λ t. weighs gs v N u (t + r)) (λ t _. weighs_rotate gs v N r u t h0 hv)
    ∙ sum_period N r (weighs gs v N u) (λ t. weighs_period gs v N u t hv)
    ∙ sym (weight_is_sum_of_steps gs v N u h0 hv hu fit)
