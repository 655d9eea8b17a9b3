-- The weight of a word of N bits, by products modulo x^N + 1, is the sum over its steps of what each state and input weigh; so it is what its walk
-- weighs. N is any number: on a terminated link, N + v.
-- Assumes nothing.
use mathlib.Core.Path.{◌≡◌, refl, sym, ap, ap₂, ◌∙◌}
use mathlib.Core.Logic.{⊎_elim}
use mathlib.Core.List.{List, [], ◌∷◌, Memᴰ}
use Prim.Native.Nat.{ℕ, zero, suc, ◌+◌, ◌-◌, ◌*◌, ◌/◌, ◌%◌, ◌^◌, ◌≤◌, ◌<◌, suc-le-suc, min}
use native.Mathlib.Nat.{not-suc-le-zero, le_of_suc-le-suc, zero-lt-suc, le_refl, le-suc, le_trans, zero-add, add_comm, add-suc, one-mul, zero-mul, mod-eq_of_lt, mod-lt, add-mod-mod, suc-mod, mod_self, eq-or-lt_of_le, zero-min}
use native.Mathlib.Omega.{arith}
use lib.Dec.{lit<}
use lib.Arith.{lt-one, digits_mod}
use lib.Bits.{bit_and, differ, and_step, and_shr}
use lib.Count.{ones, ones_in, ones_step}
use lib.Pow.{pow-lt, high}
use Rattle.lists.specs.Lists.{sum}
use Rattle.lists.proofs.Sums.{sum_cong, sum_add, sum_zero}
use Rattle.poly.specs.Poly.{bit, from_bits, ◌⊕◌, ◌⊗◌, HasDegree, register, remainder}
use Rattle.poly.proofs.Sum.{for_bits, digit_times_lt, mod2_lt, bit_lt, bit_⊕, differ_zero_r, half_push, mod2_push}
use Rattle.poly.proofs.Bits.{bit-first, bit_later, bit_zero, bit_low, half_lt, ones_sum, from_bits_cong}
use Rattle.poly.proofs.Product.{⊗_zero, ⊗_step}
use Rattle.poly.proofs.Remainder.{remainder_zero, remainder_⊕, remainder_double, remainder_small, remainder_lt}
use Rattle.code.specs.Model.Cyclic.{cyclic_output, cyclic_weight}
use Rattle.code.specs.Trellis.{place, state_at, tapped, step_output, step_weight, walk_weight}
use Rattle.code.proofs.States.{place_period, place-bit, window, window_lt, window_first, window_later, state_at_push}
use Rattle.code.proofs.Walks.{word_follows, walk_weight_follows}

-- ---- x·r modulo x^N + 1: the coefficients move up by one, and the highest comes back as the lowest

cycle_degree : (N : ℕ) → 0 < N → HasDegree N (2 ^ N + 1)
cycle_degree N h = ap (λ (x : ℕ). (x + 1) / 2 ^ N) (sym (one-mul (2 ^ N))) ∙ high 1 N (pow-lt h)

-- bit t of a digit times x^N + 1, below N
bit_cycle : (t N x : ℕ) → t < N → x < 2 → bit t (x * (2 ^ N + 1)) ≡ bit t x
bit_cycle t N x h hx =
    for_bits (λ (c : ℕ). bit t (c * (2 ^ N + 1)) ≡ bit t c) (ap (bit t) (zero-mul (2 ^ N + 1)))
    (ap (bit t) (one-mul (2 ^ N + 1) ∙ ap (λ (y : ℕ). y + 1) (sym (one-mul (2 ^ N)))) ∙ bit_low t N 1 1 h) x hx

-- bit t of 2r
bit_double_first : (r : ℕ) → bit 0 (2 * r + 0) ≡ 0
bit_double_first r = bit-first (2 * r + 0) ∙ mod2_push r 0 (lit< tt)

bit_double_later : (t r : ℕ) → bit (suc t) (2 * r + 0) ≡ bit t r
bit_double_later t r = bit_later t (2 * r + 0) ∙ ap (bit t) (half_push r 0 (lit< tt))

-- a digit has one bit
digit-first : (x : ℕ) → x < 2 → bit 0 x ≡ x
digit-first x h = bit-first x ∙ mod-eq_of_lt h

digit_later : (t x : ℕ) → x < 2 → bit (suc t) x ≡ 0
digit_later t x h = for_bits (λ (c : ℕ). bit (suc t) c ≡ 0) (bit_zero (suc t)) (bit_later t 1 ∙ bit_zero t) x h

-- x·r modulo x^N + 1
abbrev turned : ℕ → ℕ → ℕ
turned N r = register N (2 ^ N + 1) r 0

turned-first : (n r : ℕ) → bit 0 (turned (suc n) r) ≡ bit n r
unfolding register
turned-first n r =
    let b : ℕ = bit (suc n) (2 * r + 0) in
    bit_⊕ 0 (2 * r + 0) (b * (2 ^ suc n + 1))
    ∙ ap₂ differ (bit_double_first r)
    (bit_cycle 0 (suc n) b (zero-lt-suc n) (bit_lt (suc n) (2 * r + 0)) ∙ digit-first b (bit_lt (suc n) (2 * r + 0)) ∙ bit_double_later n r)

turned_later : (t N r : ℕ) → suc t < N → bit (suc t) (turned N r) ≡ bit t r
unfolding register
turned_later t N r h =
    let b : ℕ = bit N (2 * r + 0) in
    bit_⊕ (suc t) (2 * r + 0) (b * (2 ^ N + 1))
    ∙ ap₂ differ (bit_double_later t r) (bit_cycle (suc t) N b h (bit_lt N (2 * r + 0)) ∙ digit_later t b (bit_lt N (2 * r + 0)))
    ∙ differ_zero_r (bit t r)

-- the same by places
place-turned : (n r t : ℕ) → place (suc n) (turned (suc n) r) (suc t) ≡ place (suc n) r t
unfolding place
place-turned n r t =
    ap (λ (x : ℕ). bit x (turned (suc n) r)) (suc-mod t (suc n))
    ∙ at (t % suc n) (mod-lt t (zero-lt-suc n))
  where
    at : (i : ℕ) → i < suc n → bit (suc i % suc n) (turned (suc n) r) ≡ bit i r
    at i h =
        ⊎_elim
        (λ e. ap (λ (x : ℕ). bit (suc x % suc n) (turned (suc n) r)) e
        ∙ ap (λ (x : ℕ). bit x (turned (suc n) r)) (mod_self (suc n)) ∙ turned-first n r ∙ ap (λ (x : ℕ). bit x r) (sym e))
        (λ l. ap (λ (x : ℕ). bit x (turned (suc n) r)) (mod-eq_of_lt (suc-le-suc l)) ∙ turned_later i (suc n) r (suc-le-suc l))
        (eq-or-lt_of_le (le_of_suc-le-suc h))

-- ---- the output, a coefficient of the generator at a time

place_⊕ : (N a b i : ℕ) → place N (a ⊕ b) i ≡ differ (place N a i) (place N b i)
unfolding place
place_⊕ N a b i = bit_⊕ (i % N) a b

place-digit_times : (N x u i : ℕ) → x < 2 → place N (x * u) i ≡ x * place N u i
unfolding place
place-digit_times N x u i h =
    for_bits (λ (c : ℕ). bit (i % N) (c * u) ≡ c * bit (i % N) u)
    (ap (bit (i % N)) (zero-mul u) ∙ bit_zero (i % N) ∙ sym (zero-mul (bit (i % N) u)))
    (ap (bit (i % N)) (one-mul u) ∙ sym (one-mul (bit (i % N) u))) x h

place_of_zero : (N i : ℕ) → place N 0 i ≡ 0
unfolding place
place_of_zero N i = bit_zero (i % N)

output_zero : (N u : ℕ) → cyclic_output N 0 u ≡ 0
unfolding cyclic_output
output_zero N u = ap (remainder N (2 ^ N + 1)) (⊗_zero u) ∙ remainder_zero N (2 ^ N + 1)

output_step : (N g u : ℕ) → u < 2 ^ N → cyclic_output N g u ≡ turned N (cyclic_output N (g / 2) u) ⊕ (g % 2 * u)
unfolding cyclic_output
output_step N g u h =
    ap (remainder N (2 ^ N + 1)) (⊗_step u g)
    ∙ remainder_⊕ N (2 ^ N + 1) (2 * (u ⊗ (g / 2))) (g % 2 * u)
    ∙ ap₂ (λ (x y : ℕ). x ⊕ y) (remainder_double N (2 ^ N + 1) (u ⊗ (g / 2)))
    (remainder_small N (2 ^ N + 1) (g % 2 * u) (digit_times_lt (g % 2) u (2 ^ N) (mod2_lt g) h))

place-output : (n g u t : ℕ) → u < 2 ^ suc n
    → place (suc n) (cyclic_output (suc n) g u) (suc t) ≡ differ (place (suc n) (cyclic_output (suc n) (g / 2) u) t) (g % 2 * place (suc n) u (suc t))
place-output n g u t h =
    ap (λ (x : ℕ). place (suc n) x (suc t)) (output_step (suc n) g u h)
    ∙ place_⊕ (suc n) (turned (suc n) (cyclic_output (suc n) (g / 2) u)) (g % 2 * u) (suc t)
    ∙ ap₂ differ (place-turned n (cyclic_output (suc n) (g / 2) u) t) (place-digit_times (suc n) (g % 2) u (suc t) (mod2_lt g))

-- ---- the parity of the inputs that a generator taps

digit_plus : (x y : ℕ) → x < 2 → (x + y) % 2 ≡ differ (y % 2) x
digit_plus x y h =
    for_bits (λ (c : ℕ). (c + y) % 2 ≡ differ (y % 2) c) (ap (λ (z : ℕ). z % 2) (zero-add y) ∙ sym (differ_zero_r (y % 2)))
    (sym (add-mod-mod 1 y 2) ∙ for_bits (λ (z : ℕ). (1 + z) % 2 ≡ differ z 1) refl refl (y % 2) (mod2_lt y)) x h

digits_and : (x y : ℕ) → x < 2 → y < 2 → min x y ≡ x * y
digits_and x y hx hy =
    for_bits (λ (c : ℕ). min c y ≡ c * y) (zero-min y ∙ sym (zero-mul y))
    (for_bits (λ (c : ℕ). min 1 c ≡ 1 * c) refl refl y hy) x hx

digits_times_lt : (x y : ℕ) → x < 2 → y < 2 → x * y < 2
digits_times_lt x y hx hy = digit_times_lt x y 2 hx hy

mod2_and : (g w : ℕ) → bit_and g w % 2 ≡ g % 2 * (w % 2)
mod2_and g w =
    ap (λ (x : ℕ). x % 2) (and_step g w ∙ ap (λ (x : ℕ). bit_and (g / 2) (w / 2) * 2 + x) (digits_and (g % 2) (w % 2) (mod2_lt g) (mod2_lt w)))
    ∙ digits_mod (bit_and (g / 2) (w / 2)) (digits_times_lt (g % 2) (w % 2) (mod2_lt g) (mod2_lt w))

tapped_step : (g w : ℕ) → tapped w g ≡ differ (tapped (w / 2) (g / 2)) (g % 2 * (w % 2))
unfolding tapped
tapped_step g w =
    ap (λ (x : ℕ). x % 2) (ones_step (bit_and g w) ∙ ap₂ (λ (x y : ℕ). x + ones y) (mod2_and g w) (and_shr g w 1))
    ∙ digit_plus (g % 2 * (w % 2)) (ones (bit_and (g / 2) (w / 2))) (digits_times_lt (g % 2) (w % 2) (mod2_lt g) (mod2_lt w))

tapped_zero : (w : ℕ) → tapped w 0 ≡ 0
unfolding tapped ones_in ones
tapped_zero w = refl

-- ---- a generator of k coefficients taps the window of the last k inputs

window_back : (n u t j : ℕ) → j ≤ n → window (suc n) u t (suc j) ≡ window (suc n) u (t + n) j
unfolding window
window_back n u t j h =
    window_later (suc n) u t j
    ∙ sym (ap (place (suc n) u) (omega arith) ∙ place_period (suc n) u (t + suc n - suc j))

output_window : (n u k g t : ℕ) → u < 2 ^ suc n → k ≤ suc (suc n) → g < 2 ^ k
    → place (suc n) (cyclic_output (suc n) g u) t ≡ tapped (from_bits k (window (suc n) u t)) g
unfolding from_bits
output_window n u zero g t hu hk hg =
    ap (λ (x : ℕ). place (suc n) (cyclic_output (suc n) x u) t) (lt-one hg)
    ∙ ap (λ (x : ℕ). place (suc n) x t) (output_zero (suc n) u) ∙ place_of_zero (suc n) t
    ∙ sym (tapped_zero 0) ∙ ap (λ (x : ℕ). tapped 0 x) (sym (lt-one hg))
output_window n u (suc k) g t hu hk hg =
    let inputs : ℕ = from_bits k (λ j. window (suc n) u t (suc j)) in
    let latest : ℕ = window (suc n) u t 0 in
    sym (place_period (suc n) (cyclic_output (suc n) g u) t)
    ∙ ap (place (suc n) (cyclic_output (suc n) g u)) (add-suc t n)
    ∙ place-output n g u (t + n) hu
    ∙ ap₂ differ
    (output_window n u k (g / 2) (t + n) hu (le_trans (le-suc k) hk) (half_lt k g hg)
    ∙ ap (λ (x : ℕ). tapped x (g / 2)) (from_bits_cong k (window (suc n) u (t + n)) (λ j. window (suc n) u t (suc j)) (λ j l. sym (window_back n u t j (omega arith)))))
    (ap (λ (x : ℕ). g % 2 * x) (ap (place (suc n) u) (sym (add-suc t n)) ∙ place_period (suc n) u t ∙ sym (window_first (suc n) u t)))
    ∙ sym (tapped_step g (latest + 2 * inputs)
    ∙ ap₂ (λ (x y : ℕ). differ (tapped x (g / 2)) (g % 2 * y))
    (ap (λ (x : ℕ). x / 2) (add_comm latest (2 * inputs)) ∙ half_push inputs latest (window_lt (suc n) u t 0))
    (ap (λ (x : ℕ). x % 2) (add_comm latest (2 * inputs)) ∙ mod2_push inputs latest (window_lt (suc n) u t 0)))

-- what generator g sends at step t
pub output-bit : (v N g u t : ℕ) → v ≤ N → u < 2 ^ N → g < 2 ^ suc v → t < N
    → bit t (cyclic_output N g u) ≡ step_output g (state_at v N u t) (place N u t)
unfolding step_output
output-bit v zero g u t hv hu hg ht = absurd (not-suc-le-zero ht)
output-bit v (suc n) g u t hv hu hg ht =
    sym (place-bit (suc n) (cyclic_output (suc n) g u) t ht)
    ∙ output_window n u (suc v) g t hu (suc-le-suc hv) hg
    ∙ ap (λ (x : ℕ). tapped x g) (sym (state_at_push v (suc n) u t))

-- ---- the weight

output_lt : (N g u : ℕ) → 0 < N → cyclic_output N g u < 2 ^ N
unfolding cyclic_output
output_lt N g u h = remainder_lt N (2 ^ N + 1) (u ⊗ g) (cycle_degree N h)

-- every generator has at most v + 1 coefficients
abbrev pub Fit : ℕ → List ℕ → Type 0
Fit v gs = (g : ℕ) → Memᴰ g gs → g < 2 ^ suc v

-- what a word weighs at step t
abbrev pub weighs : List ℕ → ℕ → ℕ → ℕ → ℕ → ℕ
weighs gs v N u t = step_weight gs (state_at v N u t) (place N u t)

pub weight_is_sum_of_steps : (gs : List ℕ) (v N u : ℕ) → 0 < N → v ≤ N → u < 2 ^ N → Fit v gs → cyclic_weight N gs u ≡ sum N (weighs gs v N u)
unfolding cyclic_weight step_weight
weight_is_sum_of_steps [] v N u h0 hv hu fit = sym (sum_zero N)
weight_is_sum_of_steps (g ∷ gs) v N u h0 hv hu fit =
    ap₂ (λ (x y : ℕ). x + y)
    (ones_sum N (cyclic_output N g u) (output_lt N g u h0)
    ∙ sum_cong N (λ t. bit t (cyclic_output N g u)) (λ t. step_output g (state_at v N u t) (place N u t)) (λ t l. output-bit v N g u t hv hu (fit g (Memᴰ.head refl)) l))
    (weight_is_sum_of_steps gs v N u h0 hv hu (λ k l. fit k (Memᴰ.tail l)))
    ∙ sym (sum_add N (λ t. step_output g (state_at v N u t) (place N u t)) (weighs gs v N u))

-- the word's walk from its first state weighs what the word weighs
pub walk_weight-word : (gs : List ℕ) (v N u : ℕ) → 0 < N → v ≤ N → u < 2 ^ N → Fit v gs → walk_weight gs v N (state_at v N u 0) u ≡ cyclic_weight N gs u
walk_weight-word gs v N u h0 hv hu fit =
    walk_weight_follows v N u 0 u gs N (word_follows v N u N (le_refl N))
    ∙ sum_cong N (λ j. weighs gs v N u (0 + j)) (weighs gs v N u) (λ j _. ap (weighs gs v N u) (zero-add j))
    ∙ sym (weight_is_sum_of_steps gs v N u h0 hv hu fit)
