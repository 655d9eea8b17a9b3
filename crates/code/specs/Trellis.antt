-- The trellis of the code: states, steps and walks.
-- A state is the last v inputs, the latest as bit 0. A walk is its first state, its length and its input number, whose bit 0 is the first input.
-- N here is how many steps a word takes (`steps_of`). That a word weighs what its walk weighs is proved in `proofs/Links.antt` and `Steps.antt`.
-- Assumes nothing.
use Rattle.std.specs.Prelude.{ℕ, zero, suc, ◌+◌, ◌-◌, ◌*◌, ◌/◌, ◌%◌, ◌^◌, Bool, false, ◌&&◌, List, [], ◌∷◌, ltb, eqb}
use Rattle.std.specs.Int.Bits.{bit_and}
use Rattle.std.specs.Int.Count.{ones}
use Rattle.poly.specs.Poly.{bit, from_bits}

-- the bit of a word of N bits at place i, places taken modulo N
unfoldable pub place : ℕ → ℕ → ℕ → ℕ
place N u i = bit (i % N) u

-- The state before step t: its bit j is the word's bit at place t - 1 - j. (N is added so that the place is no negative number: v is at most N.)
unfoldable pub state_at : ℕ → ℕ → ℕ → ℕ → ℕ
state_at v N u t = from_bits v (λ j. place N u (t + N - suc j))

-- the word begun r steps later: its bit t is the word's bit at place t + r (document 01: rotated)
unfoldable pub rotate : ℕ → ℕ → ℕ → ℕ
rotate N r u = from_bits N (λ t. place N u (t + r))

-- input b leads from state s to this state
unfoldable pub next : ℕ → ℕ → ℕ → ℕ
next v s b = (2 * s + b) % 2 ^ v

-- what generator g sends: the parity of the inputs that it taps, where bit j of the window is the input j steps ago
unfoldable pub tapped : ℕ → ℕ → ℕ
tapped window g = ones (bit_and g window) % 2

-- what it sends in a step from state s with input b
unfoldable pub step_output : ℕ → ℕ → ℕ → ℕ
step_output g s b = tapped (2 * s + b) g

-- the ones that all generators send in that step
unfoldable pub step_weight : List ℕ → ℕ → ℕ → ℕ
step_weight [] s b = 0
step_weight (g ∷ gs) s b = step_output g s b + step_weight gs s b

-- the state after l steps from s with input number c
unfoldable pub walk : ℕ → ℕ → ℕ → ℕ → ℕ
walk v zero s c = s
walk v (suc l) s c = walk v l (next v s (c % 2)) (c / 2)

-- what those l steps weigh
unfoldable pub walk_weight : List ℕ → ℕ → ℕ → ℕ → ℕ → ℕ
walk_weight gs v zero s c = 0
walk_weight gs v (suc l) s c = step_weight gs s (c % 2) + walk_weight gs v l (next v s (c % 2)) (c / 2)

-- the walk of l steps from s ends at i, and every state in between is greater than i
unfoldable pub first_meets : ℕ → ℕ → ℕ → ℕ → ℕ → Bool
first_meets v i zero s c = false
first_meets v i (suc zero) s c = eqb (next v s (c % 2)) i
first_meets v i (suc (suc l)) s c = ltb i (next v s (c % 2)) && first_meets v i (suc l) (next v s (c % 2)) (c / 2)
