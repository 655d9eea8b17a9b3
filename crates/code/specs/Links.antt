-- The two kinds of link, and all in which they differ: everything else is said once for both.
-- A tail-biting link (version 1) begins in the state in which it ends. A terminated link (version 2) begins in state 0, and v zeros after the word
-- bring it back there (document 02, C-12).
-- Assumes nothing.
use Rattle.std.specs.Prelude.{ℕ, ◌+◌, ◌^◌, Bool, cond, eqb}
use Rattle.poly.specs.Poly.{◌⊗◌, remainder}
use Rattle.order.specs.Order.{Order}

unfoldable pub terminated : Order → Bool
terminated o = eqb o.version 2

-- how many steps a word takes: one for each of its bits, and on a terminated link one for each zero after it
unfoldable pub steps_of : Order → ℕ
steps_of o = cond (terminated o) (o.N + o.v) o.N

-- the output of generator g for word u: u times g, on a tail-biting link modulo x^N + 1
unfoldable pub output : Order → ℕ → ℕ → ℕ
output o g u = cond (terminated o) (u ⊗ g) (remainder o.N (2 ^ o.N + 1) (u ⊗ g))

-- how many states begin and end events: state 0 alone, or all
unfoldable pub event_states : Order → ℕ
event_states o = cond (terminated o) 1 (2 ^ o.v)
