-- What the functions below the calls ask (a model): a word of few bits, and room for its codeword.
-- Assumes nothing.
use Rattle.std.specs.Prelude.{ℕ, ◌*◌, ◌^◌, ◌≤◌, ◌<◌, length}
use Rattle.order.specs.Order.{Order}
use Rattle.code.specs.Links.{steps_of}

-- the most steps that a word takes: N is at most 128, and v at most 8
abbrev pub most_steps : ℕ
most_steps = 136

-- a word of some bits, at most 128
pub record ShortWord (bits u : ℕ) : Type 0 where
  pub some_bits : 0 < bits
  pub at_most_128 : bits ≤ 128
  pub fits : u < 2 ^ bits

-- a word of the order's bits, and room for its codeword
pub record ToEncode (o : Order) (u size : ℕ) : Type 0 where
  pub fits : u < 2 ^ o.N
  pub room : length o.generators * steps_of o ≤ size
