-- Words appended to a path table, two numbers a word, until it is known to be too small: then one more is counted than the table takes, and no more
-- are looked at. (A model: what the code computes.)
-- Assumes nothing.
use Rattle.std.specs.Prelude.{ℕ, ◌+◌, ◌*◌, ◌/◌, ◌%◌, ◌^◌, ◌≤◌, ◌<◌, ◌≢◌, cond, List, [], ◌∷◌, ltb, length, set}
use Rattle.paths.specs.Paths.{path_room}

-- the table with word u at place `at`
unfoldable pub stored : List ℕ → ℕ → ℕ → List ℕ
stored table at u = set (set table (2 * at) (u % 2 ^ 64)) (2 * at + 1) (u / 2 ^ 64)

-- one word more, and the place after it
unfoldable pub put : ℕ → List ℕ × ℕ → List ℕ × ℕ
put u s = cond (ltb s.1 (path_room (length s.0))) (stored s.0 s.1 u, s.1 + 1) (s.0, path_room (length s.0) + 1)

unfoldable pub puts : List ℕ → List ℕ × ℕ → List ℕ × ℕ
puts [] s = s
puts (u ∷ us) s = puts us (put u s)

-- a word that is emitted once is not turned; any other has at most 128 bits
abbrev pub ShortToTurn : ℕ → ℕ → Type 0
ShortToTurn first bits = first ≢ 1 → bits ≤ 128

-- what is asked to append a word's rotations to a table of so many numbers
pub record ToPushTurns (size at bits first u : ℕ) : Type 0 where
  pub near : at ≤ path_room size + 1
  pub some_bits : 0 < bits
  pub fits : u < 2 ^ bits
  pub short_to_turn : ShortToTurn first bits

-- and to set an input above the inputs before it, so many places up
pub record ToJoinInput (before input place : ℕ) : Type 0 where
  pub below : before < 2 ^ place
  pub fits : input * 2 ^ place < 2 ^ 128
