-- The work area while events are collected, and what fills it, word by word.
--     t * row_words + s / 8       byte s % 8: a weight that every walk of t steps from the state at hand to s, through states above it, has at least
--     steps_place + 2 * p + b     what the step from p with input b weighs
--     length_place, threshold_place, half_place     the length at hand, the threshold, and 2 ^ (v - 1)
-- Assumes nothing.
use Rattle.std.specs.Prelude.{ℕ, zero, suc, ◌+◌, ◌-◌, ◌*◌, ◌/◌, ◌%◌, ◌^◌, ◌≤◌, ◌<◌, min, cond, List, [], ◌∷◌, leb, eqb, length, get_or, set}
use Rattle.code.specs.Trellis.{step_weight}
use Rattle.code.specs.Model.Steps.{most_steps}

-- ---- the places

-- a row, one for each step, has the least weights of all states, eight to a word
abbrev pub row_words : ℕ
row_words = 32

-- a step for each state and input
abbrev pub step_count : ℕ
step_count = 512

abbrev pub steps_place : ℕ
steps_place = 4608

abbrev pub length_place : ℕ
length_place = 5120

abbrev pub threshold_place : ℕ
threshold_place = 5121

abbrev pub half_place : ℕ
half_place = 5122

-- the first word of each region, and how many it has
abbrev pub regions : List (ℕ × ℕ)
regions = (0, steps_place) ∷ (steps_place, step_count) ∷ (length_place, 1) ∷ (threshold_place, 1) ∷ (half_place, 1) ∷ []

-- the words that they take, of the work area's
abbrev pub tables_end : ℕ
tables_end = half_place + 1

-- what is kept for a state that no such walk leads to: no event weighs so much
abbrev pub no_walk : ℕ
no_walk = 64

unfoldable pub need : List ℕ → ℕ → ℕ → ℕ
need work t s = get_or work (t * row_words + s / 8) 0 / 2 ^ (s % 8 * 8) % 256

abbrev pub step_at : List ℕ → ℕ → ℕ → ℕ
step_at work p b = get_or work (steps_place + 2 * p + b) 0

abbrev pub length_at : List ℕ → ℕ
length_at work = get_or work length_place 0

abbrev pub threshold_at : List ℕ → ℕ
threshold_at work = get_or work threshold_place 0

abbrev pub half_at : List ℕ → ℕ
half_at work = get_or work half_place 0

-- ---- the least weights, of the state i

-- to a state by way of p, t steps away, and input b
unfoldable pub through : List ℕ → ℕ → ℕ → ℕ → ℕ
through work t p b = need work t p + step_at work p b

-- to s in t steps
unfoldable pub least_to : List ℕ → ℕ → ℕ → ℕ → ℕ
least_to work i zero s = cond (eqb s i) 0 no_walk
least_to work i (suc t) s = cond (leb s i) no_walk (min no_walk (min (through work t (s / 2) (s % 2)) (through work t (s / 2 + half_at work) (s % 2))))

-- n of them from s on as the bytes of a number, the first lowest
unfoldable pub packed : List ℕ → ℕ → ℕ → ℕ → ℕ → ℕ
packed work i t zero s = 0
packed work i t (suc n) s = least_to work i t s + 256 * packed work i t n (s + 1)

-- n words of row t from word q on
unfoldable pub row_from : ℕ → ℕ → ℕ → ℕ → List ℕ → List ℕ
row_from i t zero q work = work
row_from i t (suc n) q work = row_from i t n (q + 1) (set work (t * row_words + q) (packed work i t 8 (q * 8)))

-- n rows of so many words from row t on
unfoldable pub rows_from : ℕ → ℕ → ℕ → ℕ → List ℕ → List ℕ
rows_from i words zero t work = work
rows_from i words (suc n) t work = rows_from i words n (t + 1) (row_from i t words 0 work)

-- ---- what is done once, and for each state and length

-- the weights of n steps from step x on
unfoldable pub weights_from : List ℕ → ℕ → ℕ → List ℕ → List ℕ
weights_from gs zero x work = work
weights_from gs (suc n) x work = weights_from gs n (x + 1) (set work (steps_place + x) (step_weight gs (x / 2) (x % 2)))

unfoldable pub prepared : List ℕ → ℕ → ℕ → List ℕ → List ℕ
prepared gs v d work = weights_from gs step_count 0 (set (set work threshold_place d) half_place (2 ^ (v - 1)))

-- turn k is of state k / steps and length k % steps + 1, of words of so many steps; the first length of a state comes with its table
unfoldable pub turned : ℕ → ℕ → ℕ → List ℕ → List ℕ
turned words steps k work =
    cond (eqb (k % steps) 0) (rows_from (k / steps) words steps 0 (set work length_place (k % steps + 1))) (set work length_place (k % steps + 1))

-- ---- what the functions ask: the numbers kept are small, and so are row and state

pub record Tables (work : List ℕ) : Type 0 where
  pub enough : tables_end ≤ length work
  pub half_small : half_at work ≤ 128
  pub steps_small : (x : ℕ) → x < step_count → get_or work (steps_place + x) 0 ≤ 4

-- of the least weight of row t and state s
pub record Entry (work : List ℕ) (t s : ℕ) : Type 0 where
  pub tables : Tables work
  pub row : t ≤ most_steps
  pub state : s < 256

-- of the step from p with input b
pub record Step (work : List ℕ) (p b : ℕ) : Type 0 where
  pub tables : Tables work
  pub state : p < 256
  pub input : b < 2

-- of the first words of so many rows
pub record Rows (work : List ℕ) (words rows : ℕ) : Type 0 where
  pub tables : Tables work
  pub narrow : words ≤ row_words
  pub few : rows ≤ most_steps

-- of the tables before they are prepared
pub record Unprepared (gs : List ℕ) (v : ℕ) (work : List ℕ) : Type 0 where
  pub few : length gs ≤ 4
  pub some_memory : 1 ≤ v
  pub small_memory : v ≤ 8
  pub enough : tables_end ≤ length work
