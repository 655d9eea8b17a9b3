-- The places of the work area while events are joined to chains: where each table begins, and how many numbers it has (a model: what the code computes).
-- Assumes nothing.
use Rattle.std.specs.Prelude.{ℕ, ◌+◌, List, [], ◌∷◌}
use Rattle.code.specs.Model.Steps.{most_steps}

-- ---- how much there is at most: a length, and the steps of a chain, are at most the steps of a word

-- the lengths, 0 among them
abbrev pub length_count : ℕ
length_count = most_steps + 1

abbrev pub state_count : ℕ
state_count = 256

-- more than any chain may weigh
abbrev pub too_heavy : ℕ
too_heavy = 255

-- ---- where each table begins

-- the place in the event table of the first event of each state or above
abbrev pub first_place : ℕ
first_place = 0

-- while events are noted: the place after the last one of each state
abbrev pub state_end_place : ℕ
state_end_place = 512

-- a weight that no event of each length, of the state at hand, is below; `too_heavy` at most
abbrev pub least_place : ℕ
least_place = 1024

-- while events are noted: the place after the last one of each length
abbrev pub length_end_place : ℕ
length_end_place = 1280

-- the place of the first event of each length or above, of the state at hand
abbrev pub start_place : ℕ
start_place = 1536

-- a weight that no chain of each number of steps, of the state at hand, is below; `too_heavy` at most
abbrev pub fill_place : ℕ
fill_place = 1792

-- the steps of a word
abbrev pub bits_place : ℕ
bits_place = 2048

-- the place after the last event of the state at hand
abbrev pub end_place : ℕ
end_place = 2049

-- 0; or, where the first event of the state at hand is the zero loop and no other has length 1, a weight that no other event of the state is below
abbrev pub light_place : ℕ
light_place = 2050

-- a weight that no word whose smallest state is each state is below, once its events were joined; 0 before
abbrev pub whole_place : ℕ
whole_place = 2051

-- the numbers that the tables take
abbrev pub area_size : ℕ
area_size = whole_place + state_count

-- ---- the tables as regions

pub record Region : Type 0 where
  pub start : ℕ
  pub size : ℕ

abbrev pub firsts : Region
firsts = record { start = first_place; size = state_count + 1 }

abbrev pub state_ends : Region
state_ends = record { start = state_end_place; size = state_count }

abbrev pub leasts : Region
leasts = record { start = least_place; size = length_count }

abbrev pub length_ends : Region
length_ends = record { start = length_end_place; size = length_count }

abbrev pub starts : Region
starts = record { start = start_place; size = length_count + 1 }

abbrev pub fills : Region
fills = record { start = fill_place; size = length_count }

abbrev pub bits_cell : Region
bits_cell = record { start = bits_place; size = 1 }

abbrev pub end_cell : Region
end_cell = record { start = end_place; size = 1 }

abbrev pub light_cell : Region
light_cell = record { start = light_place; size = 1 }

abbrev pub wholes : Region
wholes = record { start = whole_place; size = state_count }

abbrev pub regions : List Region
regions = firsts ∷ state_ends ∷ leasts ∷ length_ends ∷ starts ∷ fills ∷ bits_cell ∷ end_cell ∷ light_cell ∷ wholes ∷ []
