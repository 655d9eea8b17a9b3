-- What one step of writing a line asks and leaves (a model): bytes stored from a place on, no more than so many, and the place after them.
-- Assumes nothing.
use Rattle.std.specs.Prelude.{ℕ, ◌+◌, ◌≤◌, ◌≡◌, length}
use mathlib.Core.List.{List, ◌∷◌, flat_map}
use Rattle.std.proofs.lemmas.List.Edits.{sets}
use Rattle.lines.specs.Lines.{numeral}

pub record Put (most : ℕ) (before : List ℕ) (at : ℕ) (text after : List ℕ) (end : ℕ) : Type 0 where
  pub stored : after ≡ sets before at text
  pub next : end ≡ at + length text
  pub short : length text ≤ most

-- ---- what is asked

-- room for so many bytes of digits, in a base that is not below the least
pub record ToPut (least base at most size : ℕ) : Type 0 where
  pub not_below : least ≤ base
  pub at_most_16 : base ≤ 16
  pub room : at + most ≤ size

-- so many entries of both counts: entry k is of weight k + 1, which has two digits at most
pub record Counts (entries plain undetected : ℕ) : Type 0 where
  pub at_most_63 : entries ≤ 63
  pub plain_counts_are : entries ≤ plain
  pub undetected_counts_are : entries ≤ undetected

-- and room for the lines of some of them
pub record ToPutCounts (entries plain undetected at most size : ℕ) : Type 0 where
  pub counts : Counts entries plain undetected
  pub room : at + most ≤ size

-- ---- what is put

-- numbers of one base, with a space before each
unfoldable pub spaced : ℕ → List ℕ → List ℕ
spaced base numbers = flat_map (λ x. 32 ∷ numeral base x) numbers
