-- What writing a text asks, and what it leaves (a model).
-- Assumes nothing.
use Rattle.std.specs.Prelude.{ℕ, ◌-◌, ◌≤◌, ◌≡◌, List, length}
use Rattle.lists.specs.Lists.{padded}
use Rattle.lines.specs.Model.Steps.{Counts}

-- a row of n generators: what questions 3, 7 and 10 let the call assume
pub record RowAccepted (n d plain undetected : ℕ) : Type 0 where
  pub at_most_4 : n ≤ 4
  pub counts : Counts (d - 1) plain undetected

-- the text, with zeros after it, and where it ends
pub record Laid (text before after : List ℕ) (end : ℕ) : Type 0 where
  pub whole : after ≡ padded (length before) 0 text
  pub size : end ≡ length text
