-- What is left of a search once its tables are given up (a model).
-- Assumes nothing.
use Rattle.std.specs.Prelude.{ℕ, List}
use Rattle.order.specs.Answer.{Answer}
use Rattle.row.specs.declared.Row.{Row}
use Rattle.jobs.specs.Jobs.{SearchTables}

-- the answer, the plain counts, the undetected counts
abbrev pub Counted : Type 0
Counted = Answer Row × (List ℕ × List ℕ)

unfoldable pub counted : Answer Row × SearchTables → Counted
counted s = (s.0, (s.1.plain, s.1.undetected))
