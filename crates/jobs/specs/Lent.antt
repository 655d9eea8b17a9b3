-- What is lent and what is left, as the definition's tables. At exit the references of a struct stand in nested pairs, in the order of its fields.
-- Assumes nothing.
use Rattle.std.specs.Prelude.{ℕ, List}
use Rattle.std.specs.Borrow.{MutBor}
use Rattle.events.specs.declared.Event.{Event}
use Rattle.jobs.specs.declared.Tables.{Tables}
use Rattle.jobs.specs.Jobs.{SearchTables, search_tables}

abbrev pub lent : Tables → SearchTables
lent t = search_tables t.events.now t.paths.now t.plain.now t.undetected.now t.work.now

abbrev pub left : MutBor (List Event) × (MutBor (List ℕ) × (MutBor (List ℕ) × (MutBor (List ℕ) × (MutBor (List ℕ) × Unit {0})))) → SearchTables
left t = search_tables t.0.now t.1.0.now t.1.1.0.now t.1.1.1.0.now t.1.1.1.1.0.now
