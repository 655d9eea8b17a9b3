-- The invariant: the words of entry j begin at the place reached, and the counts of the entries before j stand in the list.
use mathlib.Core.Path.{◌≡◌}
use Rattle.paths.specs.Part.{paths_to}
use Rattle.undetected.specs.Model.Steps.{counted_from}
use Rattle.undetected.proofs.count_from.Given as goal

abbrev pub invariant-loop-j : goal.invariant-loop-j
invariant-loop-j l =
    (l.at ≡ paths_to l.listing.plain.now l.j) × (l.undetected ≡ counted_from l.m l.p l.listing.table.now l.listing.plain.now l.first l.j l.initial.undetected)
