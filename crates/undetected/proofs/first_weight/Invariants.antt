-- The invariant: the words of entry i begin at the place reached, and p divides none before it.
use Rattle.undetected.proofs.Looking.{Looking}
use Rattle.undetected.proofs.first_weight.Given as goal

abbrev pub invariant-loop-i : goal.invariant-loop-i
invariant-loop-i l = Looking l.m l.p l.listing.table.now l.listing.plain.now l.from l.i
