-- The invariant: the value up to the item at hand, and the rest as it was.
use Rattle.lists.proofs.Stores.{Filled}
use Rattle.lists.proofs.clear.Given as goal

abbrev pub invariant-loop-item : goal.invariant-loop-item
invariant-loop-item g l = Filled l.value l.initial.item-items l.item-items l.item-index
