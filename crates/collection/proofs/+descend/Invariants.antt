-- The steps left grow fewer; the loop stands as `Descent` says.
pub mod Descent
use Rattle.collection.proofs.+descend.Given as goal
use Rattle.collection.proofs.+descend.Invariants.Descent.{Stage}

abbrev pub decreases-descend : goal.decreases-descend
decreases-descend l = l.node.left

abbrev pub invariant-loop-what : goal.invariant-loop-what
invariant-loop-what l = Stage record { ys = l.fn.work; node = l.fn.node; l = l.fn.table; at = l.fn.at } l.next l.here l.table l.what

abbrev pub decreases-loop-what : goal.decreases-loop-what
decreases-loop-what l = l.here.left
