-- The four cases.
use mathlib.Core.Bool.{true, false}
use Rattle.collection.proofs.Nodes.{ways_are}
use Rattle.collection.proofs.ways_on.Goals as goal

pub returns-in-true-true : goal.returns-in-true-true
returns-in-true-true c = ways_are _ _ _ true true (cc) (cc)

pub returns-in-true-false : goal.returns-in-true-false
returns-in-true-false c = ways_are _ _ _ true false (cc) (cc)

pub returns-in-false-true : goal.returns-in-false-true
returns-in-false-true c = ways_are _ _ _ false true (cc) (cc)

pub returns-in-false-false : goal.returns-in-false-false
returns-in-false-false c = ways_are _ _ _ false false (cc) (cc)
