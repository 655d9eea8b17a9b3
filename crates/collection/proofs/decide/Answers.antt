-- It goes on or not.
use mathlib.Core.Path.{◌∙◌}
use mathlib.Core.Bool.{true, false}
use Rattle.collection.proofs.Nodes.{decided_goes}
use Rattle.collection.proofs.decide.Goals as goal

pub returns-then-not-goes_on : goal.returns-then-not-goes_on
returns-then-not-goes_on c = decided_goes _ _ _ _ false (cc)

pub returns : goal.returns
returns c = c.decide_last.ensures ∙ decided_goes _ _ _ _ true (cc)
