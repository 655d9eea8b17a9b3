-- The first node, or the weight so far and the least weight.
use Rattle.collection.proofs.Nodes.{goes_root, goes_below, sum_fits}
use Rattle.collection.proofs.goes_on.Goals as goal

pub returns-then-node-work : goal.returns-then-node-work
returns-then-node-work c = goes_root _ _ c.if-node-work.true

pub overflow_add-result : goal.overflow_add-result
overflow_add-result c = record { fits = sum_fits _ _ _ c.requires.1 c.need_at.ensures }

pub returns : goal.returns
returns c = goes_below _ _ _ c.if-node-work.false c.need_at.ensures
