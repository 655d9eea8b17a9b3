use native.Mathlib.Omega.{arith}
use Rattle.lists.proofs.Stores.{Filled, filled_again}
use Rattle.lists.proofs.clear.Goals as goal

pub loop-item-preserved : goal.loop-item-preserved
loop-item-preserved g c = filled_again c.loop-item.invariant (let same = c.loop-item.invariant.same_size in omega arith)
