-- The places, then the least weights.
use Rattle.bounds.specs.Model.Tables.{closed}
use Rattle.bounds.proofs.Kept.{small_carried}
use Rattle.bounds.proofs.close_state.Goals as goal

pub fill-requires : goal.fill-requires
fill-requires c = rw c.carry.ensures (small_carried _ _ c.requires)

pub returns : goal.returns
unfolding closed
returns c = rw c.carry.ensures at c.fill.ensures
