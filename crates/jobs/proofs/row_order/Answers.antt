-- The order with the length of the row.
use Rattle.jobs.specs.Model.Steps.{row_order}
use Rattle.jobs.proofs.row_order.Goals as goal

pub returns : goal.returns
unfolding row_order
returns c = c.with_length.ensures
