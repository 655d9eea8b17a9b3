-- The tables are zeros.
use Rattle.order.specs.Questions.{work_size}
use Rattle.print.proofs.search_paths.Goals as goal

pub search_events-requires : goal.search_events-requires
unfolding work_size
search_events-requires c = c.requires

pub returns : goal.returns
unfolding work_size
returns c = c.search_events.ensures
