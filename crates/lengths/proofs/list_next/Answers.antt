-- The path table is filled, and the first weights are noted where it took all paths.
use Rattle.order.specs.Answers.{order_in}
use Rattle.lengths.proofs.Listed.{to_note}
use Rattle.lengths.proofs.list_next.Goals as goal

pub note-requires : goal.note-requires
unfolding order_in
note-requires c = to_note c.requires c.in_ok-fill.ensures.inside
