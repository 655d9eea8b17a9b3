-- The first weights of one more length go on top.
use Rattle.order.specs.Answers.{order_in}
use Rattle.lengths.proofs.note.Goals as goal

pub invariant_of-listing : goal.invariant_of-listing
unfolding order_in
invariant_of-listing c = rw c.counted_weights-entries.ensures (record { readable = c.requires.readable })

pub add_firsts-requires : goal.add_firsts-requires
unfolding order_in
add_firsts-requires c = rw c.counted_weights-entries.ensures c.requires.firsts

pub returns : goal.returns
unfolding order_in
returns c = rw c.counted_weights-entries.ensures at c.add_firsts.ensures
