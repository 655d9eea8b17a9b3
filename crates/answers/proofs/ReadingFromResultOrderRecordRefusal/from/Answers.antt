use Rattle.answers.specs.Answers.{no_order, reading}
use Rattle.answers.proofs.ReadingFromResultOrderRecordRefusal.from.Goals as goal

pub returns-in-Ok : goal.returns-in-Ok
unfolding reading
returns-in-Ok c = rw c.in-Ok.is

pub returns-in-Err : goal.returns-in-Err
unfolding reading no_order
returns-in-Err c = rw (c.in-Err.is, c.from.ensures)
