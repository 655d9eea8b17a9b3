-- Each turn reads an event of the table and notes it in the work area.
use Rattle.chains.proofs.survey.Invariants.Turns.{left_again, all_noted}
use Rattle.chains.proofs.survey.Goals as goal

pub loop-k-preserved : goal.loop-k-preserved
loop-k-preserved c = left_again _ _ _ _ c.loop-k.invariant c.loop-k-test.true c.event_at-e.ensures c.note.ensures

pub returns : goal.returns
returns c = all_noted _ _ _ _ c.loop-k.invariant c.loop-k-test.false
