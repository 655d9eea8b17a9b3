-- Its plan is called.
use Rattle.quote.specs.Calls.{quote_call}
use Rattle.quote.proofs.Quoted.{quote_sound}
use Rattle.quote.proofs.quote.Goals as goal

pub call-requires : goal.call-requires
call-requires c = rw c.quoting-plan.ensures.call (quote_sound _ _)

pub returns : goal.returns
unfolding quote_call
returns c = rw c.quoting-plan.ensures.call at c.call.ensures
