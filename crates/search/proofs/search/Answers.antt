-- Its plan is called.
use Rattle.std.proofs.Common.{refl}
use native.Mathlib.Nat.{le_refl}
use Rattle.order.specs.Order.{everything}
use Rattle.jobs.specs.declared.Job.TheVariants as J
use Rattle.search.specs.Calls.{search_call}
use Rattle.search.proofs.Plans.{own_told, own_sound}
use Rattle.search.proofs.search.Goals as goal

pub call-requires : goal.call-requires
call-requires c = own_sound everything J.Choose _ c.choosing-plan.result c.choosing-plan.ensures.call (le_refl 2) (le_refl 128) refl refl

pub returns : goal.returns
unfolding search_call
returns c = own_told everything J.Choose _ c.choosing-plan.result c.choosing-plan.ensures.call (λ x. x) _ c.call.ensures
