-- Its plan is called.
use Rattle.std.proofs.Common.{refl}
use native.Mathlib.Nat.{le_refl}
use Rattle.order.specs.Order.{everything}
use Rattle.jobs.specs.declared.Job.TheVariants as J
use Rattle.search.specs.Calls.{count_call}
use Rattle.search.proofs.Plans.{own_told, own_sound}
use Rattle.search.proofs.count.Goals as goal

pub call-requires : goal.call-requires
call-requires c = own_sound everything (J.Count c.args.p) _ c.of_own_length-plan.result c.of_own_length-plan.ensures.call (le_refl 2) (le_refl 128) refl refl

pub returns : goal.returns
unfolding count_call
returns c = own_told everything (J.Count c.args.p) _ c.of_own_length-plan.result c.of_own_length-plan.ensures.call (λ x. x) _ c.call.ensures
