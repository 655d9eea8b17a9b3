-- Its plan is called. Empty lists are lent in the place of those that it does not take.
use Rattle.std.proofs.Common.{refl}
use native.Mathlib.Nat.{le_refl}
use Rattle.order.specs.Order.{and_threshold}
use Rattle.jobs.specs.declared.Job.TheVariants as J
use Rattle.search.specs.Calls.{event_tables, collect_call}
use Rattle.search.proofs.Plans.{own_told, own_sound}
use Rattle.search.proofs.collect.Goals as goal

pub call-requires : goal.call-requires
call-requires c = own_sound and_threshold J.Collect _ c.of_own_length-plan.result c.of_own_length-plan.ensures.call (le_refl 2) (le_refl 128) refl tt

pub returns : goal.returns
unfolding collect_call
returns c = own_told and_threshold J.Collect _ c.of_own_length-plan.result c.of_own_length-plan.ensures.call (λ x. (x.0, event_tables x.1.events x.1.work)) _ c.call.ensures
