-- Its plan is called. An empty list is lent in the place of the undetected counts, which it does not take.
use Rattle.std.proofs.Common.{refl}
use native.Mathlib.Nat.{le_refl}
use Rattle.order.specs.Order.{and_threshold}
use Rattle.jobs.specs.declared.Job.TheVariants as J
use Rattle.search.specs.Calls.{path_tables, list_call}
use Rattle.search.proofs.Plans.{own_told, own_sound}
use Rattle.search.proofs.list.Goals as goal

pub call-requires : goal.call-requires
call-requires c = own_sound and_threshold J.List _ c.of_own_length-plan.result c.of_own_length-plan.ensures.call (le_refl 2) (le_refl 128) refl tt

pub returns : goal.returns
unfolding list_call
returns c = own_told and_threshold J.List _ c.of_own_length-plan.result c.of_own_length-plan.ensures.call (λ x. (x.0, path_tables x.1.events x.1.paths x.1.plain x.1.work)) _ c.call.ensures
