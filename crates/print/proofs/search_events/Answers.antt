-- The plan of the search is run: its questions have been asked.
use Rattle.std.proofs.Common.{refl, sym, replicate}
use native.Mathlib.Nat.{le_refl}
use Rattle.order.specs.Order.{everything}
use Rattle.events.specs.Events.{no_event}
use Rattle.jobs.specs.declared.Job.TheVariants as J
use Rattle.jobs.specs.Jobs.{SearchTables, search_tables}
use Rattle.calls.proofs.Accepts.{to_make}
use Rattle.calls.proofs.Outcomes.{as_called}
use Rattle.search.specs.Calls.{search_questions, search_call}
use Rattle.search.proofs.Plans.{own_told, own_sound}
use Rattle.print.specs.Model.Steps.{counted}
use Rattle.print.proofs.search_events.Goals as goal

pub run-requires : goal.run-requires
unfolding search_questions
run-requires c = λ z.
    let plan = c.choosing-plan.result in
    let planned = c.choosing-plan.ensures.call in
    to_make plan c.args.plain.now c.args.undetected.now c.args.work.now
    (own_sound everything J.Choose _ plan planned (le_refl 2) (le_refl 128) refl refl) (rw planned c.requires)

pub returns : goal.returns
unfolding counted search_call search_questions no_event
returns c =
    let t : SearchTables = search_tables (replicate 512 no_event) c.args.paths.now c.args.plain.now c.args.undetected.now c.args.work.now in
    let plan = c.choosing-plan.result in
    let planned = c.choosing-plan.ensures.call in
    own_told everything J.Choose _ plan planned counted t (as_called plan t 0 (rw planned (sym c.requires)) _ c.run.ensures)
