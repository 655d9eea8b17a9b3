-- It asks, and the plan is run.
use Rattle.std.proofs.Common.{sym, ◌∙◌}
use Rattle.jobs.specs.Lent.{lent}
use Rattle.calls.proofs.Accepts.{to_make}
use Rattle.calls.proofs.Outcomes.{as_called}
use Rattle.calls.proofs.call.Goals as goal

pub run-answer-requires : goal.run-answer-requires
run-answer-requires c = λ z. to_make c.args.plan c.args.tables.plain.now c.args.tables.undetected.now c.args.tables.work.now c.requires (sym c.ask-why.ensures ∙ z)

pub returns : goal.returns
returns c = as_called c.args.plan (lent c.args.tables) _ c.ask-why.ensures _ c.run-answer.ensures
