-- The call, and its answer as hosts see it.
use mathlib.Core.Path.{ap, ◌∙◌}
use Rattle.code.specs.Calls.{weigh_call}
use Rattle.answers.specs.Answers.{number_answer}
use Rattle.answers.proofs.Hosts.{call_told}
use Rattle.dohvrin.proofs.dohvrin_weigh.Goals as goal

pub returns : goal.returns
returns c = call_told (λ w. w) number_answer c.weigh.result c.into.ensures (c.weigh.ensures ∙ ap (weigh_call _) c.make.ensures)
