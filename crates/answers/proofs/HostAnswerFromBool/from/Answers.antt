use mathlib.Core.Path.{ap, ◌∙◌}
use Rattle.answers.specs.Answers.{number_answer}
use Rattle.answers.proofs.Hosts.{test_told}
use Rattle.answers.proofs.HostAnswerFromBool.from.Goals as goal

pub returns : goal.returns
returns c = c.from-2.ensures ∙ ap number_answer c.from.ensures ∙ test_told c.args.divisible
