-- The call, and its answer as hosts see it.
use mathlib.Core.Path.{ap, ◌∙◌}
use Rattle.crc.specs.Answers.{divisibility}
use Rattle.crc.specs.Check.{test_call}
use Rattle.answers.specs.Answers.{tested_answer}
use Rattle.answers.proofs.Hosts.{call_told}
use Rattle.dohvrin.proofs.dohvrin_test.Goals as goal

pub returns : goal.returns
returns c = call_told divisibility tested_answer c.test.result c.into.ensures (c.test.ensures ∙ ap (test_call _ _ _) c.make.ensures)
