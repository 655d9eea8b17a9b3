-- The call, and its answer as hosts see it.
use mathlib.Core.Path.{ap, ◌∙◌}
use Rattle.crc.specs.Answers.{stripping_as}
use Rattle.crc.specs.Check.{strip_call}
use Rattle.answers.specs.Answers.{stripped_answer}
use Rattle.answers.proofs.Hosts.{call_told}
use Rattle.dohvrin.proofs.dohvrin_strip.Goals as goal

pub returns : goal.returns
returns c = call_told stripping_as stripped_answer c.strip.result c.into.ensures (c.strip.ensures ∙ ap (strip_call _ _ _) c.make.ensures)
