-- The call, and its answer as hosts see it.
use mathlib.Core.Path.{ap, ◌∙◌}
use Rattle.poly.specs.Word.{number}
use Rattle.crc.specs.Check.{append_call}
use Rattle.answers.specs.Answers.{word_answer}
use Rattle.answers.proofs.Hosts.{call_told}
use Rattle.dohvrin.proofs.dohvrin_append.Goals as goal

pub returns : goal.returns
returns c = call_told number word_answer c.append.result c.into.ensures (c.append.ensures ∙ ap (append_call _ _ _) c.make.ensures)
