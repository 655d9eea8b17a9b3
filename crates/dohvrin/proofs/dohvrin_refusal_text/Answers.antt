-- The call, and its answer as hosts see it.
use Rattle.answers.specs.Answers.{number_answer}
use Rattle.answers.proofs.Hosts.{call_told_with}
use Rattle.dohvrin.proofs.dohvrin_refusal_text.Goals as goal

pub returns : goal.returns
returns c = call_told_with (λ n. n) number_answer _ c.write_refusal.result c.into.ensures c.write_refusal.ensures
