use native.Mathlib.Omega.{arith}
use Rattle.answers.proofs.Hosts.{word_halves}
use Rattle.answers.proofs.HostAnswerFromWord.from.Goals as goal

pub returns : goal.returns
returns c = word_halves _ _ (omega arith)
