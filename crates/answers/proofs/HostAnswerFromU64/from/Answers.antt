use mathlib.Core.Path.{refl}
use Rattle.answers.specs.Answers.{number_answer}
use Rattle.answers.proofs.HostAnswerFromU64.from.Goals as goal

pub returns : goal.returns
unfolding number_answer
returns c = refl
