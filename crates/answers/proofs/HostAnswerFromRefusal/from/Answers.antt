use Rattle.answers.specs.Answers.{refusal_answer}
use Rattle.answers.proofs.HostAnswerFromRefusal.from.Goals as goal

pub returns : goal.returns
unfolding refusal_answer
returns c = rw c.from.ensures
