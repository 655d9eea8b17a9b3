use Rattle.answers.specs.Answers.{stripped_answer}
use Rattle.answers.proofs.HostAnswerFromStripping.from.Goals as goal

pub returns-in-Message : goal.returns-in-Message
unfolding stripped_answer
returns-in-Message c = rw (c.from.ensures, c.in-Message.is)

pub returns-in-Damaged : goal.returns-in-Damaged
unfolding stripped_answer
returns-in-Damaged c = rw (c.from-in-Damaged.ensures, c.in-Damaged.is)
