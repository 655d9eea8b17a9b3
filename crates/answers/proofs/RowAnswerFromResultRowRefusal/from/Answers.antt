use Rattle.answers.specs.Answers.{row_answer}
use Rattle.answers.proofs.RowAnswerFromResultRowRefusal.from.Goals as goal

pub returns-in-Ok : goal.returns-in-Ok
unfolding row_answer
returns-in-Ok c = rw c.in-Ok.is

pub returns-in-Err : goal.returns-in-Err
unfolding row_answer
returns-in-Err c = rw (c.in-Err.is, c.from.ensures)
