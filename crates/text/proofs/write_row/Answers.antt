-- A refusal that is handed back is written by its number.
use Rattle.text.specs.Text.{answer_text}
use Rattle.text.specs.Calls.{answer_questions, row_call, refusal_call}
use Rattle.text.proofs.write_row.Goals as goal

pub returns-in-Err : goal.returns-in-Err
unfolding row_call answer_questions answer_text refusal_call
returns-in-Err c = rw (c.in-Err.is, c.write_refusal.ensures)
