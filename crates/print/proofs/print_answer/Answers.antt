-- The row, or a refusal.
use mathlib.Core.Path.{sym}
use Rattle.text.specs.Text.{answer_text}
use Rattle.print.proofs.print_answer.Goals as goal

pub lay_refusal-requires : goal.lay_refusal-requires
lay_refusal-requires c = c.requires.1

pub returns-in-Ok : goal.returns-in-Ok
unfolding answer_text
returns-in-Ok c = rw c.in-Ok.is c.lay_row.ensures

pub returns-in-Err : goal.returns-in-Err
unfolding answer_text
returns-in-Err c = rw (c.in-Err.is, sym c.from.ensures) c.lay_refusal.ensures
