-- The word is stored in two halves where its place is in the table.
use native.Mathlib.Omega.{arith}
use Rattle.rotations.proofs.Puts.{put-stored, put_refused}
use Rattle.rotations.proofs.push.Goals as goal

pub returns-then-at-room : goal.returns-then-at-room
returns-then-at-room c = let a = c.args in put-stored a.w.high a.w.low a.table.now a.at (omega arith) (omega arith)

pub returns : goal.returns
returns c = let a = c.args in put_refused _ a.table.now a.at (omega arith)
