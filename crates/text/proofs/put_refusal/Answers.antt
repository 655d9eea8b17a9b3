-- One number.
use native.Mathlib.Omega.{arith}
use Rattle.lines.proofs.Puts.{put_most}
use Rattle.text.specs.Text.{refusal_text}
use Rattle.lines.specs.Lines.{wNO}
use Rattle.text.proofs.put_refusal.Goals as goal

pub returns : goal.returns
unfolding wNO refusal_text
returns c = let p = c.put_line.ensures in put_most 4096 p (omega (arith, p.short))
