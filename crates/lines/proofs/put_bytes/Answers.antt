use native.Mathlib.Omega.{arith}
use Rattle.lines.proofs.Puts.{put_part}
use Rattle.lines.proofs.put_bytes.Goals as goal

pub returns : goal.returns
returns c = let a = c.args in put_part a.buffer.now a.bytes.now a.at _ c.requires (omega arith) c.copy_from_slice.ensures.after
