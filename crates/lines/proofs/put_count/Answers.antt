-- The line of three numbers.
use native.Mathlib.Omega.{arith}
use Rattle.lines.proofs.Puts.{put_as, put_most}
use Rattle.lines.proofs.Pieces.{count-line}
use Rattle.lines.proofs.Sizes.{count_short}
use Rattle.lines.proofs.put_count.Goals as goal

pub returns : goal.returns
returns c =
    let a = c.args in
    let plain = (c.type_inv.plain a.k).fits in
    let undetected = (c.type_inv.undetected a.k).fits in
    put_as (count-line a.plain.now a.undetected.now a.k) (put_most 51 c.put_line.ensures (count_short _ _ _ (omega arith) plain undetected))
