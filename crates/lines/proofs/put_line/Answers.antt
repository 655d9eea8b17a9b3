-- The word, the numbers, the line's end.
use native.Mathlib.Omega.{arith}
use Prim.Native.Nat.{◌+◌, ◌*◌}
use mathlib.Core.Path.{refl, sym}
use lib.ListN.{length}
use Rattle.lines.proofs.Puts.{put_byte, put_as, put_most, joined}
use Rattle.lines.proofs.Pieces.{decimal-line}
use Rattle.lines.proofs.put_line.Goals as goal

pub put_numbers-after_numbers-requires : goal.put_numbers-after_numbers-requires
put_numbers-after_numbers-requires c = record { not_below = omega arith; at_most_16 = omega arith; room = omega arith }

pub returns : goal.returns
returns c =
    let a = c.args in
    let last = c.put_numbers-after_numbers in
    let all = joined c.put_bytes-after_first.ensures (joined last.ensures (put_byte last.new.buffer last.result 10 refl)) in
    let within = put_most (length a.first.now + 23 * length a.numbers.now + 1) all (omega (arith, all.short)) in
    put_as (sym (decimal-line a.first.now a.numbers.now)) within
