-- The word with the digits' mark, the digits, the number, the line's end.
use native.Mathlib.Omega.{arith}
use Prim.Native.Nat.{◌≤◌}
use mathlib.Core.Path.{refl, sym}
use lib.ListN.{length}
use Rattle.lines.specs.Lines.{numeral}
use Rattle.lines.proofs.Puts.{put_byte, put_as, put_most, joined}
use Rattle.lines.proofs.Pieces.{polynomial_line_lem}
use Rattle.lines.proofs.Sizes.{number_short}
use Rattle.lines.proofs.put_polynomial.Goals as goal

pub put_digits-after_digits-requires : goal.put_digits-after_digits-requires
put_digits-after_digits-requires c =
    let short : length (numeral 16 c.args.polynomial) ≤ 22 = number_short 16 _ (omega arith) (omega arith) in
    record { not_below = omega arith; at_most_16 = omega arith; room = omega arith }

pub put_numbers-after_shared-requires : goal.put_numbers-after_shared-requires
put_numbers-after_shared-requires c =
    let short : length (numeral 16 c.args.polynomial) ≤ 22 = number_short 16 _ (omega arith) (omega arith) in
    record { not_below = omega arith; at_most_16 = omega arith; room = omega arith }

pub bounds-buffer-after_shared : goal.bounds-buffer-after_shared
bounds-buffer-after_shared c =
    let short : length (numeral 16 c.args.polynomial) ≤ 22 = number_short 16 _ (omega arith) (omega arith) in
    omega arith

pub overflow_add-result : goal.overflow_add-result
overflow_add-result c =
    let short : length (numeral 16 c.args.polynomial) ≤ 22 = number_short 16 _ (omega arith) (omega arith) in
    omega arith

pub returns : goal.returns
returns c =
    let short : length (numeral 16 c.args.polynomial) ≤ 22 = number_short 16 _ (omega arith) (omega arith) in
    let last = c.put_numbers-after_shared in
    let end = put_byte last.new.buffer last.result 10 refl in
    let all = joined c.put_bytes-after_first.ensures (joined c.put_digits-after_digits.ensures (joined last.ensures end)) in
    put_as (sym (polynomial_line_lem _ _)) (put_most 52 all (omega (arith, all.short)))
