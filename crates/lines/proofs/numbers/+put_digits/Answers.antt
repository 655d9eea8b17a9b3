-- The last digit follows the digits of the quotient.
use Rattle.std.proofs.Common.{arith}
use native.Mathlib.Nat.{div-lt_self}
use Rattle.lines.proofs.Puts.{put_same_length, one_digit, put_one, one_digit_more, put_last}
use Rattle.lines.proofs.numbers.+put_digits.Goals as goal

-- ---- one digit

pub bounds-buffer-at : goal.bounds-buffer-at
bounds-buffer-at t c = omega (arith, one_digit c.if-x-base.true)

pub returns-then-x-base : goal.returns-then-x-base
returns-then-x-base t c = put_one _ _ c.if-x-base.true c.digit_of.ensures

-- ---- more digits

pub put_digits-last-requires : goal.put_digits-last-requires
put_digits-last-requires t c =
    let asked = c.requires in
    let less = div-lt_self {n = c.args.x} {k = c.args.base} (omega arith) (omega arith) in
    let more = one_digit_more asked.not_below c.if-x-base.false in
    (omega arith, record { not_below = asked.not_below; at_most_16 = asked.at_most_16; room = omega arith })

pub bounds-buffer-last : goal.bounds-buffer-last
bounds-buffer-last t c =
    let more = one_digit_more c.requires.not_below c.if-x-base.false in
    omega (arith, more, put_same_length c.put_digits-last.ensures)

pub overflow_add-result-2 : goal.overflow_add-result-2
overflow_add-result-2 t c = let more = one_digit_more c.requires.not_below c.if-x-base.false in omega arith

pub returns : goal.returns
returns t c = put_last c.requires.not_below c.if-x-base.false c.put_digits-last.ensures c.digit_of-2.ensures
