-- Half the word, and its lowest bit put on top: in the low half, or in the high one.
use native.Mathlib.Omega.{arith}
use Rattle.rotations.proofs.OneTurn.{short_fits, short_turn, long_turn}
use Rattle.rotations.proofs.turn_back.Goals as goal

pub overflow_add-result : goal.overflow_add-result
overflow_add-result c =
    let p = c.requires in
    record { fits = short_fits _ _ _ p.some_bits p.fits (omega arith) }

pub returns-then-bits-le64 : goal.returns-then-bits-le64
returns-then-bits-le64 c =
    let p = c.requires in
    short_turn _ _ _ p.some_bits p.fits (omega arith)

pub returns : goal.returns
returns c =
    let p = c.requires in
    long_turn _ _ _ p.fits (omega arith) p.at_most_128
