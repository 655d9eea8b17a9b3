-- What leaves the low half comes into the high one, and nothing leaves the high one.
use native.Mathlib.Omega.{arith}
use Rattle.poly.proofs.Shifts.{up_high_fits, up_halves}
use Rattle.poly.proofs.word.shift_up.Goals as goal

pub overflow_add-result : goal.overflow_add-result
overflow_add-result c =
    let s = c in
    let a = s.args in
    record { fits = up_high_fits a.w.high a.w.low a.m (omega arith) s.requires.fits }

pub returns : goal.returns
returns c =
    let s = c in
    let a = s.args in
    up_halves a.w.high a.w.low a.m (omega arith) s.requires.fits
