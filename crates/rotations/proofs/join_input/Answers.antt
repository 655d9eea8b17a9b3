-- The input as it is, across both halves, or in the high half alone.
use native.Mathlib.Omega.{arith}
use Rattle.poly.proofs.Shifts.{up_high_fits}
use Rattle.rotations.proofs.Joining.{low_fits, joined_low, above_fits, joined_above}
use Rattle.rotations.proofs.join_input.Goals as goal

pub overflow_add-result : goal.overflow_add-result
overflow_add-result c =
    let start = c in
    record { fits = low_fits start.args.input.high _ _ _ _ (omega arith) start.requires.below }

pub overflow_add-result-then-place-lt64 : goal.overflow_add-result-then-place-lt64
overflow_add-result-then-place-lt64 c = record { fits = up_high_fits _ _ _ (omega arith) c.requires.fits }

pub returns-then-place-lt64 : goal.returns-then-place-lt64
returns-then-place-lt64 c =
    let p = c.requires in
    joined_low _ _ _ _ _ (omega arith) p.below p.fits

pub overflow_add-result-2 : goal.overflow_add-result-2
overflow_add-result-2 c =
    let start = c in
    let p = start.requires in
    record { fits = above_fits _ _ _ _ _ (omega arith) p.fits (omega arith) p.below }

pub returns : goal.returns
returns c = joined_above _ _ _ _ _ (omega arith) c.requires.fits
