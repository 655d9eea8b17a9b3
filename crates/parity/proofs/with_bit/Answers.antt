-- The bit goes into the half that its place lies in.
use native.Mathlib.Omega.{arith}
use Rattle.parity.proofs.Rows.{low_fits, low_set, high_fits, high_set}
use Rattle.parity.proofs.with_bit.Goals as goal

pub overflow_add-result : goal.overflow_add-result
overflow_add-result c = record { fits = low_fits c.args.w.high _ _ _ c.requires.below (omega arith) }

pub returns-then-j-lt64 : goal.returns-then-j-lt64
returns-then-j-lt64 c = let asked = c.requires in low_set _ _ _ _ asked.below (omega arith) asked.digit

pub overflow_add-result-2 : goal.overflow_add-result-2
overflow_add-result-2 c =
    let s = c in
    record { fits = high_fits _ s.args.w.low _ _ s.requires.below (omega arith) s.requires.place }

pub returns : goal.returns
returns c =
    let asked = c.requires in
    high_set _ _ _ _ asked.below (omega arith) asked.place asked.digit
