-- It is safe: what is printed lies in the buffer.
use Rattle.std.proofs.Common.{sym}
use lib.Seq.{length-take-le}
use Rattle.print.proofs.Shown.{size_within}
use Rattle.dso.proofs.main.Goals as goal

pub slice_bounds-text-end : goal.slice_bounds-text-end
slice_bounds-text-end c = let p = c.print-size.ensures in size_within _ _ _ _ p.0 p.1

pub slice_bounds-write_all-end : goal.slice_bounds-write_all-end
slice_bounds-write_all-end c = let p = c.print-size.ensures in sym (length-take-le _ _ (size_within _ _ _ _ p.0 p.1))
