-- The invariant: the flags before k are up where the rank is the largest.
use mathlib.Core.Bool.{false}
use lib.Dec.{leb}
use lib.ListN.{get_or}
use Rattle.narrowing.proofs.Written.{Written}
use Rattle.narrowing.proofs.keep_largest.Given as goal

abbrev pub invariant-loop-k : goal.invariant-loop-k
invariant-loop-k l = Written false (λ j. leb l.largest (get_or l.ranks j 0)) 2048 l.kept l.k
