-- The invariant: the least weight of the lengths from 2 to below l.
use Prim.Native.Nat.{◌-◌}
use mathlib.Core.Path.{◌≡◌}
use Rattle.bounds.specs.Model.Tables.{lightest}
use Rattle.bounds.proofs.lightest.Given as goal

abbrev pub invariant-loop-l : goal.invariant-loop-l
invariant-loop-l l = l.least ≡ lightest l.work (l.l - 2)
