-- The invariant: the bytes from the highest down to k are in the number.
use mathlib.Core.Path.{◌≡◌}
use Prim.Native.Nat.{◌+◌, ◌-◌, ◌*◌}
use Rattle.needed.specs.Model.Tables.{packed}
use Rattle.needed.proofs.tables.pack.Given as goal

abbrev pub invariant-loop-k : goal.invariant-loop-k
invariant-loop-k l = l.word ≡ packed l.work l.i l.t (8 - l.k) (l.q * 8 + l.k)
