-- The invariant: the places left, carried on from here, give the whole.
pub mod Turns
use Prim.Native.Nat.{◌+◌, ◌-◌}
use mathlib.Core.Path.{◌≡◌}
use Rattle.bounds.specs.Model.Tables.{carried}
use Rattle.bounds.proofs.carry.Given as goal

abbrev pub invariant-loop-j : goal.invariant-loop-j
invariant-loop-j l = carried (l.ends + l.j) (l.starts + l.j) (l.n - l.j) l.at l.work ≡ carried l.ends l.starts l.n l.from l.initial.work
