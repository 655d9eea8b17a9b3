-- The invariant: what is left to note, noted from here, gives the whole.
use Prim.Native.Nat.{◌-◌}
use mathlib.Core.Path.{◌≡◌}
use Rattle.bounds.specs.Model.Tables.{surveyed}
use Rattle.chains.proofs.survey.Given as goal
pub mod Turns

abbrev pub invariant-loop-k : goal.invariant-loop-k
invariant-loop-k l = surveyed l.events (l.to - l.k) l.k l.work ≡ surveyed l.events (l.to - l.from) l.from l.initial.work
