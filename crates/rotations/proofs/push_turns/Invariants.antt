-- The invariant: the rotations left, appended from here, give the whole. The word is turned where one more is to be appended.
use mathlib.Core.Path.{◌≡◌}
use mathlib.Core.List.{List}
use Prim.Native.Nat.{ℕ, ◌+◌, ◌-◌, ◌≤◌, ◌<◌}
use lib.ListN.{length}
use Rattle.poly.specs.Word.{number}
use Rattle.code.specs.Trellis.{rotate}
use Rattle.paths.specs.Paths.{path_room}
use Rattle.paths.specs.Model.Joining.{turns}
use Rattle.rotations.specs.Model.Put.{puts}
use Rattle.rotations.proofs.AllTurns.{turns_from}
use Rattle.rotations.proofs.push_turns.Given as goal

pub record Turning (table₀ : List ℕ) (at bits first c : ℕ) (table : List ℕ) (next u r : ℕ) : Type 0 where
  pub near : next ≤ path_room (length table) + 1
  pub turned : r < first → u ≡ rotate bits r c
  pub left : puts (turns_from bits r (first - r) c) (table, next) ≡ puts (turns bits first c) (table₀, at)

abbrev pub invariant-loop-r : goal.invariant-loop-r
invariant-loop-r l = Turning l.initial.table l.at l.bits l.first (number l.initial.u) l.table l.next (number l.u) l.r
