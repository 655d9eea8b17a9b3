-- The invariant: how many of the places before k pass, at most the limit.
use mathlib.Core.Path.{◌≡◌}
use Prim.Native.Nat.{◌≤◌}
use Rattle.undetected.specs.Model.Steps.{even_between}
use Rattle.undetected.proofs.count_up_to.Given as goal

abbrev pub invariant-loop-k : goal.invariant-loop-k
invariant-loop-k l = (l.found ≡ even_between l.checks.rows l.checks.count l.table l.from l.k) × (l.found ≤ l.limit)
