-- The invariant: the sum so far, at most the limit.
use mathlib.Core.Path.{◌≡◌}
use mathlib.Core.List.{List}
use Prim.Native.Nat.{ℕ, ◌≤◌}
use Rattle.paths.specs.Part.{paths_to}
use Rattle.paths.proofs.paths_to.Given as goal

pub record Summing (counts : List ℕ) (limit total k : ℕ) : Type 0 where
  pub summed : total ≡ paths_to counts k
  pub small : total ≤ limit

abbrev pub invariant-loop-count : goal.invariant-loop-count
invariant-loop-count l = Summing l.counts l.limit l.total l.count-index
