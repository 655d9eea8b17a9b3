-- The outer invariant: the first k candidates have been compared. The inner: candidate k and the best agree before entry j, whose words
-- begin at place `at`.
use mathlib.Core.Path.{◌≡◌}
use mathlib.Core.Bool.{Bool}
use mathlib.Core.List.{List}
use Prim.Native.Nat.{ℕ}
use Rattle.paths.specs.Part.{paths_to}
use Rattle.undetected.specs.Model.Steps.{divided_counts}
use Rattle.choice.proofs.Weighed.{Agree}
use Rattle.choice.proofs.Comparing.{Met}
use Rattle.choice.proofs.compare.Given as goal

pub record Level (m entries : ℕ) (table plain undetected₀ undetected : List ℕ) (alive₀ alive : List Bool) (p at j : ℕ) : Type 0 where
  pub same-list : undetected ≡ undetected₀
  pub same_flags : alive ≡ alive₀
  pub placed : at ≡ paths_to plain j
  pub agree : Agree j (divided_counts m table plain entries p) undetected

abbrev pub invariant-loop-j : goal.invariant-loop-j
invariant-loop-j l = Level l.m l.listing.entries l.listing.table.now l.listing.plain.now l.initial.undetected l.undetected l.initial.alive l.alive l.p l.at l.j

abbrev pub invariant-candidates : goal.invariant-candidates
invariant-candidates l = Met l.m l.listing.entries l.initial.alive l.first l.listing.table.now l.listing.plain.now l.initial.undetected l.undetected l.alive l.k
