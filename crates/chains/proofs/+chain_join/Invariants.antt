-- The sizes, by the steps left; and where the loop of `chain` stands.
use Prim.Native.Nat.{◌+◌, ◌-◌, ◌*◌}
use Rattle.chains.specs.Model.Chaining.{ToChain}
use Rattle.chains.proofs.+chain_join.Given as goal
use Rattle.chains.proofs.+chain_join.Invariants.Standing.{Stands}
pub mod Joined
pub mod Standing

abbrev pub decreases-chain : goal.decreases-chain
decreases-chain l = 2 * l.begun.steps + 1

abbrev pub decreases-join : goal.decreases-join
decreases-join l = 2 * l.begun.steps

abbrev pub invariant-chain-loop-k : goal.invariant-chain-loop-k
invariant-chain-loop-k l = (ask : ToChain l.events l.work l.initial.paths l.at l.begun) → Stands ask l.k l.next l.paths

abbrev pub decreases-chain-loop-k : goal.decreases-chain-loop-k
decreases-chain-loop-k l = l.end - l.k
