-- The invariant: the first weights of the candidates before k stand on top of what they had.
use mathlib.Core.List.{List}
use Prim.Native.Nat.{ℕ, ◌+◌, ◌*◌, ◌^◌}
use lib.ListN.{get_or}
use Rattle.undetected.specs.FirstUndetected.{first_above0}
use Rattle.undetected.specs.Model.Steps.{divided_counts}
use Rattle.narrowing.proofs.Written.{Written}
use Rattle.narrowing.proofs.add_firsts.Given as goal

-- what candidate k is given
abbrev pub onTop : (m entries : ℕ) (table plain : List ℕ) (scale : ℕ) (ranks : List ℕ) → ℕ → ℕ
onTop m entries table plain scale ranks k = first_above0 1 (divided_counts m table plain entries (2 ^ m + 2 * k + 1)) * scale + get_or ranks k 0

abbrev pub invariant-loop-k : goal.invariant-loop-k
invariant-loop-k l = Written 0 (onTop l.m l.listing.entries l.listing.table.now l.listing.plain.now l.scale l.before) 2048 l.ranks l.k
