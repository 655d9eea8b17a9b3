-- The invariant: the lines of the first k entries, of weights 1 to k, have been put.
use Prim.Native.Nat.{◌*◌}
use mathlib.Core.List.{flat_map}
use Rattle.lists.specs.Lists.{up_from}
use Rattle.lines.specs.Lines.{count_line}
use Rattle.lines.specs.Model.Steps.{Put}
use Rattle.lines.proofs.put_counts.Given as goal

abbrev pub invariant-loop-k : goal.invariant-loop-k
invariant-loop-k l =
    Put (51 * l.k) l.initial.buffer l.at (flat_map (count_line l.plain l.undetected) (up_from 1 l.k)) l.buffer l.end
