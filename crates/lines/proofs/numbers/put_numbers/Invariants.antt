-- The invariant: the first i numbers have been put.
use Prim.Native.Nat.{◌*◌}
use lib.ListN.{take}
use Rattle.lines.specs.Model.Steps.{Put, spaced}
use Rattle.lines.proofs.numbers.put_numbers.Given as goal

abbrev pub invariant-loop-number : goal.invariant-loop-number
invariant-loop-number l =
    Put (23 * l.number-index) l.initial.buffer l.at (spaced l.base (take l.number-index l.numbers)) l.buffer l.end
