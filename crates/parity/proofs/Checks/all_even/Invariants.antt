-- The invariant: the rows from the next four on decide.
use mathlib.Core.Path.{◌≡◌}
use Prim.Native.Nat.{◌*◌}
use Rattle.parity.specs.Model.Parity.{even_from, all_even}
use Rattle.parity.proofs.Checks.all_even.Given as goal

abbrev pub invariant-loop-k : goal.invariant-loop-k
invariant-loop-k l = even_from l.self.rows l.self.count (4 * l.k) l.word.low l.word.high ≡ all_even l.self.rows l.self.count l.word.low l.word.high
