-- Half by half.
use mathlib.Core.Path.{sym}
use native.Mathlib.Omega.{arith}
use Rattle.poly.specs.Poly.{◌⊕◌}
use Rattle.poly.proofs.Sum.{⊕_block}
use Rattle.poly.proofs.word.xor.Goals as goal

pub returns : goal.returns
unfolding ◌⊕◌
returns c = let a = c.args in sym (⊕_block 64 a.a.high a.b.high a.a.low a.b.low (omega arith) (omega arith))
