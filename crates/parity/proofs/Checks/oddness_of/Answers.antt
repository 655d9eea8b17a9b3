-- The ones that word and row have in common, modulo 2.
use mathlib.Core.Path.{refl}
use native.Mathlib.Omega.{arith}
use Rattle.poly.specs.Poly.{◌⊕◌}
use Rattle.parity.specs.Model.Parity.{oddness}
use Rattle.parity.proofs.Checks.oddness_of.Goals as goal

pub returns : goal.returns
unfolding oddness ◌⊕◌
returns c = (refl, omega arith)
