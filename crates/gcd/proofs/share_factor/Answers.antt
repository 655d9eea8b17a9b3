-- A factor is shared exactly where the greatest common divisor is not 1.
use mathlib.Core.Path.{sym, ap, ◌∙◌}
use mathlib.Core.Bool.{not}
use Prim.Native.Nat.{ℕ}
use lib.Dec.{eqb}
use Rattle.gcd.proofs.SharedFactor.{share_factor_by_gcd}
use Rattle.gcd.proofs.share_factor.Goals as goal

pub returns : goal.returns
returns c = ap (λ (d : ℕ). not (eqb d 1)) c.gcd_of_all.ensures ∙ sym (share_factor_by_gcd _)
