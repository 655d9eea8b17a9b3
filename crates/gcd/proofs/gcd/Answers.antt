use mathlib.Core.Path.{◌≡◌, sym, ap, ◌∙◌, subst}
use Prim.Native.Nat.{ℕ, ◌<◌}
use native.Mathlib.Omega.{arith}
use Rattle.gcd.specs.Model.Gcd.{gcd}
use Rattle.gcd.proofs.Euclid.{remainder_falls, gcd_step, gcd_zero}
use Rattle.gcd.proofs.gcd.Goals as goal

pub loop-divisor-smaller : goal.loop-divisor-smaller
loop-divisor-smaller c =
    let l = c.loop-divisor in
    subst (λ (x : ℕ). x < l.divisor) (sym c.remainder_by-r.ensures) (remainder_falls l.dividend l.divisor (omega arith))

pub loop-divisor-preserved : goal.loop-divisor-preserved
loop-divisor-preserved c =
    let l = c.loop-divisor in
    l.invariant ∙ gcd_step l.dividend l.divisor (omega arith) ∙ ap (gcd l.divisor) (sym c.remainder_by-r.ensures)

pub returns : goal.returns
returns c =
    let l = c.loop-divisor in
    let end : l.divisor ≡ 0 = omega arith in
    sym (l.invariant ∙ ap (gcd l.dividend) end ∙ gcd_zero l.dividend)
