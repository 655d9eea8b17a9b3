use mathlib.Core.Path.{refl, sym, ap, ◌∙◌}
use Prim.Native.Nat.{ℕ, ◌+◌}
use native.Mathlib.Omega.{arith}
use lib.ListN.{drop}
use Rattle.gcd.specs.Model.Gcd.{gcd_with, gcd_all}
use Rattle.gcd.proofs.Euclid.{gcd_with-next, gcd_with_end}
use Rattle.gcd.proofs.gcd_of_all.Goals as goal

pub loop-g-init : goal.loop-g-init
unfolding gcd_all
loop-g-init c = refl

pub loop-g-preserved : goal.loop-g-preserved
loop-g-preserved c =
    let gs = c.args.polynomials.now in
    let l = c.loop-g in
    l.invariant ∙ gcd_with-next gs l.d l.g-index (omega arith) ∙ ap (λ (x : ℕ). gcd_with x (drop (l.g-index + 1) gs)) (sym c.gcd-d.ensures)

pub returns : goal.returns
returns c =
    let l = c.loop-g in
    sym (l.invariant ∙ gcd_with_end c.args.polynomials.now l.d l.g-index (omega arith))
