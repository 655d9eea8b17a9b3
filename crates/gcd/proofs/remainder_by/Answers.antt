use mathlib.Core.Path.{refl, sym, ◌∙◌}
use native.Mathlib.Omega.{arith}
use Rattle.poly.specs.Poly.{◌⊕◌}
use Rattle.poly.proofs.Remainder.{remainder_small}
use Rattle.gcd.proofs.Aligned.{lower, up_lt, falls, keeps}
use Rattle.gcd.proofs.remainder_by.Goals as goal

pub loop-r-init : goal.loop-r-init
loop-r-init c = (c.ranges.a.fits, refl)

pub overflow_cast-r : goal.overflow_cast-r
overflow_cast-r c =
    let start = c in
    let few = up_lt c.loop-r.r start.args.b c.loop-r.invariant.0 start.ranges.b.fits start.requires c.loop-r-test.true in
    record { fits = omega arith }

pub overflow_shl-r : goal.overflow_shl-r
overflow_shl-r c =
    let start = c in
    up_lt c.loop-r.r start.args.b c.loop-r.invariant.0 start.ranges.b.fits start.requires c.loop-r-test.true

pub loop-r-smaller : goal.loop-r-smaller
unfolding ◌⊕◌
loop-r-smaller c =
    let start = c in
    falls c.loop-r.r start.args.b c.loop-r.invariant.0 start.ranges.b.fits start.requires c.loop-r-test.true

pub loop-r-preserved : goal.loop-r-preserved
unfolding ◌⊕◌
loop-r-preserved c =
    let start = c in
    let l = c.loop-r in
    let less = falls l.r start.args.b l.invariant.0 start.ranges.b.fits start.requires c.loop-r-test.true in
    let fits = l.invariant.0 in
    (omega arith, keeps l.r start.args.b l.invariant.0 start.ranges.b.fits start.requires c.loop-r-test.true ∙ l.invariant.1)

pub returns : goal.returns
returns c =
    let start = c in
    let l = c.loop-r in
    sym (remainder_small _ _ _ (lower l.r start.args.b l.invariant.0 start.ranges.b.fits start.requires c.loop-r-test.false)) ∙ l.invariant.1
