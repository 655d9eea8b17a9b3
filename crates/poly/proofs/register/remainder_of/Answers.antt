use mathlib.Core.Path.{refl, ◌∙◌}
use native.Mathlib.Omega.{arith}
use Rattle.poly.proofs.Sum.{bit_lt}
use Rattle.poly.proofs.Division.{divided_none, divided_by, polynomial_small, remainder_in}
use Rattle.poly.proofs.register.remainder_of.Goals as goal

pub loop-i-init : goal.loop-i-init
loop-i-init c = record { same-degree = refl; same-polynomial = refl; so_far = divided_none _ _ _ _ c.requires.fits }

pub take-r-requires : goal.take-r-requires
take-r-requires c =
    let l = c.loop-i.invariant in
    let by = c.requires.modulus in
    record {
      at_most_12 = omega arith;
      short = rw l.same-polynomial (polynomial_small by);
      below = remainder_in _ _ _ _ _ by.degree l.same-degree l.so_far;
      digit = rw c.bit_at.ensures (bit_lt _ _);
    }

pub loop-i-preserved : goal.loop-i-preserved
loop-i-preserved c =
    let l = c.loop-i.invariant in
    let t = c.take-r.ensures in
    let next = divided_by _ _ _ _ _ _ _ _ l.same-degree l.same-polynomial l.so_far c.bit_at.ensures (omega arith) in
    record { same-degree = cc; same-polynomial = cc; so_far = t.2 ∙ next }
