-- The register's step, as the definition has it: the value is below 2 ^ degree, so nothing but 0 or 1 stands from bit `degree` on.
use mathlib.Core.Path.{refl}
use Prim.Native.Nat.{◌^◌, ◌≤◌}
use native.Mathlib.Omega.{arith}
use lib.Pow.{pow_mono}
use Rattle.poly.specs.Poly.{◌⊕◌}
use Rattle.poly.proofs.Remainder.{push_top}
use Rattle.poly.proofs.Division.{register_of_remainder}
use Rattle.poly.proofs.Sum.{digit_times_lt}
use Rattle.poly.proofs.register.Register.take.Goals as goal

pub overflow_mul-s : goal.overflow_mul-s
overflow_mul-s c = let small : 2 ^ c.args.self.degree ≤ 2 ^ 12 = pow_mono c.requires.at_most_12 in record { fits = omega arith }

pub overflow_add-s : goal.overflow_add-s
overflow_add-s c = let small : 2 ^ c.args.self.degree ≤ 2 ^ 12 = pow_mono c.requires.at_most_12 in record { fits = omega arith }

pub overflow_mul-result : goal.overflow_mul-result
overflow_mul-result c =
    let b = c in
    record { fits = digit_times_lt _ b.args.self.polynomial (2 ^ 64) (push_top _ _ _ b.requires.below b.requires.digit) (omega arith) }

pub returns : goal.returns
unfolding ◌⊕◌
returns c = let p = c.requires in (refl, refl, register_of_remainder _ _ _ _ p.below p.digit)
