-- The register's step with a zero digit: the numbers are small enough for it.
use native.Mathlib.Omega.{arith}
use Rattle.poly.proofs.Division.{polynomial_small}
use Rattle.poly.proofs.register.times_x.Goals as goal

pub take-requires : goal.take-requires
take-requires c =
    let by = c.requires.modulus in
    record { at_most_12 = by.at_most_12; short = polynomial_small by; below = c.requires.below; digit = omega arith }
