use mathlib.Core.Path.{ap, ap₂, ◌∙◌}
use Prim.Native.Nat.{ℕ, ◌+◌, ◌*◌, ◌/◌, ◌%◌, ◌^◌}
use native.Mathlib.Omega.{arith}
use Rattle.poly.specs.Poly.{bit, register}
use Rattle.poly.proofs.Remainder.{remainder_lt}
use Rattle.poly.proofs.Sum.{mod2_lt}
use Rattle.parity.proofs.Divided.{row_lt}
use Rattle.parity.proofs.Rows.{row_none, row_next, power_first, power_next}
use Rattle.parity.proofs.check_row.Goals as goal

pub loop-j-init : goal.loop-j-init
loop-j-init c =
    let a = c.args in
    record {
      so_far = c.make-row.ensures ∙ row_none a.m a.p a.i;
      power-of-x = power_first a.m a.p c.requires.table.divisor.some_degree;
    }

pub with_bit-row-requires : goal.with_bit-row-requires
with_bit-row-requires c =
    let so_far = c.loop-j.invariant.so_far in
    record { place = omega arith; digit = mod2_lt _; below = rw so_far (row_lt _ _ _ _) }

pub times_x-power-requires : goal.times_x-power-requires
times_x-power-requires c =
    let by = c.requires.table.divisor.modulus in
    record { modulus = by; below = rw c.loop-j.invariant.power-of-x (remainder_lt _ _ _ by.degree) }

pub loop-j-preserved : goal.loop-j-preserved
unfolding bit
loop-j-preserved c =
    let l = c.loop-j in
    let a = c.args in
    let at_x = l.invariant.power-of-x in
    record {
      so_far =
          c.with_bit-row.ensures ∙ ap₂ (λ (x y : ℕ). x / 2 ^ a.i % 2 * 2 ^ l.j + y) at_x l.invariant.so_far
          ∙ row_next l.j a.m a.p a.i;
      power-of-x = c.times_x-power.ensures ∙ ap (λ (x : ℕ). register a.m a.p x 0) at_x ∙ power_next l.j a.m a.p;
    }
