-- One bit in at the low end, and the oldest out at the high one.
use mathlib.Core.Path.{refl, ap₂}
use Prim.Native.Nat.{ℕ, ◌%◌, ◌^◌, ◌≤◌, ◌<◌}
use native.Mathlib.Nat.{mod-lt, lt_of_lt_of_le}
use native.Mathlib.Omega.{arith}
use lib.Pow.{pow_pos, pow_mono}
use Rattle.code.specs.Trellis.{next, walk}
use Rattle.code.proofs.window.Window.moved.Goals as goal

-- there are states, and a byte holds them
some-states : (c : goal.After-power) → 0 < c.power.result
some-states c = omega (arith, pow_pos c.args.self.memory, c.power.ensures)

few_states : (c : goal.After-power) → c.power.result ≤ 2 ^ 8
few_states c =
    let few : 2 ^ c.args.self.memory ≤ 2 ^ 8 = pow_mono c.requires in
    omega (arith, c.power.ensures)

pub power-requires : goal.power-requires
power-requires c = omega (arith, c.requires)

pub overflow_cast-result : goal.overflow_cast-result
overflow_cast-result c = record { fits = lt_of_lt_of_le (mod-lt _ (some-states c)) (few_states c) }

pub returns : goal.returns
unfolding next walk
returns c =
    record {
      memory = refl;
      state = ap₂ (λ (x y : ℕ). x % y) c.inputs-inputs.ensures c.power.ensures;
      rest = c.shift_down.ensures;
    }
