-- The state before and its sums, which are small.
use mathlib.Core.Path.{ap}
use Prim.Native.Nat.{ℕ, ◌+◌, ◌-◌, ◌*◌, ◌/◌, ◌%◌, ◌^◌}
use Rattle.needed.specs.Model.Tables.{half_at}
use Rattle.collection.specs.Model.Backward.{earlier}
use Rattle.collection.proofs.Nodes.{weight_fits}
use Rattle.collection.proofs.step_back.Goals as goal

pub overflow_add-result : goal.overflow_add-result
overflow_add-result c = record { fits = weight_fits _ _ _ c.requires _ c.step_at-step.ensures }

pub returns : goal.returns
unfolding earlier
returns c =
    let e = c.args.node in
    let half = half_at c.args.work.now in
    ap (λ (step : ℕ). record {
      state = e.state / 2 + c.args.top * half;
      left = e.left - 1;
      weight = e.weight + step;
      low = e.low * 2 % 2 ^ 64 + e.state % 2;
      high = e.high * 2 % 2 ^ 64 + e.low / 2 ^ 63;
    }) c.step_at-step.ensures
