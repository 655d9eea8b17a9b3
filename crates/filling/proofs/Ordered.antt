-- What the filling takes of an accepted order: the bounds and the facts that the laws of words, walks and weights ask for (`Ordered`).
-- Assumes nothing.
use Prim.Native.Nat.{◌≤◌, ◌<◌}
use native.Mathlib.Omega.{arith}
use mathlib.Core.Path.{◌≡◌}
use mathlib.Core.List.{[]}
use Rattle.order.specs.Order.{Order}
use Rattle.order.specs.Model.Accepted.{AcceptedCode, Accepted}
use Rattle.code.proofs.Steps.{Fit}
use Rattle.code.proofs.Calls.{fit_of_code}
use Rattle.paths.specs.Paths.{words_of_weight}
use Rattle.paths.proofs.FromOne.{none_of_weight_0}

-- what an accepted order is to the laws of words and walks
pub record Ordered (o : Order) : Type 0 where
  pub code : AcceptedCode o
  pub some : 0 < o.N
  pub longer : o.v ≤ o.N
  pub few : o.N ≤ 128
  pub memory : o.v ≤ 8
  pub threshold : 1 ≤ o.d
  pub light : o.d ≤ 64
  pub fit : Fit o.v o.generators
  pub none : words_of_weight o 0 ≡ []

pub ordered : (o : Order) → Accepted o → Ordered o
ordered o acc =
    let one = acc.code.some_memory in
    let long = acc.code.long_enough in
    record {
      code = acc.code;
      some = omega arith;
      longer = long;
      few = acc.code.at_most_128;
      memory = acc.code.small_memory;
      threshold = acc.threshold.some_weight;
      light = acc.threshold.at_most_64;
      fit = fit_of_code o acc.code;
      none = none_of_weight_0 o acc.code;
    }
