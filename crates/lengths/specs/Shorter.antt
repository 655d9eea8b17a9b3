-- The lengths besides that of a row that its polynomial is chosen for (document 02, C-17).
-- Assumes nothing.
use Rattle.std.specs.Prelude.{ℕ, List, map}
use Rattle.order.specs.Order.{Order, with_length}

-- the same order for each of these lengths
unfoldable pub for_each : List ℕ → Order → List Order
for_each Ns o = map (λ N. with_length N o) Ns
