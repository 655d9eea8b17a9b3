-- An order and the same order for words that are no longer: what a table that was collected for one tells of the other.
-- Assumes nothing.
use Rattle.std.specs.Prelude.{◌≤◌, ◌≡◌}
use Rattle.order.specs.Order.{Order, with_length}

-- o is c, but that its words may be shorter
pub record NoLonger (o c : Order) : Type 0 where
  pub same : o ≡ with_length o.N c
  pub at_most : o.N ≤ c.N
