-- An order, and the same for shorter words.
-- Assumes nothing.
use Prim.Native.Nat.{ℕ, ◌≤◌}
use native.Mathlib.Nat.{le_refl, le_trans}
use mathlib.Core.Path.{refl}
use Rattle.order.specs.Questions.{longest_word}
use Rattle.order.specs.Order.{Order, with_length}
use Rattle.order.specs.Model.Lengths.{NoLonger}
use Rattle.order.specs.Model.Accepted.{Accepted}

-- an order is no longer than itself
pub no_longer_itself : (o : Order) → NoLonger o o
unfolding with_length
no_longer_itself o = record { same = refl; at_most = le_refl o.N }

pub no_longer_with : (o : Order) (N : ℕ) → N ≤ o.N → NoLonger (with_length N o) o
unfolding with_length
no_longer_with o N h = record { same = refl; at_most = h }

-- an accepted order is accepted for longer words too, up to the longest
pub accepted_longer : (o : Order) (N : ℕ) → N ≤ o.N → o.N ≤ longest_word → Accepted (with_length N o) → Accepted o
unfolding with_length
accepted_longer o N h most a = record {
  code = record {
    some_version = a.code.some_version;
    known_version = a.code.known_version;
    some_generators = a.code.some_generators;
    few_generators = a.code.few_generators;
    some_memory = a.code.some_memory;
    small_memory = a.code.small_memory;
    long_enough = le_trans a.code.long_enough h;
    at_most_128 = most;
    is_in_range = a.code.is_in_range;
    one_has_bit_v = a.code.one_has_bit_v;
    one_has_bit_0 = a.code.one_has_bit_0;
    shares_no_factor = a.code.shares_no_factor;
  };
  threshold = record { some_weight = a.threshold.some_weight; at_most_64 = a.threshold.at_most_64 };
}
