-- An order as the library's struct.
-- Assumes nothing.
use Rattle.std.specs.Prelude.{map, ℕ, length, get_or}
use Rattle.lists.specs.Lists.{up_from, padded}
use Rattle.order.specs.Answer.{Answer, accepted, refused}
use Rattle.order.specs.Order.{Order}
use Rattle.order.specs.declared.record.OrderRecord.{OrderRecord}

-- generator k of a struct, which has four; further ones are 0
unfoldable pub generator_in : OrderRecord → ℕ → ℕ
generator_in r k = get_or r.generators k 0

-- the order that a struct tells: n generators, whatever n is, so that question 3 is about the struct's n
unfoldable pub order_in : OrderRecord → Order
order_in r = record { version = r.version; v = r.v; N = r.bits; m = r.m; d = r.d; generators = map (generator_in r) (up_from 0 r.n) }

-- the struct of an order of at most four generators: zeros for those that are not there
unfoldable pub record_of : Order → OrderRecord
record_of o =
    record { version = o.version; n = length o.generators; v = o.v; bits = o.N; m = o.m; d = o.d; generators = padded 4 0 o.generators }

-- what reading a record answers: the order that was read as its struct
unfoldable pub recorded : Answer Order → Answer OrderRecord
recorded (accepted o) = accepted (record_of o)
recorded (refused k) = refused k
