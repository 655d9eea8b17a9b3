-- The fields of a record as the code reads them (a model: nothing that is promised rests on it).
-- Assumes nothing.
use Rattle.std.specs.Prelude.{List, [], ◌∷◌, ℕ, get_or}
use Rattle.order.specs.Order.{be16}
use Rattle.order.specs.declared.record.OrderRecord.{OrderRecord}

-- the fields at their places in the bytes, zeros past the end
unfoldable pub fields_of : List ℕ → OrderRecord
fields_of bytes =
    record { version = get_or bytes 2 0; n = get_or bytes 3 0; v = get_or bytes 4 0; bits = get_or bytes 5 0; m = get_or bytes 6 0; d = get_or bytes 7 0; generators = be16 bytes 8 ∷ be16 bytes 10 ∷ be16 bytes 12 ∷ be16 bytes 14 ∷ [] }
