-- How many entries of an event table have at most so many steps (a model: what the code computes).
-- Assumes nothing.
use Rattle.std.specs.Prelude.{ℕ, List, leb, get_or}
use Rattle.lists.specs.Lists.{up_from, count}
use Rattle.events.specs.declared.Event.{Event}
use Rattle.events.specs.Events.{no_event}

-- of the first n
unfoldable pub count_within : List Event → ℕ → ℕ → ℕ
count_within table n steps = count (λ k. leb (get_or table k no_event).length steps) (up_from 0 n)
