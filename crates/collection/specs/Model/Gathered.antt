-- What the collection for an accepted order answers and leaves (a model): how many events there are, where the table takes them; else its refusal, and then
-- nothing is said of the table.
-- Assumes nothing.
use Rattle.std.specs.Prelude.{ℕ, ◌≤◌, ◌<◌, ◌≡◌, List, length, Result, IfOk, IfErr}
use Rattle.lists.specs.Lists.{cleared}
use Rattle.order.specs.Order.{Order}
use Rattle.order.specs.declared.refusal.Refusal.{Refusal}
use Rattle.order.specs.declared.refusal.Refusal.TheVariants as R
use Rattle.events.specs.declared.Event.{Event}
use Rattle.events.specs.Events.{events, event_table}

pub record AllEvents (o : Order) (before after : List Event) (n : ℕ) : Type 0 where
  pub fits : length (events o) ≤ length before
  pub number : n ≡ length (events o)
  pub table : after ≡ event_table (length before) o

pub record Gathered (o : Order) (before after : List Event) (work left : List ℕ) (r : Result ℕ Refusal) : Type 0 where
  pub inside : IfOk r (λ n. AllEvents o before after n)
  pub past : IfErr r (λ e. (e ≡ R.TooManyEvents) × (length before < length (events o)))
  pub zeros : left ≡ cleared 0 work
