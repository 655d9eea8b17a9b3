-- What the filling of a path table computes (a model): the words of one weight sorted and counted, and all weights' one after another.
-- Assumes nothing.
use Rattle.std.specs.Prelude.{ℕ, ◌-◌, ◌/◌, ◌≤◌, ◌<◌, ◌≡◌, cond, List, leb, length, set, Result, IfOk, IfErr}
use Rattle.lists.specs.Lists.{padded, cleared}
use Rattle.order.specs.Order.{Order}
use Rattle.order.specs.declared.refusal.Refusal.{Refusal}
use Rattle.order.specs.declared.refusal.Refusal.TheVariants as R
use Rattle.order.specs.Questions.{work_size}
use Rattle.order.specs.Model.Accepted.{AcceptedCode, Accepted}
use Rattle.order.specs.Model.Lengths.{NoLonger}
use Rattle.events.specs.declared.Event.{Event}
use Rattle.events.specs.Events.{events, event_table}
use Rattle.paths.specs.Paths.{paths, plain_counts, path_table, path_room}
use Rattle.sort.specs.Model.Sort.{sorted_part}
use Rattle.sort.specs.Model.Steps.{Narrow}

-- the words from place `at` to before place `next` in order, where the table took them all
unfoldable pub settled_paths : List ℕ → ℕ → ℕ → List ℕ
settled_paths paths at next = cond (leb next (length paths / 2)) (sorted_part paths at next) paths

-- and counted as those of weight w, which is entry w - 1
unfoldable pub settled_counts : ℕ → List ℕ → ℕ → ℕ → ℕ → List ℕ
settled_counts size counts at next w = cond (leb next (size / 2)) (set counts (w - 1) (next - at)) counts

-- what that asks: the words are of so many bits, and the weight has a count
pub record Settles (paths counts : List ℕ) (at next w bits : ℕ) : Type 0 where
  pub some_weight : 1 ≤ w
  pub counted : w - 1 < length counts
  pub narrow : next ≤ length paths / 2 → Narrow paths at next bits

-- ---- the path table filled from a collected event table

-- the table was collected for the order, or for the same with longer words
pub record TableFor (o : Order) (table : List Event) : Type 0 where
  pub longer : Order
  pub code : AcceptedCode longer
  pub no_longer : NoLonger o longer
  pub collected : table ≡ event_table (length table) longer
  pub fits : length (events longer) ≤ length table

-- what is asked: such a table of events alone, and lists that are long enough
pub record ToFill (o : Order) (table : List Event) (plain work : List ℕ) : Type 0 where
  pub order : Accepted o
  pub from : TableFor o table
  pub all : length table ≡ length (events from.longer)
  pub counts : o.d - 1 ≤ length plain
  pub wide : work_size ≤ length work
  pub zeros : work ≡ cleared 0 work

-- what is left, and what the number tells: all paths are there, or there are more than there is room for
pub record AllPaths (o : Order) (table after plain counts : List ℕ) (n : ℕ) : Type 0 where
  pub fits : length (paths o) ≤ path_room (length table)
  pub number : n ≡ length (paths o)
  pub words : after ≡ path_table (length table) o
  pub plain_counts_are : counts ≡ padded (length plain) 0 (plain_counts o)

pub record Filled (o : Order) (table after plain counts work left : List ℕ) (r : Result ℕ Refusal) : Type 0 where
  pub inside : IfOk r (λ n. AllPaths o table after plain counts n)
  pub past : IfErr r (λ e. (e ≡ R.TooManyPaths) × (path_room (length table) < length (paths o)))
  pub zeros : left ≡ cleared 0 work
