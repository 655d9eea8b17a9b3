-- The events of one state and length as the recursion meets them, walking backwards from the state over the tables of the work area. A node of the
-- walk has the state, how many steps are left to be taken back, and the weight and the inputs of the steps that follow.
-- `proofs/Backward.antt` proves that these are the definition's events.
-- Assumes nothing.
use Rattle.std.specs.Prelude.{ℕ, zero, suc, ◌+◌, ◌-◌, ◌*◌, ◌/◌, ◌%◌, ◌^◌, ◌≤◌, ◌<◌, Bool, cond, ◌||◌, Option, None, Some, List, [], ◌∷◌, ◌++◌, ltb, eqb, length, set}
use Rattle.code.specs.Model.Steps.{most_steps}
use Rattle.events.specs.declared.Event.{Event}
use Rattle.collection.specs.declared.Branches.{Branches}
use Rattle.collection.specs.declared.Branches.TheVariants as B
use Rattle.collection.specs.declared.Decision.{Decision}
use Rattle.collection.specs.declared.Decision.TheVariants as D
use Rattle.collection.specs.declared.Node.{Node}
use Rattle.needed.specs.Model.Tables.{need, step_at, length_at, threshold_at, half_at, Tables}

-- what may still become an event: it weighs less than the threshold at least; the first node always may
unfoldable pub goes_on : List ℕ → Node → Bool
goes_on work e = eqb e.left (length_at work) || ltb (e.weight + need work e.left e.state) (threshold_at work)

-- the node before, whose state has the register's highest bit clear (0) or set (1)
unfoldable pub earlier : List ℕ → Node → ℕ → Node
earlier work e top = record {
  state = e.state / 2 + top * half_at work;
  left = e.left - 1;
  weight = e.weight + step_at work (e.state / 2 + top * half_at work) (e.state % 2);
  low = e.low * 2 % 2 ^ 64 + e.state % 2;
  high = e.high * 2 % 2 ^ 64 + e.low / 2 ^ 63;
}

-- the event of a node with no step left
unfoldable pub finished : List ℕ → Node → Event
finished work e = record { state = e.state; length = length_at work; weight = e.weight; low = e.low; high = e.high }

-- the events that end with the steps of the node e, which has t steps left
unfoldable pub found_in : ℕ → List ℕ → Node → List Event
found_in zero work e = cond (goes_on work e) (finished work e ∷ []) []
found_in (suc t) work e = cond (goes_on work e) (found_in t work (earlier work e 0) ++ found_in t work (earlier work e 1)) []

abbrev pub found : List ℕ → Node → List Event
found work e = found_in e.left work e

-- the first node of turn k, where a word has so many steps: state k / steps and length k % steps + 1
unfoldable pub first : ℕ → ℕ → Node
first steps k = record { state = k / steps; left = k % steps + 1; weight = 0; low = 0; high = 0 }

-- ---- appended to the table, until it is known to be too small: then one more is counted, and no more are looked for

unfoldable pub append : List Event × ℕ → Event → List Event × ℕ
append s e = cond (ltb (length s.0) s.1) s (set s.0 s.1 e, s.1 + 1)

unfoldable pub appends : List Event → List Event × ℕ → List Event × ℕ
appends [] s = s
appends (e ∷ es) s = appends es (append s e)

-- ---- what is decided of a node: it is cut, it is an event, or its walk goes on

unfoldable pub decided : List ℕ → ℕ → ℕ → Node → Decision
decided work at room e = cond (ltb room at) D.Cut (cond (goes_on work e) (cond (eqb e.left 0) D.Event D.On) D.Cut)

-- ---- of two nodes, which go on

unfoldable pub ways_on : List ℕ → Node → Node → Branches
ways_on work low high = cond (goes_on work low) (cond (goes_on work high) B.Both B.Low) (cond (goes_on work high) B.High B.Neither)

-- the last that goes on, if any does
abbrev pub last_of : Branches → Node → Node → Option Node
last_of B.Neither low high = None
last_of B.Low low high = Some low
last_of B.High low high = Some high
last_of B.Both low high = Some high

-- and what is decided of it, where so many steps are left
abbrev pub decided_last : ℕ → ℕ → ℕ → Decision
decided_last at room left = cond (ltb room at) D.Cut (cond (eqb left 0) D.Event D.On)

-- ---- what the functions ask: a node's numbers keep sums small

pub record Walkable (e : Node) : Type 0 where
  pub state_small : e.state < 256
  pub left_small : e.left ≤ most_steps
  pub weight_small : e.weight + 4 * e.left ≤ 4 * most_steps

-- of a step back, with the register's highest bit
pub record Back (work : List ℕ) (e : Node) (top : ℕ) : Type 0 where
  pub tables : Tables work
  pub walkable : Walkable e
  pub some_left : 0 < e.left
  pub top_bit : top < 2

-- of the two nodes before
pub record TwoBack (work : List ℕ) (low high : Node) : Type 0 where
  pub tables : Tables work
  pub low_walkable : Walkable low
  pub high_walkable : Walkable high

-- of the walk from a node, with the position in the table
pub record Descent (work : List ℕ) (table : List Event) (at : ℕ) (e : Node) : Type 0 where
  pub tables : Tables work
  pub short : length_at work ≤ most_steps
  pub walkable : Walkable e
  pub near : at ≤ length table + 1
