-- The plan for a set of lengths (a model).
-- Assumes nothing.
use Rattle.std.specs.Prelude.{ℕ, ◌≤◌, ◌≡◌, ◌⊎◌, List, length, drop}
use Rattle.order.specs.Order.{Order}
use Rattle.order.specs.Answers.{order_in}
use Rattle.choice.specs.Choice.{first_of}
use Rattle.narrowing.specs.Narrowed.{longest}
use Rattle.jobs.specs.declared.Job.TheVariants as J
use Rattle.jobs.specs.declared.Plan.{Plan}

pub record SomeLengths (Ns : List ℕ) : Type 0 where
  pub some : 1 ≤ length Ns
  pub few : length Ns ≤ 8

-- events are collected for the longest, which the row is for; the best is chosen as by the search, or for shorter lengths too
pub record PlannedFor (o : Order) (Ns : List ℕ) (p : Plan) : Type 0 where
  pub order : order_in p.order ≡ longest o Ns
  pub bits : p.bits ≡ first_of Ns
  pub job : ((length Ns ≡ 1) × (p.job ≡ J.Choose)) ⊎ ((p.job ≡ J.ChooseFor) × (p.shorter.now ≡ drop 1 Ns))
