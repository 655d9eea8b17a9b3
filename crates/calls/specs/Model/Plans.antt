-- The call that a plan tells, and what is asked of it (a model).
-- Assumes nothing.
use Rattle.std.specs.Prelude.{◌≤◌, ◌≡◌, Bool, true}
use Rattle.order.specs.Questions.{highest_version, longest_word}
use Rattle.order.specs.Answers.{order_in}
use Rattle.jobs.specs.declared.Job.{Job}
use Rattle.jobs.specs.declared.Job.TheVariants as J
use Rattle.jobs.specs.declared.Plan.{Plan}
use Rattle.calls.specs.Calls.{Call}

abbrev pub call_in : Plan → Call
call_in p = record { order = order_in p.order; takes = p.takes; N = p.bits; shorter = p.shorter.now; job = p.job }

-- a job that chooses or counts takes the degree; for a set of lengths more is asked than here (`set`)
abbrev pub DegreeFor : Job → Bool → Type 0
DegreeFor J.Collect taken = Unit {0}
DegreeFor J.List taken = Unit {0}
DegreeFor J.Choose taken = taken ≡ true
DegreeFor J.ChooseFor taken = ⊥
DegreeFor (J.Count p) taken = taken ≡ true

-- a call whose bounds are no wider than those of all, and whose questions let the job be done: no row is longer than the words that events are collected for
pub record Sound (c : Call) : Type 0 where
  pub known_versions : c.takes.versions ≤ highest_version
  pub at_most_longest : c.takes.longest ≤ longest_word
  pub no_longer : 1 ≤ c.N → c.N ≤ c.takes.longest → (c.N ≤ c.order.N) × (c.order.N ≤ longest_word)
  pub threshold : c.takes.threshold ≡ true
  pub degree : DegreeFor c.job c.takes.degree
