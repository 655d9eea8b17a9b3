-- What a call over lent tables is, and what it answers and leaves, for every order and whatever is lent: one definition (`call`), of which each call is a case.
-- Assumes nothing.
use Rattle.std.specs.Prelude.{ℕ, ◌-◌, List, [], ◌∷◌, ◌++◌, length}
use Rattle.order.specs.Questions.{Question, first_no, room, work_size, check_polynomial}
use Rattle.order.specs.Order.{Order, with_length, order_questions}
use Rattle.order.specs.Answer.{Answer, unless_refused}
use Rattle.order.specs.declared.questions.Takes.{Takes}
use Rattle.row.specs.declared.Row.{Row}
use Rattle.jobs.specs.declared.Job.{Job}
use Rattle.jobs.specs.declared.Job.TheVariants as J
use Rattle.jobs.specs.Jobs.{SearchTables, ran}

-- a call: an order, for which events are collected; what the call takes of it; N, the bits of the row's words; shorter lengths, where a polynomial is chosen
-- for them too; and how far the call goes
pub record Call : Type 0 where
  pub order : Order
  pub takes : Takes
  pub N : ℕ
  pub shorter : List ℕ
  pub job : Job

-- a row of the order's own length
abbrev pub of_own_length : Takes → Job → Order → Call
of_own_length takes job o = record { order = o; takes = takes; N = o.N; shorter = []; job = job }

-- the order of the row
abbrev pub order_of_row : Call → Order
order_of_row c = with_length c.N c.order

-- ---- the questions before 13

-- 10 of the lists that the job takes, whose counts have so many entries, then 11 of its polynomial
unfoldable pub job_questions : Job → (m entries plain undetected work : ℕ) → List Question
job_questions J.Collect m entries plain undetected work = room work_size work ∷ []
job_questions J.List m entries plain undetected work = room entries plain ∷ room work_size work ∷ []
job_questions J.Choose m entries plain undetected work = room entries plain ∷ room entries undetected ∷ room work_size work ∷ []
job_questions J.ChooseFor m entries plain undetected work = room entries plain ∷ room entries undetected ∷ room work_size work ∷ []
job_questions (J.Count p) m entries plain undetected work = room entries plain ∷ room entries undetected ∷ room work_size work ∷ check_polynomial m p ∷ []

-- of the order of the row, as far as the call takes it, and of how long the lists are; counts begin with weight 1
unfoldable pub questions : Call → (plain undetected work : ℕ) → List Question
questions c plain undetected work = order_questions c.takes (order_of_row c) ++ job_questions c.job c.order.m (c.order.d - 1) plain undetected work

-- ---- a refusal by one of them changes nothing; else the job is done, with 13 and 14 asked on the way

unfoldable pub call : Call → SearchTables → Answer Row × SearchTables
call c t =
    unless_refused (first_no (questions c (length t.plain) (length t.undetected) (length t.work))) t (ran c.job c.shorter c.order (order_of_row c) t)
