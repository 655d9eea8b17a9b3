-- What the parts of a job compute (a model): what a plan asks, what is done with the listed paths, and what is made.
-- Assumes nothing.
use Rattle.std.specs.Prelude.{ℕ, ◌-◌, ◌≤◌, ◌<◌, ◌^◌, ◌≡◌, Bool, true, false, List, [], ◌∷◌, length, get_or, replicate}
use Rattle.order.specs.Questions.{work_size}
use Rattle.order.specs.Order.{Order, with_length}
use Rattle.order.specs.Answer.{Answer, refusal_number}
use Rattle.order.specs.Answers.{order_in}
use Rattle.order.specs.Model.Accepted.{Accepted, AcceptedWhole}
use Rattle.order.specs.Model.Lengths.{NoLonger}
use Rattle.undetected.specs.Model.Steps.{Readable}
use Rattle.choice.specs.declared.Outcome.{Outcome}
use Rattle.choice.specs.Best.{IsCandidate}
use Rattle.choice.specs.Model.Steps.{offered_by, CheckDegree, Chose}
use Rattle.narrowing.specs.declared.Firsts.{Firsts}
use Rattle.narrowing.specs.Model.Firsts.{Added, Kept, ToAdd}
use Rattle.row.specs.declared.Row.{Row}
use Rattle.row.specs.Answered.{row}
use Rattle.jobs.specs.declared.Job.{Job}
use Rattle.jobs.specs.declared.Job.TheVariants as J
use Rattle.jobs.specs.declared.Plan.{Plan}
use Rattle.jobs.specs.Jobs.{SearchTables, ran}

-- the order of the row
unfoldable pub row_order : Plan → Order
row_order p = with_length p.bits (order_in p.order)

-- the shorter lengths whose paths are listed before those of the row
unfoldable pub listed_before : Job → List ℕ → List ℕ
listed_before J.Collect Ns = []
listed_before J.List Ns = []
listed_before J.Choose Ns = []
listed_before J.ChooseFor Ns = Ns
listed_before (J.Count p) Ns = []

-- ---- what a job asks of the order of the row and of the count lists

pub record ToList (o : Order) (plain : List ℕ) : Type 0 where
  pub order : Accepted o
  pub plain_room : o.d - 1 ≤ length plain

pub record ToChooseFor (o : Order) (plain undetected : List ℕ) : Type 0 where
  pub list : ToList o plain
  pub whole : AcceptedWhole o
  pub undetected_room : o.d - 1 ≤ length undetected

-- the shorter lengths too
pub record ToServe (Ns : List ℕ) (o : Order) : Type 0 where
  pub few : length Ns ≤ 7
  pub each : (i : ℕ) → i < length Ns → Accepted (with_length (get_or Ns i 0) o)
  pub shorter : (i : ℕ) → i < length Ns → get_or Ns i 0 ≤ o.N

unfoldable pub JobAsks : Job → List ℕ → Order → (plain undetected : List ℕ) → Type 0
JobAsks J.Collect Ns o plain undetected = Unit {0}
JobAsks J.List Ns o plain undetected = ToList o plain
JobAsks J.Choose Ns o plain undetected = ToChooseFor o plain undetected
JobAsks J.ChooseFor Ns o plain undetected = ToChooseFor o plain undetected × ToServe Ns o
JobAsks (J.Count p) Ns o plain undetected = ToChooseFor o plain undetected × IsCandidate o.m p

pub record ToMake (plan : Plan) (plain undetected work : List ℕ) : Type 0 where
  pub collected : Accepted (order_in plan.order)
  pub no_longer : NoLonger (row_order plan) (order_in plan.order)
  pub wide : work_size ≤ length work
  pub job : JobAsks plan.job plan.shorter.now (row_order plan) plain undetected

-- ---- what a job does once the paths are listed: what it asks, what it leaves of the undetected list, and what it answers

-- over a path table, with a list that takes the counts
pub record ToFinishOver (bits m entries : ℕ) (table plain undetected : List ℕ) : Type 0 where
  pub readable : Readable bits entries table plain
  pub degree : CheckDegree m
  pub counts : entries ≤ length undetected

-- the flags of those left when the first weights of this table are added to those noted
abbrev pub LeftBy : (m entries : ℕ) → Firsts → (table plain : List ℕ) → List Bool → Type 0
LeftBy m entries noted table plain flags = (f : Firsts) × Added m entries table plain noted f × Kept m f flags

-- and some are left
pub record ToNarrow (bits m entries : ℕ) (noted : Firsts) (table plain : List ℕ) : Type 0 where
  pub add : ToAdd bits entries m table plain noted
  pub some_left : (flags : List Bool) → LeftBy m entries noted table plain flags → (k : ℕ) × (k < 2 ^ (m - 1)) × (get_or flags k false ≡ true)

unfoldable pub ToFinish : Job → (bits m entries : ℕ) → Firsts → (table plain undetected : List ℕ) → Type 0
ToFinish J.Collect bits m entries noted table plain undetected = Unit {0}
ToFinish J.List bits m entries noted table plain undetected = Unit {0}
ToFinish J.Choose bits m entries noted table plain undetected = ToFinishOver bits m entries table plain undetected
ToFinish J.ChooseFor bits m entries noted table plain undetected = ToFinishOver bits m entries table plain undetected × ToNarrow bits m entries noted table plain
ToFinish (J.Count p) bits m entries noted table plain undetected = ToFinishOver bits m entries table plain undetected × IsCandidate m p

-- the best of those offered is told, and so many
abbrev pub ChoseOf : (offered : List ℕ) → (ℕ → ℕ) → (m entries events paths : ℕ) → (table plain before after : List ℕ) → Row → Type 0
ChoseOf offered shared m entries e k table plain before after r =
    (x : Outcome) × Chose m entries offered table plain (replicate (length before) 0) after x × (r ≡ row e k x.polynomial (shared x.shared))

unfoldable pub Finished : Job → (m entries : ℕ) → Firsts → (events paths : ℕ) → (table plain before after : List ℕ) → Row → Type 0
Finished J.Collect m entries noted e k table plain before after r = (after ≡ before) × (r ≡ row e k 0 0)
Finished J.List m entries noted e k table plain before after r = (after ≡ before) × (r ≡ row e k 0 0)
Finished J.Choose m entries noted e k table plain before after r = ChoseOf (offered_by m (replicate 2048 true)) (λ n. n) m entries e k table plain before after r
Finished J.ChooseFor m entries noted e k table plain before after r =
    (flags : List Bool) × LeftBy m entries noted table plain flags × ChoseOf (offered_by m flags) (λ n. n) m entries e k table plain before after r
Finished (J.Count p) m entries noted e k table plain before after r = ChoseOf (p ∷ []) (λ n. 0) m entries e k table plain before after r

-- ---- what is made: the answer, and where it is no refusal the tables too

pub record MadeAs (plan : Plan) (lent : SearchTables) (answer : Answer Row) (left : SearchTables) : Type 0 where
  pub answered : answer ≡ (ran plan.job plan.shorter.now (order_in plan.order) (row_order plan) lent).0
  pub leaves : refusal_number answer ≡ 0 → left ≡ (ran plan.job plan.shorter.now (order_in plan.order) (row_order plan) lent).1
