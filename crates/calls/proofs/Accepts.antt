-- What the questions of a call let its job assume (`to_make`), and that they are asked part by part.
-- Assumes nothing.
use Prim.Native.Nat.{ℕ, ◌-◌, ◌/◌, ◌^◌, ◌≤◌}
use native.Mathlib.Nat.{le_trans}
use mathlib.Core.Path.{◌≡◌, sym, ◌∙◌}
use mathlib.Core.Bool.{Bool, true}
use mathlib.Core.List.{List, [], ◌∷◌}
use borrow.Author.Tests.{eqb-true}
use lib.Dec.{eqb}
use lib.ListN.{length}
use Rattle.lists.proofs.Tests.{both}
use Rattle.poly.specs.Poly.{bit}
use Rattle.poly.proofs.Bits.{bit-first}
use Rattle.order.specs.Questions.{first_no, check_polynomial, work_size}
use Rattle.order.specs.Order.{Order, with_length}
use Rattle.order.specs.Model.Accepted.{Accepted, AcceptedAs, AcceptedDegree}
use Rattle.order.proofs.Lengths.{no_longer_with, accepted_longer}
use Rattle.order.proofs.FirstNo.{asked, none_in_parts}
use Rattle.order.proofs.Asked.{numbered_order, order_shaped, accepted_as, room-told}
use Rattle.jobs.specs.declared.Job.{Job}
use Rattle.jobs.specs.declared.Job.TheVariants as J
use Rattle.jobs.specs.declared.Plan.{Plan}
use Rattle.jobs.specs.Model.Steps.{row_order, ToChooseFor, JobAsks, ToMake}
use Rattle.calls.specs.Calls.{Call, order_of_row, job_questions, questions}
use Rattle.calls.specs.Model.Plans.{call_in, DegreeFor, Sound}

module _ (o : Order) (accepted : Accepted o) (Ns : List ℕ) (plain undetected work : List ℕ) where
  abbrev nc : ℕ
  nc = length plain

  abbrev nu : ℕ
  nu = length undetected

  abbrev nw : ℕ
  nw = length work

  -- the lists have room, by the job
  abbrev Rooms : Job → Type 0
  Rooms job = JobAsks job Ns o plain undetected × (work_size ≤ nw)

  pub chosen_rooms : AcceptedDegree o → first_no (job_questions J.Choose o.m (o.d - 1) nc nu nw) ≡ 0 → ToChooseFor o plain undetected × (work_size ≤ nw)
  unfolding job_questions
  chosen_rooms degree e =
      let first = room-told _ _ _ e in
      let second = room-told _ _ _ first.1 in
      (record { list = record { order = accepted; plain_room = first.0 }; whole = record { order = accepted; degree = degree }; undetected_room = second.0 }, (room-told _ _ _ second.1).0)

  rooms : (job : Job) (taken : Bool) → (taken ≡ true → AcceptedDegree o) → DegreeFor job taken → first_no (job_questions job o.m (o.d - 1) nc nu nw) ≡ 0 → Rooms job
  unfolding job_questions JobAsks
  rooms J.Collect taken degree is e = (tt, (room-told _ _ _ e).0)
  rooms J.List taken degree is e = let first = room-told _ _ _ e in (record { order = accepted; plain_room = first.0 }, (room-told _ _ _ first.1).0)
  rooms J.Choose taken degree is e = chosen_rooms (degree is) e
  rooms J.ChooseFor taken degree is e = absurd is
  rooms (J.Count p) taken degree is e =
      let parts = none_in_parts (job_questions J.Choose o.m (o.d - 1) nc nu nw) (check_polynomial o.m p ∷ []) tt e in
      let told = chosen_rooms (degree is) parts.0 in
      let eleven = both (eqb (p / 2 ^ o.m) 1) (eqb (bit 0 p) 1) (asked 11 (check_polynomial o.m p ∷ []) tt parts.1) in
      ((told.0, (eqb-true (p / 2 ^ o.m) 1 eleven.0, sym (bit-first p) ∙ eqb-true (bit 0 p) 1 eleven.1)), told.1)

pub to_make : (plan : Plan) (plain undetected work : List ℕ) → Sound (call_in plan) → first_no (questions (call_in plan) (length plain) (length undetected) (length work)) ≡ 0
    → ToMake plan plain undetected work
unfolding questions row_order with_length
to_make plan plain undetected work s none =
    let c : Call = call_in plan in
    let parts = none_in_parts _ _ (numbered_order c.takes (order_of_row c)) none in
    let row : AcceptedAs c.takes (order_of_row c) = accepted_as c.takes s.known_versions s.at_most_longest (order_of_row c) parts.0 in
    let shape = order_shaped c.takes (order_of_row c) parts.0 in
    let lengths = s.no_longer (le_trans shape.some_memory shape.long_enough) shape.at_most in
    let accepted : Accepted (order_of_row c) = record { code = row.code; threshold = row.threshold s.threshold } in
    let lists = rooms (order_of_row c) accepted plan.shorter.now plain undetected work c.job c.takes.degree row.degree s.degree parts.1 in
    record {
      collected = accepted_longer c.order c.N lengths.0 lengths.1 accepted;
      no_longer = no_longer_with c.order c.N lengths.0;
      wide = lists.1;
      job = lists.0;
    }
