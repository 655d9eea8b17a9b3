-- What is printed for the struct that reading a record answers is what is printed for the record; and an order that was read is asked nothing again.
-- Assumes nothing.
use Prim.Native.Nat.{ℕ, zero, suc, ◌-◌, ◌≤◌}
use native.Mathlib.Nat.{le_refl}
use native.Mathlib.Omega.{arith}
use mathlib.Core.Path.{◌≡◌, refl, sym, ap, ◌∙◌, subst}
use mathlib.Core.List.{List, [], ◌∷◌, ◌++◌}
use borrow.Author.Tests.{le-leb}
use lib.ListN.{length}
use Rattle.order.specs.Questions.{first_no, room, work_size}
use Rattle.order.specs.Answer.{Answer, accepted, refused, unless}
use Rattle.order.specs.Order.{Order, with_length, everything, record_questions, order_questions, read_fields, read}
use Rattle.order.specs.Answers.{order_in, recorded}
use Rattle.order.specs.Model.Accepted.{AcceptedWhole}
use Rattle.order.specs.declared.record.OrderRecord.{OrderRecord}
use Rattle.order.proofs.FirstNo.{none_in_parts, first_no_none, first_no_yes, refused_later}
use Rattle.order.proofs.Asked.{numbered_order, length-order_in, accepted_whole}
use Rattle.order.proofs.Records.{record_numbered, order_of_record}
use Rattle.jobs.specs.declared.Job.TheVariants as J
use Rattle.calls.specs.Calls.{job_questions, questions}
use Rattle.search.specs.Calls.{search_questions, search_call}
use Rattle.text.specs.Text.{refusal_text}
use Rattle.text.specs.Model.Steps.{RowAccepted}
use Rattle.print.specs.Printed.{lent, printed_search, printed_reading, printed}

module _ (bytes : List ℕ) where
  abbrev why : ℕ
  why = first_no (record_questions bytes ++ order_questions everything (read_fields bytes))

  abbrev Passed : Order → Type 0
  Passed o = first_no (order_questions everything o) ≡ 0

  -- what is known of a reading for which this text is printed
  abbrev Known : Answer OrderRecord → List ℕ → Type 0
  Known (accepted r) text = Passed (order_in r) × (printed_search (order_in r) (search_call (order_in r) lent) ≡ text)
  Known (refused k) text = refusal_text k ≡ text

  passed : why ≡ 0 → Passed (read_fields bytes)
  passed e = (none_in_parts (record_questions bytes) (order_questions everything (read_fields bytes)) (record_numbered bytes) e).1

  known : Known (recorded (read bytes)) (printed bytes)
  unfolding read printed unless recorded printed_reading
  known = by why refl
    where
      by : (k : ℕ) → why ≡ k → Known (recorded (unless k (accepted (read_fields bytes)))) (printed_reading (unless k (accepted (read_fields bytes))))
      by zero e =
          let whole = order_of_record (read_fields bytes) in
          (subst Passed (sym whole) (passed e), ap (λ (o : Order). printed_search o (search_call o lent)) whole)
      by (suc k) e = refl

  pub read_refused : (k : ℕ) → refused k ≡ recorded (read bytes) → refusal_text k ≡ printed bytes
  read_refused k e = subst (λ (x : Answer OrderRecord). Known x (printed bytes)) (sym e) known

  pub read_accepted : (r : OrderRecord) → accepted r ≡ recorded (read bytes) → Passed (order_in r) × (printed_search (order_in r) (search_call (order_in r) lent) ≡ printed bytes)
  read_accepted r e = subst (λ (x : Answer OrderRecord). Known x (printed bytes)) (sym e) known

-- ---- what follows for an order that was read

module _ (o : OrderRecord) (read : first_no (order_questions everything (order_in o)) ≡ 0) where
  whole : AcceptedWhole (order_in o)
  whole = accepted_whole (order_in o) read

  -- no question of the search says no: its lists have room
  pub none_asked : (plain undetected : ℕ) → 63 ≤ plain → 63 ≤ undetected → first_no (search_questions (order_in o) plain undetected work_size) ≡ 0
  unfolding search_questions questions job_questions with_length
  none_asked plain undetected p u =
      let d = (order_in o).d in
      let most = whole.order.threshold.at_most_64 in
      let rooms = first_no_yes (room (d - 1) plain) _ (le-leb (d - 1) plain (omega (arith, p, most))) ∙ first_no_yes (room (d - 1) undetected) _ (le-leb (d - 1) undetected (omega (arith, u, most)))
      ∙ first_no_yes (room work_size work_size) _ (le-leb work_size work_size (le_refl work_size)) ∙ first_no_none in
      sym (refused_later (order_questions everything (order_in o)) (job_questions J.Choose (order_in o).m (d - 1) plain undetected work_size) 0 0 (numbered_order everything (order_in o)) (sym read) refl (sym rooms))

  pub row_room : (plain undetected : ℕ) → 63 ≤ plain → 63 ≤ undetected → RowAccepted o.n o.d plain undetected
  unfolding order_in
  row_room plain undetected p u =
      let d = whole.order.threshold.at_most_64 in
      record {
        at_most_4 = rw length-order_in at whole.order.code.few_generators;
        counts = record { at_most_63 = omega (arith, d); plain_counts_are = omega (arith, p, d); undetected_counts_are = omega (arith, u, d) };
      }
