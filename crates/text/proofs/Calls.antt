-- What the calls leave: a refusal with the buffer as it was, or the text in a cleared buffer.
-- Assumes nothing.
use Prim.Native.Nat.{ℕ, ◌-◌, ◌≤◌, ◌<◌}
use native.Mathlib.Nat.{zero-add}
use native.Mathlib.Omega.{arith}
use mathlib.Core.Path.{◌≡◌, sym, ap, ap₂, ◌∙◌}
use mathlib.Core.List.{List, []}
use borrow.Author.Tests.{lt-leb, le-leb}
use lib.ListN.{length, replicate}
use lib.Seq.{sets}
use Rattle.lists.proofs.Stores.{sets_cleared}
use Rattle.order.specs.Questions.{first_no}
use Rattle.order.proofs.Answers.{range}
use Rattle.order.specs.Answer.{Answer, accepted, refused, unless_refused}
use Rattle.order.specs.Answers.{order_in}
use Rattle.order.proofs.FirstNo.{first_no_none, first_no_yes, first_no_no, first_yes, leaves_refused, leaves_answered}
use Rattle.order.proofs.Asked.{room-told, length-order_in}
use Rattle.order.specs.declared.record.OrderRecord.{OrderRecord}
use Rattle.text.specs.Calls.{text_size, laid_out, row_questions, refusal_questions, refusal_call}
use Rattle.lines.specs.Model.Steps.{Put, Counts}
use Rattle.text.specs.Model.Steps.{RowAccepted, Laid}

-- a text that was put into a cleared buffer
pub laid_as : (text buffer : List ℕ) {m : ℕ} {cleared after : List ℕ} {end : ℕ} → m ≤ length buffer → cleared ≡ replicate (length buffer) 0
    → Put m cleared 0 text after end → Laid text buffer after end
laid_as text buffer h c p = record {
  whole = p.stored ∙ ap (λ (l : List ℕ). sets l 0 text) c ∙ sets_cleared (length buffer) 0 text (omega (arith, p.short));
  size = p.next ∙ zero-add (length text);
}

pub written_as_lem : (k : ℕ) (text buffer : List ℕ) {after : List ℕ} {end : ℕ} → 0 ≡ k → Laid text buffer after end
    → ◌≡◌ {A = Answer ℕ × List ℕ} (accepted end, after) (unless_refused k buffer (laid_out text buffer))
unfolding laid_out
written_as_lem k text buffer e l = ap₂ (λ (n : ℕ) (l : List ℕ). (accepted n, l)) l.size l.whole ∙ leaves_answered buffer _ k e

-- ---- a refusal's questions

pub refusal_no_room : (number : ℕ) (buffer : List ℕ) → length buffer < 4096 → ◌≡◌ {A = Answer ℕ × List ℕ} (refused 10, buffer) (refusal_call number buffer)
unfolding refusal_call refusal_questions text_size
refusal_no_room number buffer h =
    leaves_refused buffer _ 10 _ (sym (first_no_no _ [] (lt-leb 4096 (length buffer) h))) (λ e. absurd (omega arith))

pub refusal_room : (buffer : List ℕ) → 4096 ≤ length buffer → 0 ≡ first_no (refusal_questions (length buffer))
unfolding refusal_questions text_size
refusal_room buffer h = sym (first_no_yes _ [] (le-leb 4096 (length buffer) h) ∙ first_no_none)

-- ---- a row's questions

pub row_accepted : (version n d plain undetected size r : ℕ) → r ≡ first_no (row_questions version n d plain undetected size) → r ≡ 0 → RowAccepted n d plain undetected × (4096 ≤ size)
unfolding row_questions text_size
row_accepted version n d plain undetected size r e z =
    let two = first_yes _ _ tt (sym e ∙ z) in
    let three = first_yes _ _ tt two.1 in
    let seven = first_yes _ _ tt three.1 in
    let first = room-told (d - 1) plain _ seven.1 in
    let second = room-told (d - 1) undetected _ first.1 in
    let last = room-told 4096 size _ second.1 in
    let counts : Counts (d - 1) plain undetected = record { at_most_63 = omega (arith, (range 1 64 d seven.0).1); plain_counts_are = first.0; undetected_counts_are = second.0 } in
    (record { at_most_4 = (range 2 4 n three.0).1; counts = counts }, last.0)

-- the questions of an order's struct are those of its order
pub row_asked : (o : OrderRecord) (plain undetected size r : ℕ) → r ≡ first_no (row_questions o.version o.n o.d plain undetected size)
    → r ≡ first_no (row_questions o.version (length (order_in o).generators) o.d plain undetected size)
row_asked o plain undetected size r e = e ∙ ap (λ (n : ℕ). first_no (row_questions o.version n o.d plain undetected size)) (sym (length-order_in o))
