-- The first of six tests that fails, or none.
use Prim.Native.Nat.{ℕ, ◌-◌, ◌≤◌}
use mathlib.Core.Path.{◌≡◌, sym, ◌∙◌}
use mathlib.Core.Bool.{true}
use mathlib.Core.List.{[], ◌∷◌}
use borrow.Author.Tests.{le-leb, lt-leb}
use Rattle.order.specs.Questions.{first_no, from_to, highest_version, room}
use Rattle.order.proofs.FirstNo.{first_no_none, first_no_yes, first_no_no}
use Rattle.text.specs.Calls.{text_size, row_questions}
use Rattle.text.proofs.ask_row.Goals.{then-plain-entries-via-then-plain-entries, then-plain-entries-via-else-plain-entries+then-undetected-entries, then-plain-entries-via-else-plain-entries+else-undetected-entries+then-size-lt4096}
use Rattle.text.proofs.ask_row.Goals as goal

-- ---- the first no is among the questions without those that said yes
module _ (version n d plain undetected size : ℕ) (kind : from_to 1 highest_version version ≡ true) (count : from_to 2 4 n ≡ true) (threshold : from_to 1 64 d ≡ true) where
  past_three : first_no (row_questions version n d plain undetected size) ≡ first_no (room (d - 1) plain ∷ room (d - 1) undetected ∷ room text_size size ∷ [])
  unfolding row_questions
  past_three = first_no_yes _ _ kind ∙ first_no_yes _ _ count ∙ first_no_yes _ _ threshold

  past_plain : d - 1 ≤ plain → first_no (row_questions version n d plain undetected size) ≡ first_no (room (d - 1) undetected ∷ room text_size size ∷ [])
  past_plain h = past_three ∙ first_no_yes _ _ (le-leb _ _ h)

  past_both : d - 1 ≤ plain → d - 1 ≤ undetected → first_no (row_questions version n d plain undetected size) ≡ first_no (room text_size size ∷ [])
  past_both h g = past_plain h ∙ first_no_yes _ _ (le-leb _ _ g)

pub returns-then-not-from_to : goal.returns-then-not-from_to
unfolding row_questions
returns-then-not-from_to c = sym (first_no_no _ _ (sym c.from_to.ensures ∙ c.if-not-from_to.true))

pub returns-then-not-from_to-2 : goal.returns-then-not-from_to-2
unfolding row_questions
returns-then-not-from_to-2 c =
    sym (first_no_yes _ _ (sym c.from_to.ensures ∙ c.if-not-from_to.false)
    ∙ first_no_no _ _ (sym c.from_to-2.ensures ∙ c.if-not-from_to-2.true))

pub returns-then-not-from_to-3 : goal.returns-then-not-from_to-3
unfolding row_questions
returns-then-not-from_to-3 c =
    sym (first_no_yes _ _ (sym c.from_to.ensures ∙ c.if-not-from_to.false)
    ∙ first_no_yes _ _ (sym c.from_to-2.ensures ∙ c.if-not-from_to-2.false)
    ∙ first_no_no _ _ (sym c.from_to-3.ensures ∙ c.if-not-from_to-3.true))

pub returns-then-plain-entries : goal.returns-then-plain-entries
unfolding text_size
returns-then-plain-entries c =
    let kind = sym c.from_to.ensures ∙ c.if-not-from_to.false in
    let count = sym c.from_to-2.ensures ∙ c.if-not-from_to-2.false in
    let threshold = sym c.from_to-3.ensures ∙ c.if-not-from_to-3.false in
    elim c.then-plain-entries.branch [
      | then-plain-entries-via-then-plain-entries w ↦
          sym (past_three _ _ _ _ _ _ kind count threshold ∙ first_no_no _ _ (lt-leb _ _ (rw c.counted_weights-entries.ensures at w.if-plain-entries.true)))
      | then-plain-entries-via-else-plain-entries+then-undetected-entries w ↦
          sym (past_plain _ _ _ _ _ _ kind count threshold (rw c.counted_weights-entries.ensures at w.if-plain-entries.false)
          ∙ first_no_no _ _ (lt-leb _ _ (rw c.counted_weights-entries.ensures at w.if-undetected-entries.true)))
      | then-plain-entries-via-else-plain-entries+else-undetected-entries+then-size-lt4096 w ↦
          sym (past_both _ _ _ _ _ _ kind count threshold (rw c.counted_weights-entries.ensures at w.if-plain-entries.false)
          (rw c.counted_weights-entries.ensures at w.if-undetected-entries.false)
          ∙ first_no_no _ _ (lt-leb _ _ w.if-size-lt4096.true))
    ]

pub returns : goal.returns
unfolding text_size
returns c =
    sym (past_both _ _ _ _ _ _ (sym c.from_to.ensures ∙ c.if-not-from_to.false) (sym c.from_to-2.ensures ∙ c.if-not-from_to-2.false) (sym c.from_to-3.ensures ∙ c.if-not-from_to-3.false)
    (rw c.counted_weights-entries.ensures at c.if-plain-entries.false) (rw c.counted_weights-entries.ensures at c.if-undetected-entries.false)
    ∙ first_no_yes _ _ (le-leb _ _ c.if-size-lt4096.false) ∙ first_no_none)
