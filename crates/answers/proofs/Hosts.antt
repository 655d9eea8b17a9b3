-- The structs that hosts see are those of the library's answers.
-- Assumes nothing.
use Prim.Native.Nat.{ℕ, ◌+◌, ◌*◌, ◌^◌, ◌<◌}
use mathlib.Core.Path.{◌≡◌, refl, sym, ap, ap₂, ◌∙◌}
use mathlib.Core.Bool.{Bool, true, false}
use lib.Pow.{high, low}
use mir.Val.{bool_byte}
use Rattle.std.specs.Prelude.{Result, Ok, Err, MatchResult}
use Rattle.order.specs.Answer.{Answer, refusal_number}
use Rattle.order.specs.Answers.{recorded}
use Rattle.order.specs.Order.{Order}
use Rattle.order.specs.Refusals.{number_of, asked, answered_by}
use Rattle.order.specs.declared.record.OrderRecord.{OrderRecord}
use Rattle.order.specs.declared.refusal.Refusal.{Refusal}
use Rattle.row.specs.declared.Row.{Row}
use Rattle.row.specs.Answered.{answered_as}
use Rattle.crc.specs.Answers.{divisibility}
use Rattle.answers.specs.declared.HostAnswer.{HostAnswer}
use Rattle.answers.specs.declared.RowAnswer.{RowAnswer}
use Rattle.answers.specs.declared.Reading.{Reading}
use Rattle.answers.specs.Answers.{refusal_answer, number_answer, word_answer, told, told_with, tested_answer, numbered, row_answer, row_with, reading, reading_of}

-- a word's halves are those of its number
pub word_halves : (l h : ℕ) → l < 2 ^ 64 → ◌≡◌ {A = HostAnswer} record { refusal = 0; value = 0; low = l; high = h } (word_answer (h * 2 ^ 64 + l))
unfolding word_answer
word_halves l h p = ap₂ (λ (x y : ℕ). record { refusal = 0; value = 0; low = x; high = y }) (sym (low h 64 p)) (sym (high h 64 p))

pub test_told : (b : Bool) → number_answer (bool_byte b) ≡ tested_answer (divisibility b)
unfolding number_answer tested_answer
test_told true = refl
test_told false = refl

-- ---- what hosts are told of a call, by what it answers

-- r is how a result was told: its value as it is shown, or the refusal's number
abbrev pub Told : {A B : Type 0} (says : A → B) (shown : B → HostAnswer) → Result A Refusal → HostAnswer → Type 0
Told says shown answered r = MatchResult answered (λ v. r ≡ shown (says v)) (λ e. r ≡ refusal_answer (number_of e))

module _ {A B : Type 0} (says : A → B) (shown : B → HostAnswer) where
  answer_told : (answered : Result A Refusal) (r : HostAnswer) → Told says shown answered r → r ≡ told shown (answered_by says answered)
  unfolding told
  answer_told (Ok v) r m = m
  answer_told (Err e) r m = m

  pub call_told : (answered : Result A Refusal) {r : HostAnswer} {x : Answer B} → Told says shown answered r → answered_by says answered ≡ x → r ≡ told shown x
  call_told answered {r} m e = answer_told answered r m ∙ ap (told shown) e

  pub call_told_with : {L : Type 0} (left : L) (answered : Result A Refusal) {r : HostAnswer} {x : Answer B × L} → Told says shown answered r
      → (answered_by says answered, left) ≡ x → (r, left) ≡ told_with shown x
  unfolding told_with
  call_told_with left answered {r} m e = ap (λ (s : HostAnswer). (s, left)) (answer_told answered r m) ∙ ap (told_with shown) e

module _ {L : Type 0} (left : L) where
  asked_number : (answered : Result (Unit {0}) Refusal) → asked answered ≡ refusal_number (answered_by (λ (done : Unit {0}). done) answered)
  unfolding refusal_number
  asked_number (Ok done) = refl
  asked_number (Err e) = refl

  pub encoding_told : (answered : Result (Unit {0}) Refusal) {r : ℕ} {x : Answer (Unit {0}) × L} → r ≡ asked answered → (answered_by (λ (done : Unit {0}). done) answered, left) ≡ x → (r, left) ≡ numbered x
  unfolding numbered
  encoding_told answered m e = ap (λ (k : ℕ). (k, left)) (m ∙ asked_number answered) ∙ ap numbered e

  pub row_told : (answered : Result Row Refusal) {r : RowAnswer} {x : Answer Row × L} → r ≡ row_answer (answered_as answered) → (answered_as answered, left) ≡ x → (r, left) ≡ row_with x
  unfolding row_with
  row_told answered m e = ap (λ (s : RowAnswer). (s, left)) m ∙ ap row_with e

pub reading_told : (answered : Answer OrderRecord) {r : Reading} (x : Answer Order) → r ≡ reading answered → answered ≡ recorded x → r ≡ reading_of x
unfolding reading_of
reading_told answered x m e = m ∙ ap reading e
