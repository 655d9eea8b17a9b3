-- What a call answers: its values, or document 01's number of the question that says no.
-- What a result of the library says in these words, `Refusals.antt` has (`answered_by`), and the promises use it.
-- Assumes nothing.
use Rattle.std.specs.Prelude.{ℕ, zero, suc}

pub data Answer (A : Type 0) : Type 0 where
  accepted : A → Answer A
  refused : (number : ℕ) → Answer A

-- document 01's number of an answer: 0 where the call is accepted
unfoldable pub refusal_number : {A : Type 0} → Answer A → ℕ
refusal_number (accepted x) = 0
refusal_number (refused k) = k

-- The answer of a call that is lent nothing: the number of the first question that says no, or else the answer.
unfoldable pub unless : {A : Type 0} → ℕ → Answer A → Answer A
unless zero answer = answer
unless (suc k) answer = refused (suc k)

-- The same of a call that is lent something: an answer and what is left of it. A refusal by a question changes nothing.
unfoldable pub unless_refused : {A L : Type 0} → ℕ → L → Answer A × L → Answer A × L
unless_refused zero lent outcome = outcome
unless_refused (suc k) lent outcome = (refused (suc k), lent)
