-- The check remainder of a message under a check polynomial p of degree m: appended, stripped, tested; and what the calls answer for every
-- input. The questions of these calls are 5 (from 1, as they take no v), 6, 11 and 12.
-- Assumes nothing.
use Rattle.std.specs.Prelude.{List, [], ◌∷◌, ◌++◌, ℕ, zero, suc, ◌-◌, ◌*◌, ◌/◌, ◌^◌}
use Rattle.poly.specs.Poly.{◌⊕◌, remainder}
use Rattle.order.specs.Questions.{Question, first_no, longest_word, word_length, check_degree, check_polynomial, below}
use Rattle.order.specs.Answer.{Answer, accepted, unless}

-- x^m f plus the remainder of x^m f
unfoldable pub append : ℕ → ℕ → ℕ → ℕ
append m p f = (f * 2 ^ m) ⊕ remainder m p (f * 2 ^ m)

-- what stripping gives: the message of a word whose remainder is 0, or the nonzero remainder
pub data Stripping : Type 0 where
  message : ℕ → Stripping
  damaged : ℕ → Stripping

unfoldable pub stripped : ℕ → ℕ → Stripping
stripped f zero = message f
stripped f (suc r) = damaged (suc r)

unfoldable pub strip : ℕ → ℕ → ℕ → Stripping
strip m p u = stripped (u / 2 ^ m) (remainder m p u)

-- whether p divides the word
pub data Divisibility : Type 0 where
  divisible indivisible : Divisibility

unfoldable pub tested : ℕ → Divisibility
tested zero = divisible
tested (suc r) = indivisible

unfoldable pub test : ℕ → ℕ → ℕ → Divisibility
test m p u = tested (remainder m p u)

-- ---- the calls

-- questions 5, 6 and 11
unfoldable pub polynomial_questions : ℕ → ℕ → ℕ → List Question
polynomial_questions N m p = word_length 1 longest_word N ∷ check_degree N m ∷ check_polynomial m p ∷ []

-- and 12: a word or message of k bits
unfoldable pub word_questions : ℕ → ℕ → ℕ → ℕ → ℕ → List Question
word_questions N m p k u = polynomial_questions N m p ++ (below k u ∷ [])

-- a message has K = N - m bits
unfoldable pub append_call : ℕ → ℕ → ℕ → ℕ → Answer ℕ
append_call N m p f = unless (first_no (word_questions N m p (N - m) f)) (accepted (append m p f))

unfoldable pub strip_call : ℕ → ℕ → ℕ → ℕ → Answer Stripping
strip_call N m p u = unless (first_no (word_questions N m p N u)) (accepted (strip m p u))

unfoldable pub test_call : ℕ → ℕ → ℕ → ℕ → Answer Divisibility
test_call N m p u = unless (first_no (word_questions N m p N u)) (accepted (test m p u))
