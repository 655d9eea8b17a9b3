-- The reasons of refusals, and document 01's (and 02's) numbers of them; what a test and an answer of the library say in the words of `Answer`.
-- Assumes nothing.
use Rattle.std.specs.Prelude.{ℕ, Result, Ok, Err}
use Rattle.order.specs.Answer.{Answer, accepted, refused}
use Rattle.order.specs.declared.refusal.Refusal.{Refusal}
use Rattle.order.specs.declared.refusal.Refusal.TheVariants as R

abbrev pub number_of : Refusal → ℕ
number_of R.RecordLength = 1
number_of R.LinkKind = 2
number_of R.GeneratorCount = 3
number_of R.Memory = 4
number_of R.WordLength = 5
number_of R.CheckDegree = 6
number_of R.Threshold = 7
number_of R.GeneratorRange = 8
number_of R.GeneratorEnds = 9
number_of R.Room = 10
number_of R.CheckPolynomial = 11
number_of R.WordTooLong = 12
number_of R.TooManyEvents = 13
number_of R.TooManyPaths = 14
number_of R.SharedFactor = 16
number_of R.LengthList = 17

-- the number of the refusal, or 0
abbrev pub asked : {A : Type 0} → Result A Refusal → ℕ
asked (Ok x) = 0
asked (Err e) = number_of e

-- what a result says, by what its value says
abbrev pub answered_by : {A B : Type 0} → (A → B) → Result A Refusal → Answer B
answered_by says (Ok x) = accepted (says x)
answered_by says (Err e) = refused (number_of e)
