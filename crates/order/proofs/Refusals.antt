-- A refusal has a number that is not 0: what a result says, from what it was refused or passed by.
-- Assumes nothing.
use mathlib.Core.Path.{◌≡◌}
use Prim.Native.Nat.{ℕ}
use native.Mathlib.Omega.{arith}
use Rattle.order.specs.Answer.{Answer, refused, unless, unless_refused}
use Rattle.order.specs.Refusals.{number_of}
use Rattle.order.specs.declared.refusal.Refusal.{Refusal}
use Rattle.order.specs.declared.refusal.Refusal.TheVariants as R
use Rattle.order.proofs.FirstNo.{is_refused, leaves_refused}

pub some_number : (e : Refusal) → number_of e ≡ 0 → ⊥
some_number R.RecordLength h = omega arith
some_number R.LinkKind h = omega arith
some_number R.GeneratorCount h = omega arith
some_number R.Memory h = omega arith
some_number R.WordLength h = omega arith
some_number R.CheckDegree h = omega arith
some_number R.Threshold h = omega arith
some_number R.GeneratorRange h = omega arith
some_number R.GeneratorEnds h = omega arith
some_number R.Room h = omega arith
some_number R.CheckPolynomial h = omega arith
some_number R.WordTooLong h = omega arith
some_number R.TooManyEvents h = omega arith
some_number R.TooManyPaths h = omega arith
some_number R.SharedFactor h = omega arith
some_number R.LengthList h = omega arith

-- what a call answers that questions refuse
module _ {A : Type 0} (answer : Answer A) where
  pub refuses : (e : Refusal) (n : ℕ) → number_of e ≡ n → refused (number_of e) ≡ unless n answer
  refuses e n h = is_refused answer (number_of e) n h (some_number e)

-- the same of a call that is lent something
module _ {A L : Type 0} (lent : L) (outcome : Answer A × L) where
  pub leaves_refusal : (e : Refusal) (n : ℕ) → number_of e ≡ n → ◌≡◌ {A = Answer A × L} (refused (number_of e), lent) (unless_refused n lent outcome)
  leaves_refusal e n h = leaves_refused lent outcome (number_of e) n h (some_number e)
