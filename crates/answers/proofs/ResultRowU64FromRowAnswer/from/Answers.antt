-- A row, or a refusal.
use native.Mathlib.Omega.{arith}
use mathlib.Core.Path.{refl, sym}
use Rattle.order.proofs.FirstNo.{is_refused, is_answered}
use Rattle.answers.specs.Answers.{answer_in}
use Rattle.answers.proofs.ResultRowU64FromRowAnswer.from.Goals as goal

pub returns-in-0 : goal.returns-in-0
unfolding answer_in
returns-in-0 c = is_answered _ _ (sym c.in-0.is)

pub returns-in_default : goal.returns-in_default
unfolding answer_in
returns-in_default c = is_refused _ _ _ refl (λ z. omega arith)
