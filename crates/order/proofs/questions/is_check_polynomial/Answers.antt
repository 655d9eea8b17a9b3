-- No 64-bit number has a degree above 63.
use native.Mathlib.Omega.{arith}
use mathlib.Core.Path.{sym, ◌∙◌}
use Rattle.lists.proofs.Tests.{and_no}
use Rattle.order.proofs.Answers.{no_such_degree}
use Rattle.order.proofs.questions.is_check_polynomial.Goals as goal
use Rattle.order.proofs.questions.is_check_polynomial.Goals.{then-m-lt64, else-m-lt64}

pub returns-else-p-m-eq1 : goal.returns-else-p-m-eq1
returns-else-p-m-eq1 c = c.if-p-m-eq1.false ∙ elim c.if-m-lt64.branch [
  | then-m-lt64 w ↦ and_no _ _ (sym w.value-is ∙ c.if-p-m-eq1.false)
  | else-m-lt64 w ↦ and_no _ _ (no_such_degree c.args.m c.args.p (omega arith) (omega arith))
]
