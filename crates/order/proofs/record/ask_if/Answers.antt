-- Not asked, answered with yes, or with no.
use mathlib.Core.Path.{sym, ◌∙◌}
use mathlib.Core.Logic.{inl, inr}
use Rattle.order.proofs.FirstNo.{first_no_none, first_no_yes, first_no_no}
use Rattle.order.proofs.Asked.{not_taken, taken_said}
use Rattle.order.proofs.record.ask_if.Goals as goal

pub returns-then-not-yes : goal.returns-then-not-yes
returns-then-not-yes c = sym (first_no_no _ _ c.if-not-yes.true) ∙ taken_said _ _ c.if-taken.true

pub returns : goal.returns
returns c = elim c.else-taken.either [
  | inl both ↦ sym (first_no_yes _ _ both.1 ∙ first_no_none) ∙ taken_said _ _ both.0
  | inr not_asked ↦ not_taken _ _ not_asked
]
