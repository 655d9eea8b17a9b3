-- The call, and its answer as hosts see it.
use mathlib.Core.Path.{ap, ◌∙◌}
use Rattle.order.specs.Answers.{order_in}
use Rattle.text.specs.Calls.{row_call}
use Rattle.answers.specs.Answers.{number_answer}
use Rattle.answers.proofs.Hosts.{call_told_with}
use Rattle.dohvrin.proofs.dohvrin_row_text.Goals as goal

pub returns : goal.returns
returns c =
    let e = c in
    let a = e.args in
    call_told_with (λ n. n) number_answer _ e.write_row.result e.into-2.ensures
    (e.write_row.ensures ∙ ap (λ x. row_call (order_in a.order) x a.plain.now a.undetected.now a.text.now) e.into.ensures)
