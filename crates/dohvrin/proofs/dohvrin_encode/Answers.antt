-- The call, and its answer as hosts see it.
use mathlib.Core.Path.{ap, ◌∙◌}
use Rattle.order.specs.Answers.{order_in}
use Rattle.code.specs.Calls.{encode_call}
use Rattle.answers.proofs.Hosts.{encoding_told}
use Rattle.dohvrin.proofs.dohvrin_encode.Goals as goal

pub returns : goal.returns
returns c =
    let e = c in
    encoding_told _ e.encode.result e.refusal_number.ensures (e.encode.ensures ∙ ap (λ u. encode_call (order_in e.args.order) u e.args.output.now) e.make.ensures)
