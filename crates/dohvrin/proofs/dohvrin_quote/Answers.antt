-- The call, and its answer as hosts see it.
use Rattle.answers.proofs.Hosts.{row_told}
use Rattle.dohvrin.proofs.dohvrin_quote.Goals as goal

pub returns : goal.returns
returns c = row_told _ c.quote.result c.into.ensures c.quote.ensures
