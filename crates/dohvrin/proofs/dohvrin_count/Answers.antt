-- The call, and its answer as hosts see it.
use Rattle.answers.proofs.Hosts.{row_told}
use Rattle.dohvrin.proofs.dohvrin_count.Goals as goal

pub returns : goal.returns
returns c = row_told _ c.count.result c.into.ensures c.count.ensures
