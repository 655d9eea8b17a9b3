-- The call, and its answer as hosts see it.
use Rattle.answers.proofs.Hosts.{row_told}
use Rattle.dohvrin.proofs.dohvrin_list.Goals as goal

pub returns : goal.returns
returns c = row_told _ c.list.result c.into.ensures c.list.ensures
