-- The call, and its answer as hosts see it.
use Rattle.answers.proofs.Hosts.{reading_told}
use Rattle.dohvrin.proofs.dohvrin_read_order.Goals as goal

pub returns : goal.returns
returns c = reading_told _ _ c.into.ensures c.read_order.ensures
