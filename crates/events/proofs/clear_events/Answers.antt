-- The record of zeros, as the code makes it, is `no_event`.
use Rattle.std.proofs.Common.{◌∙◌, ap, length, replicate}
use Rattle.events.proofs.Records.{zeros_are}
use Rattle.events.proofs.clear_events.Goals as goal

pub returns : goal.returns
returns c = c.clear.ensures ∙ ap (replicate (length c.args.table.now)) zeros_are
