-- In a cleared buffer.
use Rattle.text.proofs.Calls.{laid_as}
use Rattle.text.proofs.lay_row.Goals as goal

pub returns : goal.returns
returns c =
    let clear = c in
    laid_as _ _ clear.requires clear.clear.ensures c.put_row.ensures
