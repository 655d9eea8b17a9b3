use Rattle.std.proofs.lemmas.Iterator.{YieldsList-from_slice}
use Rattle.std.proofs.lemmas.Iterator.Consumers.{YieldsList-from_copied, YieldsList-at, max_from_yields_List}
use Rattle.narrowing.proofs.Largest.{largest_of}
use Rattle.narrowing.proofs.largest_rank.Goals as goal

pub returns : goal.returns
returns c =
    largest_of c.args.ranks.now _
    (max_from_yields_List c.copied.result _ c.max.ensures.ran
    (YieldsList-from_copied (YieldsList-at c.copied.ensures.source (YieldsList-from_slice c.args.ranks.now cc))))
    c.unwrap_or.ensures
