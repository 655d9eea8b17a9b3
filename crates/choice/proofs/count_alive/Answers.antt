use mathlib.Core.Path.{◌∙◌}
use borrow.Author.Tests.{tests}
use Rattle.std.proofs.Common.{rules}
use Rattle.std.proofs.lemmas.Iterator.{YieldsList-from_slice}
use Rattle.std.proofs.lemmas.Iterator.Consumers.{YieldsList-from_filter, YieldsList-at, count_from_yields_List}
use Rattle.choice.proofs.Flags.{counted-all}
use Rattle.choice.proofs.count_alive.Goals as goal

pub returns : goal.returns
returns c =
    count_from_yields_List c.filter.result _ c.count.ensures.ran
    (YieldsList-from_filter _ (λ b. b) (YieldsList-at c.filter.ensures.source (YieldsList-from_slice c.args.alive.now cc))
    c.filter.ensures.closure (λ x r q k. search (rules, tests)))
    ∙ counted-all _
