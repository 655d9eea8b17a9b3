-- The first n of four generators are the order's.
use mathlib.Core.Path.{refl}
use Rattle.order.proofs.Asked.{few_in, four_are}
use Rattle.code.proofs.link.Link.generators.Goals as goal

pub shared_ref_as_front-result : goal.shared_ref_as_front-result
shared_ref_as_front-result c = few_in c.args.self.now.order c.args.self.now.accepted

pub returns : goal.returns
returns c = let link = c.args.self.now in four_are link.order link.accepted _ refl link.four
