-- At the start, below i, or the lesser of the two ways.
use Rattle.needed.proofs.Filling.{least_at_start, least_off_start, least_below, least_found}
use Rattle.needed.proofs.tables.least_to.Goals as goal

pub returns-then-s-i : goal.returns-then-s-i
returns-then-s-i c = least_at_start _ _ _ _ c.if-t-eq0.true c.if-s-i.true

pub returns-then-t-eq0 : goal.returns-then-t-eq0
returns-then-t-eq0 c = least_off_start _ _ _ _ c.if-t-eq0.true c.if-s-i.false

pub returns-then-s-i-2 : goal.returns-then-s-i-2
returns-then-s-i-2 c = least_below _ _ _ _ c.if-t-eq0.false c.if-s-i-2.true

pub returns : goal.returns
returns c =
    least_found _ _ _ _ _ _ _ _ c.if-t-eq0.false c.if-s-i-2.false c.through-a.ensures c.through-b.ensures c.min.ensures c.min-2.ensures
