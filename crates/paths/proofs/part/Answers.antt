-- Refused at weight 0, past the counts or past the table; or the part between two places.
use native.Mathlib.Omega.{arith}
use Rattle.order.specs.Order.{of_weight}
use Rattle.paths.proofs.Parts.{no_weight_0, no_count, starts_past, ends_past, fits}
use Rattle.paths.proofs.part.Goals as goal

pub returns-then-w-eq0-clause-number : goal.returns-then-w-eq0-clause-number
returns-then-w-eq0-clause-number c = no_weight_0 _ _ _ c.if-w-eq0.true

pub returns-then-counts-w-clause-number : goal.returns-then-counts-w-clause-number
returns-then-counts-w-clause-number c = let a = c.args in no_count a.counts.now a.w a.table.now (omega arith) (omega arith)

pub returns-in_default-clause-number : goal.returns-in_default-clause-number
returns-in_default-clause-number c = let a = c.args in starts_past a.counts.now a.w a.table.now (omega arith) (omega arith) c.in_default.ensures

pub returns-then-here-limit-clause-number : goal.returns-then-here-limit-clause-number
unfolding of_weight
returns-then-here-limit-clause-number c =
    let a = c.args in
    (fits a.counts.now a.w a.table.now (omega arith) (omega arith) _ c.in-Some.ensures (omega arith)).1

pub returns-then-here-limit-clause-words : goal.returns-then-here-limit-clause-words
unfolding of_weight
returns-then-here-limit-clause-words c =
    let a = c.args in
    (fits a.counts.now a.w a.table.now (omega arith) (omega arith) _ c.in-Some.ensures (omega arith)).0

pub returns-else-here-limit-clause-number : goal.returns-else-here-limit-clause-number
unfolding of_weight
returns-else-here-limit-clause-number c =
    let a = c.args in
    ends_past a.counts.now a.w a.table.now (omega arith) (omega arith) _ c.in-Some.ensures (omega arith)
