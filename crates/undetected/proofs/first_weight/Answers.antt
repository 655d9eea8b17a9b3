use native.Mathlib.Omega.{arith}
use Rattle.undetected.proofs.Counted.{before_end}
use Rattle.undetected.proofs.Looking.{looking_begin, looking_on, looking_found, looking_end}
use Rattle.undetected.proofs.first_weight.Goals as goal

pub loop-i-init : goal.loop-i-init
loop-i-init c = looking_begin _ _ _ _

-- the words of entry i end where those of all end, or before
pub overflow_add-to : goal.overflow_add-to
overflow_add-to c =
    omega (arith, c.args.listing.readable.inside, before_end _ c.loop-i.i _ c.loop-i.from c.loop-i-test.true c.loop-i.invariant.placed)

pub count_up_to-requires : goal.count_up_to-requires
count_up_to-requires c =
    let asked = c.requires in
    record {
      ordered = omega arith;
      inside = omega (arith, c.args.listing.readable.inside, before_end _ c.loop-i.i _ c.loop-i.from c.loop-i-test.true c.loop-i.invariant.placed);
    }

pub returns-then-count_up_to-ne0 : goal.returns-then-count_up_to-ne0
returns-then-count_up_to-ne0 c =
    let asked = c.requires in
    looking_found _ _ _ _ c.args.listing.readable asked.divisor c.new-checks.ensures c.count_up_to.ensures c.loop-i.invariant
    c.loop-i-test.true c.if-count_up_to-ne0.true

pub loop-i-preserved : goal.loop-i-preserved
loop-i-preserved c =
    let asked = c.requires in
    looking_on _ _ _ _ c.args.listing.readable asked.divisor c.new-checks.ensures c.count_up_to.ensures c.loop-i.invariant
    c.if-count_up_to-ne0.false

pub returns : goal.returns
returns c = looking_end _ _ _ _ c.args.listing.entries c.loop-i.invariant (omega arith)
