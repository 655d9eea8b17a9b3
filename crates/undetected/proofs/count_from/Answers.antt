use mathlib.Core.Path.{◌≡◌, ap, ◌∙◌}
use mathlib.Core.List.{List}
use Prim.Native.Nat.{ℕ}
use native.Mathlib.Omega.{arith}
use lib.ListN.{set}
use Rattle.undetected.proofs.Counted.{before_next, before_end, counted-weight, counted_none, counted_next}
use Rattle.undetected.proofs.count_from.Goals as goal

pub loop-j-init : goal.loop-j-init
loop-j-init c =
    let asked = c.requires in
    (asked.placed, counted_none _ _ _ _ _ _)

-- the words of entry j end where those of all end, or before
pub overflow_add-next : goal.overflow_add-next
overflow_add-next c =
    omega (arith, c.args.listing.readable.inside, before_end _ c.loop-j.j _ c.loop-j.at c.loop-j-test.true c.loop-j.invariant.0)

pub count_up_to-requires : goal.count_up_to-requires
count_up_to-requires c =
    let asked = c.requires.each in
    record {
      ordered = omega arith;
      inside = omega (arith, c.args.listing.readable.inside, before_end _ c.loop-j.j _ c.loop-j.at c.loop-j-test.true c.loop-j.invariant.0);
    }

pub loop-j-preserved : goal.loop-j-preserved
loop-j-preserved c =
    let i = c.loop-j.invariant in
    let asked = c.requires.each in
    let j = c.loop-j.j in
    let r = c.count_up_to.result in
    let one =
    counted-weight _ _ _ _ _ _ c.args.listing.readable asked.divisor _ _ j _ r c.new-checks.ensures i.0
    c.count_up_to.ensures in (
      omega (arith, before_next c.args.listing.plain.now j),
      ap (λ (u : List ℕ). set u j r) i.1
          ∙ counted_next _ _ _ _ _ j _ (omega arith) r (omega (arith, asked.counts, c.loop-j-test.true)) one,
    )

pub returns : goal.returns
returns c =
    let all : c.loop-j.j ≡ c.args.listing.entries = omega (arith, c.requires.begun) in
    rw all at c.loop-j.invariant.1
