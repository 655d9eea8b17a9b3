-- The counts of the first that is offered, the comparison with all others, and who is left.
use native.Mathlib.Omega.{arith}
use mathlib.Core.Path.{◌≡◌, sym, ap, ◌∙◌}
use mathlib.Core.Bool.{Bool, true, false}
use mathlib.Core.List.{List}
use Prim.Native.Nat.{ℕ, ◌-◌, ◌^◌, ◌<◌}
use lib.ListN.{get_or}
use lib.Seq.{length-take-le}
use Rattle.paths.proofs.Parts.{sum_none}
use Rattle.choice.specs.Choice.{first_of}
use Rattle.choice.specs.Model.Steps.{alive_below}
use Rattle.choice.proofs.Candidates.{candidate_divisor}
use Rattle.choice.proofs.Flags.{all_of_part, first_of_part, some_of_part}
use Rattle.choice.proofs.Offered.{Up, first_is_up, in_alive}
use Rattle.choice.proofs.Choosing.{first_below, some_left, first_counted, left_counted, left_first, left_listed}
use Rattle.choice.proofs.choose.Goals as goal

-- the first that is offered is a candidate
first_up : (m n first : ℕ) (flags : List Bool) → n ≡ 2 ^ (m - 1) → (k : ℕ) × (k < 2 ^ (m - 1)) × (get_or flags k false ≡ true)
    → first ≡ first_of (alive_below flags n) → Up flags n first
first_up m n first flags all some e = first_is_up flags n (omega (arith, some.1), some.2) e

pub slice_bounds-first_alive-end : goal.slice_bounds-first_alive-end
slice_bounds-first_alive-end c =
    sym (length-take-le c.count_candidates-n.result c.args.offered (omega arith))

pub unwrap-first-requires : goal.unwrap-first-requires
unwrap-first-requires c =
    let some = c.requires.some_offered in
    some_of_part c.args.offered c.count_candidates-n.result (omega arith)
    (in_alive c.args.offered c.count_candidates-n.result (omega (arith, c.count_candidates-n.ensures.0, some.1), some.2)) c.first_alive.ensures

pub candidate-requires : goal.candidate-requires
candidate-requires c =
    let first = first_of_part c.args.offered c.count_candidates-n.result (omega arith)
    c.unwrap-first.ensures c.first_alive.ensures in
    let up = first_up _ _ _ _ c.count_candidates-n.ensures.0 c.requires.some_offered first in
    record { degree = c.requires.degree; below = omega (arith, c.count_candidates-n.ensures.0, up.0) }

pub count_from-requires : goal.count_from-requires
count_from-requires c =
    let first = first_of_part c.args.offered c.count_candidates-n.result (omega arith)
    c.unwrap-first.ensures c.first_alive.ensures in
    let asked = c.requires in
    let up = first_up _ _ _ _ c.count_candidates-n.ensures.0 asked.some_offered first in
    record {
      each = record {
        divisor = candidate_divisor asked.degree c.count_candidates-n.ensures.0 up.0 c.candidate.ensures;
        counts = asked.counts;
      };
      begun = omega arith;
      placed = sum_none _;
    }

pub compare-alive-requires : goal.compare-alive-requires
compare-alive-requires c =
    let first = first_of_part c.args.offered c.count_candidates-n.result (omega arith)
    c.unwrap-first.ensures c.first_alive.ensures in
    let asked = c.requires in
    record {
      choose = record {
        degree = asked.degree;
        counts = omega (arith, c.count_from.auto.undetected, asked.counts);
        some_offered = asked.some_offered;
      };
      first_up = first ∙ ap (λ (n : ℕ). first_of (alive_below c.args.offered n)) c.count_candidates-n.ensures.0;
      first_counted = first_counted _ _ _ _ _ _ _ _ c.candidate.ensures c.count_from.ensures;
    }

-- ---- once the others are compared

pub slice_bounds-left-end : goal.slice_bounds-left-end
slice_bounds-left-end c =
    sym (length-take-le c.count_candidates-n.result c.compare-alive.result (omega arith))

pub unwrap-named-requires : goal.unwrap-named-requires
unwrap-named-requires c =
    some_of_part c.compare-alive.result c.count_candidates-n.result (omega arith)
    (some_left _ _ _ _ _ _ _ c.count_candidates-n.ensures.0 c.requires.some_offered c.compare-alive.ensures.0).1 c.first_alive-2.ensures

pub candidate-requires-2 : goal.candidate-requires-2
candidate-requires-2 c =
    let first = first_of_part c.compare-alive.result c.count_candidates-n.result (omega arith)
    c.unwrap-named.ensures c.first_alive-2.ensures in
    let asked = c.requires in
    record {
      degree = asked.degree;
      below = first_below _ _ _ _ _ _ _ c.count_candidates-n.ensures.0 asked.some_offered c.compare-alive.ensures.0 _ first;
    }

pub returns : goal.returns
returns c =
    let first = first_of_part c.compare-alive.result c.count_candidates-n.result (omega arith)
    c.unwrap-named.ensures c.first_alive-2.ensures in
    let all = all_of_part c.compare-alive.result c.count_candidates-n.result (omega arith) c.count_alive-shared.ensures in
    let some = c.requires.some_offered in
    let left = c.compare-alive.ensures.0 in
    record {
      how_many = left_counted _ _ _ _ _ _ _ c.count_candidates-n.ensures.0 some left _ all;
      first = left_first _ _ _ _ _ _ _ c.count_candidates-n.ensures.0 some left _ _ first c.candidate-2.ensures;
      listed = left_listed _ _ _ _ _ _ _ _ _ c.count_from.ensures c.compare-alive.ensures.1;
    }
