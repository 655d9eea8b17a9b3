use native.Mathlib.Nat.{mul-le-mul_right}
use native.Mathlib.Omega.{arith}
use mathlib.Core.Path.{◌≡◌, ap, ◌∙◌}
use mathlib.Core.List.{List}
use Prim.Native.Nat.{ℕ, ◌+◌, ◌*◌, ◌^◌, ◌≤◌, ◌<◌}
use lib.ListN.{get_or}
use Rattle.undetected.specs.FirstUndetected.{first_above0}
use Rattle.undetected.specs.Model.Steps.{divided_counts}
use Rattle.undetected.proofs.FirstUndetected.{first_to}
use Rattle.undetected.proofs.Counts.{length-divided_counts}
use Rattle.choice.proofs.Candidates.{candidate_divisor}
use Rattle.narrowing.proofs.Written.{written_next}
use Rattle.narrowing.proofs.add_firsts.Invariants.{onTop}
use Rattle.narrowing.proofs.add_firsts.Goals as goal

on-top : (m entries : ℕ) (table plain : List ℕ) (scale : ℕ) (ranks : List ℕ) (k : ℕ) {w p : ℕ}
    → w ≡ first_above0 1 (divided_counts m table plain entries p) → p ≡ 2 ^ m + 2 * k + 1
    → w * scale + get_or ranks k 0 ≡ onTop m entries table plain scale ranks k
on-top m entries table plain scale ranks k first named =
    ap (λ (x : ℕ). x * scale + get_or ranks k 0) (first ∙ ap (λ (q : ℕ). first_above0 1 (divided_counts m table plain entries q)) named)

-- a first weight is at most 64
most : (m p entries w : ℕ) (table plain : List ℕ) → entries ≤ 63 → w ≡ first_above0 1 (divided_counts m table plain entries p) → w ≤ 64
most m p entries w table plain few e =
    omega (arith, first_to 1 (divided_counts m table plain entries p), length-divided_counts m p table plain entries)

-- the sum stays far below 2 ^ 64
room : (w scale rank : ℕ) → w ≤ 64 → rank < scale → scale ≤ 128 ^ 7 → w * scale + rank ≤ 65 * 128 ^ 7
room w scale rank few had seven = omega (arith, mul-le-mul_right scale few)

pub first_weight-first-requires : goal.first_weight-first-requires
first_weight-first-requires c =
    let asked = c.requires in
    record {
      divisor = candidate_divisor asked.degree c.count_candidates-n.ensures.0 c.loop-k-test.true c.candidate.ensures;
      few = asked.few;
    }

pub overflow_mul-ranks : goal.overflow_mul-ranks
overflow_mul-ranks c =
    let few = most _ _ _ _ _ _ c.requires.few c.first_weight-first.ensures in
    let had = c.requires.below c.loop-k.k (omega arith) in
    record { fits = omega (arith, room c.first_weight-first.result _ _ few had c.requires.seven) }

pub overflow_add-ranks : goal.overflow_add-ranks
overflow_add-ranks c =
    let few = most _ _ _ _ _ _ c.requires.few c.first_weight-first.ensures in
    let had = c.requires.below c.loop-k.k (omega arith) in
    record { fits = omega (arith, room c.first_weight-first.result _ _ few had c.requires.seven) }

pub loop-k-preserved : goal.loop-k-preserved
loop-k-preserved c =
    let mine = on-top _ _ _ _ c.args.firsts.scale c.args.firsts.ranks c.loop-k.k c.first_weight-first.ensures c.candidate.ensures in
    let inside : c.loop-k.k < 2048 = omega arith in
    written_next _ _ _ _ inside mine c.loop-k.invariant
