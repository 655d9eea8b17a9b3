use native.Mathlib.Omega.{arith}
use mathlib.Core.Path.{◌≡◌, refl, ap, ◌∙◌, subst}
use Prim.Native.Nat.{ℕ, ◌≤◌}
use lib.Dec.{leb}
use lib.ListN.{length, take}
use lib.Seq.{length-take-le}
use Rattle.std.proofs.Common.{get_or-take}
use Rattle.narrowing.specs.Model.Firsts.{LargestBelow}
use Rattle.narrowing.proofs.Largest.{largest_of_part, largest-all}
use Rattle.narrowing.proofs.Written.{written_next}
use Rattle.narrowing.proofs.keep_largest.Goals as goal

pub loop-k-preserved : goal.loop-k-preserved
loop-k-preserved c =
    let long : length (take c.count_candidates-n.result c.args.firsts.ranks) ≤ 2048 = omega (arith, length-take-le c.count_candidates-n.result c.args.firsts.ranks) in
    written_next _ _ _ _ (omega arith) refl c.loop-k.invariant

pub returns : goal.returns
returns c =
    let all = c.count_candidates-n.ensures.0 in
    let ranks = c.args.firsts.ranks in
    let largest = c.largest_rank-largest.result in
    let top = subst (λ (n : ℕ). LargestBelow ranks n largest) all (largest_of_part ranks (omega arith) c.largest_rank-largest.ensures) in
    let long : length (take c.count_candidates-n.result ranks) ≡ c.count_candidates-n.result = length-take-le c.count_candidates-n.result ranks (omega arith) in
    record {
      each = λ k h.
          c.loop-k.invariant.done k (omega arith) ∙ ap (leb largest) (get_or-take c.count_candidates-n.result ranks k 0 (omega arith)) ∙ largest-all _ top k;
    }
