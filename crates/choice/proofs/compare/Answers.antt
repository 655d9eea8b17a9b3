use native.Mathlib.Omega.{arith}
use mathlib.Core.Path.{◌≡◌, refl, sym, ap, ap₂, ◌∙◌}
use mathlib.Core.Bool.{Bool, true, false}
use mathlib.Core.List.{List}
use Prim.Native.Nat.{ℕ, ◌+◌, ◌≤◌, ◌<◌}
use lib.ListN.{length, get_or}
use Rattle.parity.specs.Model.Parity.{check_table, Divisor}
use Rattle.paths.specs.Part.{paths_to}
use Rattle.paths.proofs.Parts.{sum_none}
use Rattle.undetected.specs.Model.Steps.{divided_counts, even_between, up_to, Readable}
use Rattle.undetected.proofs.Counted.{before_next, before_end}
use Rattle.choice.specs.Model.Steps.{ToCompare}
use Rattle.choice.proofs.Candidates.{candidate_divisor}
use Rattle.choice.proofs.Flags.{dropped_filled}
use Rattle.choice.proofs.Weighed.{Agree, Verdict, verdict}
use Rattle.choice.proofs.Comparing.{best_of, best-length, Met, met_same, met_limit}
use Rattle.choice.proofs.Comparing.{first_offered, met_begin, met_down, met_worse, met_better, met_level, met_end}
use Rattle.choice.proofs.compare.Goals as goal

-- ---- what holds while entries are compared

module _ {m entries first k j : ℕ} (p : ℕ) {offered alive : List Bool} {table plain before after : List ℕ}
    (asked : ToCompare entries m offered first table plain before) (met : Met m entries offered first table plain before after alive k)
    (within : j ≤ entries) (level : Agree j (divided_counts m table plain entries p) after) where
  -- the best counts are read from the list
  agree : Agree j (divided_counts m table plain entries p) (best_of m offered first table plain entries k)
  agree i h = level i h ∙ met_limit asked met i (omega arith)

  -- once the words of entry j are counted
  judged : {bits : ℕ} {rows : List ℕ} {n at found : ℕ} → Readable bits entries table plain → Divisor m p → (rows ≡ check_table bits m p) × (n ≡ m) → at ≡ paths_to plain j → j < entries
      → found ≡ up_to (get_or after j 0) (even_between rows n table at (at + get_or plain j 0))
      → Verdict j (get_or after j 0) found (best_of m offered first table plain entries k) (divided_counts m table plain entries p)
  judged readable divisor made placed h counted =
      verdict readable divisor j made placed h (best-length asked k) agree (met_limit asked met j h) counted

-- ---- the goals, in the order of the code

pub overflow_step-k : goal.overflow_step-k
overflow_step-k c = omega (arith, (first_offered c.requires).0)

pub candidates-init : goal.candidates-init
candidates-init c = met_begin c.requires

pub candidates-preserved-then-not-alive-k : goal.candidates-preserved-then-not-alive-k
candidates-preserved-then-not-alive-k c = met_down c.requires c.candidates.invariant c.if-not-alive-k.true

pub loop-j-init : goal.loop-j-init
loop-j-init c = record {
  same-list = refl;
  same_flags = refl;
  placed = sum_none _;
  agree = λ i h. absurd (omega arith);
}

pub overflow_add-next : goal.overflow_add-next
overflow_add-next c =
    let ends = before_end c.args.listing.plain.now c.loop-j.j c.args.listing.entries c.loop-j.at c.loop-j-test.true c.loop-j.invariant.placed in
    omega (arith, c.args.listing.readable.inside, ends)

pub count_up_to-found-requires : goal.count_up_to-found-requires
count_up_to-found-requires c =
    let ends = before_end c.args.listing.plain.now c.loop-j.j c.args.listing.entries c.loop-j.at c.loop-j-test.true c.loop-j.invariant.placed in
    record {
      ordered = omega arith;
      inside = omega (arith, c.args.listing.readable.inside, ends);
    }

pub candidates-preserved-then-best-found : goal.candidates-preserved-then-best-found
candidates-preserved-then-best-found c =
    let asked = c.requires in
    let i = c.loop-j.invariant in
    let met = met_same i.same-list i.same_flags c.candidates.invariant in
    let divisor = candidate_divisor asked.choose.degree c.count_candidates-n.ensures.0 c.candidates-test.true c.candidate-p.ensures in
    let v =
    judged _ asked met (omega arith) i.agree c.args.listing.readable divisor c.new-checks.ensures i.placed c.loop-j-test.true c.count_up_to-found.ensures in
    met_worse asked c.candidate-p.ensures met (v.worse c.if-best-found.true)

pub candidates-preserved-then-found-best : goal.candidates-preserved-then-found-best
candidates-preserved-then-found-best c =
    let asked = c.requires in
    let i = c.loop-j.invariant in
    let met = met_same i.same-list i.same_flags c.candidates.invariant in
    let divisor = candidate_divisor asked.choose.degree c.count_candidates-n.ensures.0 c.candidates-test.true c.candidate-p.ensures in
    let v =
    judged _ asked met (omega arith) i.agree c.args.listing.readable divisor c.new-checks.ensures i.placed c.loop-j-test.true c.count_up_to-found.ensures in
    let offer : get_or c.loop-j.alive c.candidates.k false ≡ true =
    ap (λ (flags : List Bool). get_or flags c.candidates.k false) i.same_flags ∙ c.if-not-alive-k.false in
    let inside : c.candidates.k ≤ length c.loop-j.alive =
    omega arith in
    let dropped = dropped_filled c.candidates.k c.loop-j.alive (c.fill.ensures.after (λ y same. same)) inside in
    met_better asked c.candidate-p.ensures met offer
    (v.better c.if-found-best.true) c.loop-j.j (omega arith) (agree _ asked met (omega arith) i.agree) dropped c.count_from.ensures

pub loop-j-preserved : goal.loop-j-preserved
loop-j-preserved c =
    let asked = c.requires in
    let i = c.loop-j.invariant in
    let met = met_same i.same-list i.same_flags c.candidates.invariant in
    let divisor = candidate_divisor asked.choose.degree c.count_candidates-n.ensures.0 c.candidates-test.true c.candidate-p.ensures in
    let v =
    judged _ asked met (omega arith) i.agree c.args.listing.readable divisor c.new-checks.ensures i.placed c.loop-j-test.true c.count_up_to-found.ensures in
    record {
      same-list = i.same-list;
      same_flags = i.same_flags;
      placed = ap₂ ◌+◌ i.placed refl ∙ sym (before_next _ _);
      agree = λ x h. v.level (omega arith) x h ∙ sym (met_limit asked met x (omega arith));
    }

pub candidates-preserved : goal.candidates-preserved
candidates-preserved c =
    let asked = c.requires in
    let i = c.loop-j.invariant in
    let met = met_same i.same-list i.same_flags c.candidates.invariant in
    met_level asked c.candidate-p.ensures met
    (λ x h. agree _ asked met (omega arith) i.agree x (omega arith))

pub returns : goal.returns
returns c = met_end c.requires (omega (arith, (first_offered c.requires).0)) c.candidates.invariant
