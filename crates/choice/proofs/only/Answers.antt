-- A flag for the candidate's own number, in an array of flags that are down.
use native.Mathlib.Omega.{arith}
use Prim.Native.Nat.{ℕ, ◌-◌, ◌/◌}
use mathlib.Core.Path.{ap}
use Rattle.choice.proofs.Candidates.{few_candidates, number_is}
use Rattle.choice.proofs.Offered.{one_offered}
use Rattle.choice.proofs.only.Goals as goal

pub bounds-offered-k : goal.bounds-offered-k
bounds-offered-k c =
    let same = ap (λ (x : ℕ). (c.args.p - x) / 2) c.power.ensures in
    let number = number_is c.args.m c.requires.degree.some_degree c.args.p c.requires.candidate in
    omega (arith, number.0, same, few_candidates c.args.m c.requires.degree.at_most_12)

pub returns : goal.returns
returns c =
    let same = ap (λ (x : ℕ). (c.args.p - x) / 2) c.power.ensures in
    let number = number_is c.args.m c.requires.degree.some_degree c.args.p c.requires.candidate in
    one_offered c.args.m ((c.args.p - c.power.result) / 2) c.args.p c.requires.degree.at_most_12
    (omega (arith, number.0, same)) (omega (arith, number.1, same))
