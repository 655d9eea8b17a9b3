use native.Mathlib.Omega.{arith}
use Rattle.choice.proofs.Candidates.{few_candidates}
use Rattle.choice.proofs.count_candidates.Goals as goal

pub returns : goal.returns
returns c = (c.power.ensures, omega (arith, c.power.ensures, few_candidates c.args.m c.requires.at_most_12))
