use mathlib.Core.Path.{◌∙◌}
use Prim.Native.Nat.{ℕ}
use borrow.Author.Tests.{tests}
use lib.Dec.{eqb}
use Rattle.std.proofs.Common.{rules}
use Rattle.std.proofs.lemmas.Iterator.{YieldsList-from_slice}
use Rattle.std.proofs.lemmas.Iterator.Search.{any_from_yields_List}
use Rattle.poly.specs.Poly.{bit}
use Rattle.order.specs.Questions.{has_bit}
use Rattle.order.proofs.Answers.{any_same, has_bit_same}
use Rattle.order.proofs.questions.some_has_bit.Goals as goal

pub returns : goal.returns
returns c =
    let test = λ (g : ℕ). eqb (bit c.args.j g) 1 in
    any_from_yields_List test _ _ _ c.any.ensures.ran (YieldsList-from_slice c.args.generators.now cc) (λ x b q k. search (rules, tests))
    ∙ any_same (has_bit c.args.j) test (has_bit_same c.args.j) _
