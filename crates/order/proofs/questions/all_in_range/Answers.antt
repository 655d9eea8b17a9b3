use mathlib.Core.Path.{◌∙◌}
use mathlib.Core.Bool.{◌&&◌}
use Prim.Native.Nat.{ℕ, ◌+◌, ◌*◌, ◌%◌, ◌^◌}
use borrow.Author.Tests.{tests}
use lib.Dec.{ltb}
use Rattle.std.proofs.Common.{rules}
use Rattle.std.proofs.lemmas.Iterator.{YieldsList-from_slice}
use Rattle.std.proofs.lemmas.Iterator.Search.{all_from_yields_List}
use Rattle.order.specs.Questions.{in_range}
use Rattle.order.proofs.Answers.{all_same, in_range_same}
use Rattle.order.proofs.questions.all_in_range.Goals as goal

pub returns : goal.returns
returns c =
    let test = λ (g : ℕ). ltb 0 g && ltb g (1 * 2 ^ (c.args.v + 1) % 2 ^ 64) in
    all_from_yields_List test _ _ _ c.all.ensures.ran (YieldsList-from_slice c.args.generators.now cc) (λ x b q k. search (rules, tests))
    ∙ all_same (in_range c.args.v) test (λ g. in_range_same c.args.v g c.requires) _
