use mathlib.Core.Path.{◌∙◌}
use Rattle.std.proofs.Common.{ℕ, refl, rules}
use Rattle.std.proofs.lemmas.Iterator.{YieldsList-from_slice}
use Rattle.std.proofs.lemmas.Iterator.Search.{all_from_yields_List}
use Rattle.order.specs.Questions.{from_to, longest_word}
use Rattle.order.proofs.Answers.{all_same}
use Rattle.set.proofs.all_long_enough.Goals as goal

pub returns : goal.returns
returns c =
    let test = λ (bits : ℕ). from_to c.args.v longest_word bits in
    all_from_yields_List test _ _ _ c.all.ensures.ran (YieldsList-from_slice c.args.lengths.now cc) (λ x b q k. search rules)
    ∙ all_same test test (λ bits. refl) _
