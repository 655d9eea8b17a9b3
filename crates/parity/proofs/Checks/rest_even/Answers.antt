-- The rows are asked one by one, as the range has them.
use mathlib.Core.Path.{◌≡◌, refl, ◌∙◌}
use Prim.Native.Nat.{◌-◌}
use native.Mathlib.Omega.{arith}
use borrow.Author.Rules.{rules}
use borrow.Author.Tests.{tests}
use Rattle.std.specs.List.{list_all, range_with_len}
use Rattle.std.proofs.lemmas.Iterator.{YieldsList-from_range}
use Rattle.std.proofs.lemmas.Iterator.Search.{all_from_yields_List}
use Rattle.parity.specs.Model.Parity.{even}
use Rattle.parity.proofs.Even.{rows_asked}
use Rattle.parity.proofs.Checks.rest_even.Goals as goal

pub returns : goal.returns
unfolding even
returns c =
    let a = c.args in
    let told : c.all.result ≡ list_all (even a.self.now.rows a.word.low a.word.high) (range_with_len a.first (a.self.now.count - a.first)) =
    all_from_yields_List (even a.self.now.rows a.word.low a.word.high) _ _ c.all.result c.all.ensures.ran (YieldsList-from_range a.first a.self.now.count _ refl refl) (λ x b q k. search (rules, tests)) in
    told ∙ rows_asked _ _ _ _ _ a.first (omega arith)
