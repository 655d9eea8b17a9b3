use mathlib.Core.Path.{sym, ap, ◌∙◌}
use mathlib.Core.Bool.{Bool, ◌&&◌}
use Rattle.std.proofs.Common.{ℕ, ltb, rules}
use Rattle.std.proofs.lemmas.List.Sorted.{answers_always}
use Rattle.set.specs.Calls.{falling}
use Rattle.set.proofs.Lists.{is_falling}
use Rattle.set.proofs.is_length_list.Goals as goal

pub returns-then-from_to : goal.returns-then-from_to
returns-then-from_to c =
    let l = c.args.lengths.now in
    is_falling l _ (c.is_sorted_by.ensures.cases (λ (x y : ℕ). ltb y x) (answers_always _ _ _ (λ f a r f' called. search rules)))
    ∙ sym (ap (λ (b : Bool). b && falling l) (sym c.from_to.ensures ∙ c.if-from_to.true))
