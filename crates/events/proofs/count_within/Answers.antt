-- The items that the closure lets through are the entries that the model counts, read one by one.
use Rattle.std.proofs.Common.{◌≡◌, Bool, cond, List, [], ◌∷◌, refl, sym, ap, ◌∙◌, length, get_or, rules, tests}
use Rattle.std.specs.List as S
use Rattle.std.proofs.lemmas.Iterator.{YieldsList-from_slice}
use Rattle.std.proofs.lemmas.Iterator.Consumers.{YieldsList-from_filter, YieldsList-at, count_from_yields_List}
use native.Mathlib.Nat.{le_refl}
use lib.Dec.{leb}
use Rattle.std.proofs.Math.Seq.{take-length}
use Rattle.lists.specs.Lists.{up_from, filter, count}
use Rattle.lists.proofs.Lengths.{take-get_or}
use Rattle.lists.proofs.Filters.{count_map}
use Rattle.events.specs.declared.Event.{Event}
use Rattle.events.specs.Events.{no_event}
use Rattle.events.specs.Model.Counting.{count_within}
use Rattle.events.proofs.count_within.Goals as goal

-- std's filter is that of `lists`
filtered : (f : Event → Bool) (xs : List Event) → S.filter f xs ≡ filter f xs
unfolding filter
filtered f [] = refl
filtered f (x ∷ xs) = ap (λ (rest : List Event). cond (f x) (x ∷ rest) rest) (filtered f xs)

pub returns : goal.returns
unfolding count_within count
returns c =
    let a = c.args in
    let all = a.events.now in
    let short : Event → Bool = λ e. leb e.length a.steps in
    count_from_yields_List _ _ c.count.ensures.ran (YieldsList-from_filter _ short (YieldsList-at c.filter.ensures.source (YieldsList-from_slice all cc)) c.filter.ensures.closure (λ x r q k. search (rules, tests)))
    ∙ ap length (filtered short all) ∙ ap (count short) (sym (take-length all) ∙ take-get_or no_event all (length all) (le_refl (length all)))
    ∙ count_map short (λ k. get_or all k no_event) (up_from 0 (length all))
