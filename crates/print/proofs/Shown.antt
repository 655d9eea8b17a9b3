-- The text that is left, by what the search answered, and for who writes it out.
-- Assumes nothing.
use Prim.Native.Nat.{ℕ, ◌-◌, ◌≤◌}
use native.Mathlib.Omega.{arith}
use mathlib.Core.Path.{◌≡◌, ap, ◌∙◌, subst}
use mathlib.Core.List.{List}
use lib.ListN.{length, replicate, length-append}
use Rattle.lists.specs.Lists.{padded}
use Rattle.order.specs.Order.{Order}
use Rattle.search.specs.Calls.{search_call}
use Rattle.text.specs.Text.{answer_text}
use Rattle.text.specs.Model.Steps.{Laid}
use Rattle.print.specs.Printed.{lent, printed_search}
use Rattle.print.specs.Model.Steps.{Counted, counted}

pub search_shown : (o : Order) (c : Counted) (before after : List ℕ) (end : ℕ) → c ≡ counted (search_call o lent)
    → Laid (answer_text o c.0 c.1.0 c.1.1) before after end → Laid (printed_search o (search_call o lent)) before after end
unfolding printed_search counted
search_shown o c before after end e h = subst (λ (x : Counted). Laid (answer_text o x.0 x.1.0 x.1.1) before after end) e h

pub as_text : {text other before after : List ℕ} {end : ℕ} → text ≡ other → Laid text before after end
    → (after ≡ padded (length before) 0 other) × (end ≡ length other)
as_text {before = before} e h = (h.whole ∙ ap (padded (length before) 0) e, h.size ∙ ap length e)

pub size_within : (n end : ℕ) (text after : List ℕ) → after ≡ padded n 0 text → end ≡ length text → end ≤ length after
unfolding padded
size_within n end text after e s =
    let all = ap length e ∙ length-append text (replicate (n - length text) 0) in
    omega (arith, all, s)
