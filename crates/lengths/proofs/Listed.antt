-- What a filled path table and its plain counts tell of a polynomial: they can be read, and the words that it divides are the undetected ones.
-- Assumes nothing.
use Prim.Native.Nat.{ℕ, ◌-◌, ◌*◌, ◌≤◌}
use native.Mathlib.Omega.{arith}
use mathlib.Core.Path.{◌≡◌, ap₂, ◌∙◌}
use mathlib.Core.List.{List, []}
use lib.ListN.{length}
use Rattle.order.specs.Order.{Order}
use Rattle.order.specs.Model.Accepted.{AcceptedCode}
use Rattle.paths.specs.Paths.{words_of_weight, paths, path_room}
use Rattle.paths.proofs.FromOne.{none_of_weight_0}
use Rattle.events.specs.declared.Event.{Event}
use Rattle.filling.specs.Model.Filling.{AllPaths}
use Rattle.undetected.specs.Undetected.{undetected_counts}
use Rattle.undetected.specs.Model.Steps.{Readable, divided_counts}
use Rattle.undetected.proofs.Counts.{readable, divided_counts_lem}
use Rattle.narrowing.specs.declared.Firsts.{Firsts}
use Rattle.narrowing.specs.Model.Firsts.{ToAdd}
use Rattle.narrowing.proofs.Ranked.{ranked_to_add}
use Rattle.lengths.specs.Model.Noted.{ToListNext}

module _ (o : Order) (code : AcceptedCode o) {table after plain counts : List ℕ} {n : ℕ} (there : AllPaths o table after plain counts n) where
  -- no path weighs 0
  none : words_of_weight o 0 ≡ []
  none = none_of_weight_0 o code

  pub readable_left : o.d - 1 ≤ length plain → Readable o.N (o.d - 1) after counts
  unfolding path_room
  readable_left enough =
      let h = there.fits in
      let room : 2 * length (paths o) ≤ length table = omega arith in
      rw (there.words, there.plain_counts_are) (readable o (length table) (length plain) none code.at_most_128 enough room)

  pub divided_left : (p : ℕ) → divided_counts o.m after counts (o.d - 1) p ≡ undetected_counts o p
  divided_left p =
      ap₂ (λ (x y : List ℕ). divided_counts o.m x y (o.d - 1) p) there.words there.plain_counts_are ∙ divided_counts_lem o (length table) (length plain) none p

-- what `list_next` asks of `note`
pub to_note : {o : Order} {before : Firsts} {es : List Event} {plain work : List ℕ} → ToListNext o before es plain work → {table after counts : List ℕ} {n : ℕ}
    → AllPaths o table after plain counts n → ToAdd o.N (o.d - 1) o.m after counts before
to_note {o} asked there =
    let (_, ranked, seven) = asked.ranked in
    let light = asked.fill.order.threshold in
    ranked_to_add o ranked seven (readable_left o asked.fill.order.code there asked.fill.counts) asked.degree light.some_weight light.at_most_64
