-- What the filling leaves at its ends: the path table filled, or too small.
-- Assumes nothing.
use Prim.Native.Nat.{ℕ, ◌-◌, ◌/◌, ◌≤◌, ◌<◌}
use mathlib.Core.Path.{◌≡◌, refl, ap, ◌∙◌, subst}
use mathlib.Core.List.{List, flat_map}
use lib.ListN.{length}
use Rattle.std.proofs.Common.{Ok, Err}
use Rattle.lists.specs.Lists.{padded, cleared}
use Rattle.poly.specs.Word.{halves}
use Rattle.order.specs.Order.{Order}
use Rattle.order.specs.declared.refusal.Refusal.TheVariants as R
use Rattle.paths.specs.Paths.{paths, path_room, path_table}
use Rattle.filling.specs.Model.Filling.{Filled}
use Rattle.filling.proofs.Ordered.{Ordered}
use Rattle.filling.proofs.Weights.{all_words, all_counts, Held}

-- once there is no weight left
module _ {o : Order} {ps cs work left : List ℕ} (zeros : left ≡ cleared 0 work) {ps' cs' : List ℕ} where
  pub filled : {ok : Ordered o} {enough : o.d - 1 ≤ length cs} {at : ℕ} → Held o ok (length ps) (length cs) enough o.d at ps' cs' → Filled o ps ps' cs cs' work left (Ok at)
  unfolding path_table path_room
  filled {ok} h =
      let all = all_words o ok in
      record {
        inside = record {
          fits = subst (λ (l : List ℕ). length l ≤ length ps / 2) all h.fits;
          number = h.place ∙ ap length all;
          words = h.paths_are ∙ ap (λ (l : List ℕ). padded (length ps) 0 (flat_map halves l)) all;
          plain_counts_are = h.counts_are ∙ ap (padded (length cs) 0) (all_counts o ok);
        };
        past = tt;
        zeros = zeros;
      }

  pub too_many : length ps / 2 < length (paths o) → Filled o ps ps' cs cs' work left (Err R.TooManyPaths)
  unfolding path_room
  too_many more = record { inside = tt; past = (refl, more); zeros = zeros }
