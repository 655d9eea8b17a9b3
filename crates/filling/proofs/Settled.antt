-- What settling a weight leaves, where the table took its words and where it did not.
-- Assumes nothing.
use Prim.Native.Nat.{ℕ, ◌-◌, ◌/◌, ◌≤◌, ◌<◌}
use mathlib.Core.Path.{◌≡◌, sym, ap}
use mathlib.Core.Bool.{Bool, cond}
use mathlib.Core.List.{List}
use lib.ListN.{length, set}
use borrow.Author.Tests.{le-leb, lt-leb}
use Rattle.sort.specs.Model.Sort.{sorted_part}
use Rattle.filling.specs.Model.Filling.{settled_paths, settled_counts}

module _ (paths counts : List ℕ) (at next w : ℕ) where
  pub settled_full : length paths / 2 < next → (paths ≡ settled_paths paths at next) × (counts ≡ settled_counts (length paths) counts at next w)
  unfolding settled_paths settled_counts
  settled_full h = (
    sym (ap (λ (b : Bool). cond b (sorted_part paths at next) paths) (lt-leb next (length paths / 2) h)),
    sym (ap (λ (b : Bool). cond b (set counts (w - 1) (next - at)) counts) (lt-leb next (length paths / 2) h)),
  )

  pub settled_sorted : next ≤ length paths / 2 → (sorted_part paths at next ≡ settled_paths paths at next) × (set counts (w - 1) (next - at) ≡ settled_counts (length paths) counts at next w)
  unfolding settled_paths settled_counts
  settled_sorted h = (
    sym (ap (λ (b : Bool). cond b (sorted_part paths at next) paths) (le-leb next (length paths / 2) h)),
    sym (ap (λ (b : Bool). cond b (set counts (w - 1) (next - at)) counts) (le-leb next (length paths / 2) h)),
  )
