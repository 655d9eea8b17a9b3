-- What `opened` comes to with one turn more, and at the end.
-- Assumes nothing.
use Prim.Native.Nat.{ℕ, suc, ◌+◌, ◌-◌, ◌≤◌, ◌<◌}
use native.Mathlib.Omega.{arith}
use mathlib.Core.Path.{◌≡◌, ap, ◌∙◌}
use mathlib.Core.List.{List}
use lib.ListN.{set}
use Rattle.bounds.specs.Model.Places.{length_count, too_heavy, least_place, length_end_place, end_place}
use Rattle.bounds.specs.Model.Tables.{reset_from, opened}

pub opened_is : (end : ℕ) (work last : List ℕ) → last ≡ reset_from length_count 0 (set work end_place end) → last ≡ opened end work
unfolding opened
opened_is end work last e = e

pub reset_again : (l : ℕ) (work goal : List ℕ) → l < length_count → reset_from (length_count - l) l work ≡ goal
    → reset_from (length_count - (l + 1)) (l + 1) (set (set work (least_place + l) too_heavy) (length_end_place + l) 0) ≡ goal
unfolding reset_from
reset_again l work goal h inv = ap (λ (n : ℕ). reset_from n l work) more ∙ inv
  where
    more : suc (length_count - (l + 1)) ≡ length_count - l
    more = omega arith

pub reset_end : (l : ℕ) (work goal : List ℕ) → length_count ≤ l → reset_from (length_count - l) l work ≡ goal → work ≡ goal
unfolding reset_from
reset_end l work goal h inv = ap (λ (n : ℕ). reset_from n l work) none ∙ inv
  where
    none : 0 ≡ length_count - l
    none = omega arith
