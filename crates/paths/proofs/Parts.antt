-- The part of one weight: sums that stop at a limit, and when the part fits.
-- Assumes nothing.
use mathlib.Core.Path.{◌≡◌, refl, sym, ap, ap₂, ◌∙◌}
use mathlib.Core.Bool.{Bool, true, false, cond}
use mathlib.Core.List.{List, []}
use Prim.Native.Nat.{ℕ, suc, ◌+◌, ◌-◌, ◌*◌, ◌/◌, ◌≤◌, ◌<◌}
use native.Mathlib.Nat.{le_refl, lt_of_not-le}
use native.Mathlib.Decide.{le_ind, dec_le}
use native.Mathlib.Numerals.{add-one}
use native.Mathlib.Omega.{arith}
use borrow.Author.Tests.{leb-true, le-leb, lt-leb}
use lib.Dec.{leb}
use lib.ListN.{length, get_or, take, drop}
use Rattle.std.specs.Prelude.{Some, None}
use Rattle.std.proofs.lemmas.Option.{none-some, cond_some}
use Rattle.lists.specs.Lists.{sum}
use Rattle.lists.proofs.Sums.{sum_last}
use Rattle.lists.proofs.Tests.{and_yes, and_no}
use Rattle.order.specs.Questions.{from_to}
use Rattle.order.specs.Order.{of_weight}
use Rattle.paths.specs.Part.{paths_to, part_fits, part_of, part_number}
use Rattle.paths.specs.Model.Part.{sum_or}

-- ---- the paths of the first weights

to_none : (counts : List ℕ) → paths_to counts 0 ≡ 0
unfolding paths_to sum
to_none counts = refl

pub to_more : (counts : List ℕ) (k : ℕ) → paths_to counts (suc k) ≡ paths_to counts k + get_or counts k 0
unfolding paths_to
to_more counts k = sum_last k (λ j. get_or counts j 0)

pub to_mono : (counts : List ℕ) (k w : ℕ) → k ≤ w → paths_to counts k ≤ paths_to counts w
to_mono counts k w h =
    le_ind (λ (j : ℕ). paths_to counts k ≤ paths_to counts j) (le_refl (paths_to counts k)) (λ j l e. omega (arith, to_more counts j)) w h

pub sum_none : (counts : List ℕ) → 0 ≡ paths_to counts 0
sum_none counts = sym (to_none counts)

pub sum_more : (counts : List ℕ) (k total limit : ℕ) → total ≡ paths_to counts k → get_or counts k 0 ≤ limit - total → total ≤ limit
    → (total + get_or counts k 0 ≡ paths_to counts (k + 1)) × (total + get_or counts k 0 ≤ limit)
sum_more counts k total limit e h l =
    (sym (ap (paths_to counts) (add-one k) ∙ to_more counts k ∙ ap (λ (x : ℕ). x + get_or counts k 0) (sym e)), omega arith)

pub sum_past : (counts : List ℕ) (k w total limit : ℕ) → k < w → total ≡ paths_to counts k → limit - total < get_or counts k 0 → total ≤ limit → None ≡ sum_or counts w limit
unfolding sum_or
sum_past counts k w total limit h e p l =
    let m : paths_to counts (suc k) ≤ paths_to counts w = to_mono counts (suc k) w h in
    let past : limit < paths_to counts w = omega (arith, to_more counts k) in
    sym (ap (λ (b : Bool). cond b (Some (paths_to counts w)) None) (lt-leb (paths_to counts w) limit past))

pub sum-all : (counts : List ℕ) (k w total limit : ℕ) → k ≡ w → total ≡ paths_to counts k → total ≤ limit → Some total ≡ sum_or counts w limit
unfolding sum_or
sum-all counts k w total limit ek e l =
    let t : total ≡ paths_to counts w = e ∙ ap (paths_to counts) ek in
    ap Some t ∙ sym (ap (λ (b : Bool). cond b (Some (paths_to counts w)) None) (le-leb (paths_to counts w) limit (omega arith)))

-- what a sum up to a limit says
pub sum_told : (counts : List ℕ) (w limit x : ℕ) → Some x ≡ sum_or counts w limit → (x ≡ paths_to counts w) × (x ≤ limit)
unfolding sum_or
sum_told counts w limit x e =
    let told = cond_some (leb (paths_to counts w) limit) (paths_to counts w) x (sym e) in
    let within = leb-true (paths_to counts w) limit told.0 in
    (sym told.1, omega (arith, within, told.1))

sum_not_told : (counts : List ℕ) (w limit : ℕ) → None ≡ sum_or counts w limit → limit < paths_to counts w
unfolding sum_or
sum_not_told counts w limit e =
    elim (dec_le (paths_to counts w) limit) [
      | yes l ↦ absurd (none-some (paths_to counts w) (e ∙ ap (λ (b : Bool). cond b (Some (paths_to counts w)) None) (le-leb (paths_to counts w) limit l)))
      | no n ↦ lt_of_not-le n
    ]

-- ---- when the part fits

-- the part of a weight stands after those of smaller weights
pub to_weight : (counts : List ℕ) (w : ℕ) → 1 ≤ w → paths_to counts w ≡ paths_to counts (w - 1) + of_weight w counts
unfolding of_weight
to_weight counts w h = let e : w ≡ suc (w - 1) = omega arith in ap (paths_to counts) e ∙ to_more counts (w - 1)

module _ (counts : List ℕ) (w : ℕ) (table : List ℕ) where
  abbrev found : List ℕ
  found = take (2 * of_weight w counts) (drop (2 * paths_to counts (w - 1)) table)

  fits_of : (b : Bool) → part_fits counts w table ≡ b → (part_of counts w table ≡ cond b found []) × (part_number counts w table ≡ cond b 0 10)
  unfolding part_of part_number
  fits_of b e = (ap (λ (x : Bool). cond x found []) e, ap (λ (x : Bool). cond x 0 10) e)

  abbrev pub Refused : Type 0
  Refused = 10 ≡ part_number counts w table

  refused_of : part_fits counts w table ≡ false → Refused
  refused_of e = sym (fits_of false e).1

  pub no_weight_0 : w ≡ 0 → Refused
  unfolding part_fits from_to
  no_weight_0 h = refused_of (sym (and_no _ _ (sym (and_no _ _ (lt-leb 1 w (omega arith))))))

  pub no_count : 1 ≤ w → length counts < w → Refused
  unfolding part_fits from_to
  no_count some h = refused_of (sym (and_no _ _ (sym (and_yes _ _ (le-leb 1 w some)) ∙ lt-leb w (length counts) h)))

  module _ (some : 1 ≤ w) (counted : w ≤ length counts) where
    -- once the weight has a count, the table decides
    by_table : leb (2 * paths_to counts w) (length table) ≡ part_fits counts w table
    unfolding part_fits from_to
    by_table = and_yes _ _ (sym (and_yes _ _ (le-leb 1 w some)) ∙ le-leb w (length counts) counted)

    too_long : length table < 2 * paths_to counts w → Refused
    too_long l = refused_of (sym by_table ∙ lt-leb (2 * paths_to counts w) (length table) l)

    pub starts_past : None ≡ sum_or counts (w - 1) (length table / 2) → Refused
    starts_past e =
        let p = sum_not_told counts (w - 1) (length table / 2) e in
        let here = to_weight counts w some in
        too_long (omega arith)

    module _ (x : ℕ) (e : Some x ≡ sum_or counts (w - 1) (length table / 2)) where
      pub ends_past : length table / 2 - x < of_weight w counts → Refused
      ends_past q =
          let b = sum_told counts (w - 1) (length table / 2) x e in
          let here = to_weight counts w some in
          too_long (omega (arith, b.0, b.1))

      pub fits : of_weight w counts ≤ length table / 2 - x
          → (take (2 * x + 2 * of_weight w counts - 2 * x) (drop (2 * x) table) ≡ part_of counts w table) × (0 ≡ part_number counts w table)
      fits q =
          let b = sum_told counts (w - 1) (length table / 2) x e in
          let here = to_weight counts w some in
          let f : part_fits counts w table ≡ true = sym by_table ∙ le-leb (2 * paths_to counts w) (length table) (omega (arith, b.0, b.1)) in
          let n : 2 * x + 2 * of_weight w counts - 2 * x ≡ 2 * of_weight w counts = omega arith in
          (ap₂ (λ (i j : ℕ). take i (drop (2 * j) table)) n b.0 ∙ sym (fits_of true f).0, sym (fits_of true f).1)
