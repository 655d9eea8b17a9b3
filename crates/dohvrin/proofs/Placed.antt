-- Where the part of one weight stands, by what `part` and `paths_to` say.
-- Assumes nothing.
use mathlib.Core.Path.{◌≡◌, refl, sym, ap, ap₂, ◌∙◌, subst}
use mathlib.Core.Bool.{Bool, true, false, cond}
use mathlib.Core.List.{List, []}
use Prim.Native.Nat.{ℕ, ◌+◌, ◌-◌, ◌*◌, ◌/◌, ◌≤◌}
use native.Mathlib.Omega.{arith}
use lib.Dec.{leb}
use lib.ListN.{length, take, drop, length-drop}
use lib.Seq.{length-take-le}
use borrow.Author.Tests.{leb-true, le-leb}
use Rattle.std.specs.Prelude.{Some, None}
use Rattle.lists.proofs.Tests.{both}
use Rattle.order.specs.Questions.{from_to}
use Rattle.order.specs.Order.{of_weight}
use Rattle.order.proofs.Answers.{range}
use Rattle.paths.specs.Part.{paths_to, part_fits, part_of, part_number}
use Rattle.paths.specs.Model.Part.{sum_or}
use Rattle.paths.proofs.Parts.{to_weight, sum_told}
use Rattle.answers.specs.declared.PartAnswer.{PartAnswer}
use Rattle.answers.specs.Answers.{part_answer}

module _ (counts : List ℕ) (w : ℕ) (table : List ℕ) where
  by_test : (b : Bool) → part_fits counts w table ≡ b → (part_answer counts w table ≡ cond b record { refusal = 0; start = 2 * paths_to counts (w - 1); numbers = 2 * of_weight w counts } record { refusal = 10; start = 0; numbers = 0 })
      × ((part_number counts w table ≡ cond b 0 10) × (part_of counts w table ≡ cond b (take (2 * of_weight w counts) (drop (2 * paths_to counts (w - 1)) table)) []))
  unfolding part_answer part_number part_of
  by_test b e = (
    ap (λ (x : Bool). cond {A = PartAnswer} x record { refusal = 0; start = 2 * paths_to counts (w - 1); numbers = 2 * of_weight w counts } record { refusal = 10; start = 0; numbers = 0 }) e,
    (ap (λ (x : Bool). cond {A = ℕ} x 0 10) e, ap (λ (x : Bool). cond x (take (2 * of_weight w counts) (drop (2 * paths_to counts (w - 1)) table)) []) e),
  )

  -- refused
  pub no_part : (k : ℕ) → k ≡ part_number counts w table → (k ≡ 0 → ⊥) → ◌≡◌ {A = PartAnswer} record { refusal = k; start = 0; numbers = 0 } (part_answer counts w table)
  no_part k e n = by (part_fits counts w table) refl
    where
      by : (b : Bool) → part_fits counts w table ≡ b → ◌≡◌ {A = PartAnswer} record { refusal = k; start = 0; numbers = 0 } (part_answer counts w table)
      by true f = absurd (n (e ∙ (by_test true f).1.0))
      by false f = ap (λ (x : ℕ). record { refusal = x; start = 0; numbers = 0 }) (e ∙ (by_test false f).1.0) ∙ sym (by_test false f).0

  module _ (e : 0 ≡ part_number counts w table) where
    fits_is : part_fits counts w table ≡ true
    fits_is = by (part_fits counts w table) refl
      where
        by : (b : Bool) → part_fits counts w table ≡ b → part_fits counts w table ≡ true
        by true f = f
        by false f = absurd (let n : part_number counts w table ≡ 10 = (by_test false f).1.0 in omega (arith, e))

    -- the weight has a count, and its part ends within the table
    pub part_bounds : (1 ≤ w) × (w ≤ length counts) × (2 * (paths_to counts (w - 1) + of_weight w counts) ≤ length table)
    unfolding part_fits
    part_bounds =
        let h = both (from_to 1 (length counts) w) (leb (2 * paths_to counts w) (length table)) fits_is in
        let between = range 1 (length counts) w h.0 in
        let ends = leb-true (2 * paths_to counts w) (length table) h.1 in
        (between.0, between.1, omega (arith, ends, to_weight counts w between.0))

    -- so what stands before it is not past the limit
    pub some_before : sum_or counts (w - 1) (length table / 2) ≡ Some (paths_to counts (w - 1))
    unfolding sum_or
    some_before =
        let h = part_bounds.2 in
        ap (λ (x : Bool). cond x (Some (paths_to counts (w - 1))) None) (le-leb (paths_to counts (w - 1)) (length table / 2) (omega arith))

    pub a_part : (words : List ℕ) (b : ℕ) → words ≡ part_of counts w table → Some b ≡ sum_or counts (w - 1) (length table / 2)
        → ◌≡◌ {A = PartAnswer} record { refusal = 0; start = 2 * b; numbers = length words } (part_answer counts w table)
    a_part words b ew eb =
        let h = part_bounds.2 in
        let c : ℕ = of_weight w counts in
        let long : length (take (2 * c) (drop (2 * paths_to counts (w - 1)) table)) ≡ 2 * c = length-take-le (2 * c) (drop (2 * paths_to counts (w - 1)) table) (subst (λ (x : ℕ). 2 * c ≤ x) (sym (length-drop (2 * paths_to counts (w - 1)) table)) (omega arith)) in
        ap₂ (λ (x y : ℕ). record { refusal = 0; start = 2 * x; numbers = y }) (sum_told counts (w - 1) (length table / 2) b eb).0 (ap length (ew ∙ (by_test true fits_is).1.1) ∙ long) ∙ sym (by_test true fits_is).0
