-- Over counts that are the undetected counts, those left are the best of the definition, and what `choose` answers and leaves is the choice.
-- Assumes nothing.
use Prim.Native.Nat.{ℕ, ◌-◌}
use mathlib.Core.Path.{◌≡◌, sym, ap, ap₂, ◌∙◌, fun_ext}
use mathlib.Core.List.{List}
use lib.ListN.{length}
use Rattle.order.specs.Order.{Order}
use Rattle.undetected.specs.Undetected.{undetected_counts}
use Rattle.undetected.specs.Model.Steps.{divided_counts}
use Rattle.choice.specs.Choice.{best, first_of, choice_among}
use Rattle.choice.specs.Model.Steps.{left_over, laid, Chose}
use Rattle.choice.specs.declared.Outcome.{Outcome}

module _ (o : Order) where
  -- the counts over the table are the undetected counts
  abbrev Counted : List ℕ → List ℕ → Type 0
  Counted table plain = (p : ℕ) → divided_counts o.m table plain (o.d - 1) p ≡ undetected_counts o p

  -- of any that are offered
  module _ {ps table plain before after : List ℕ} {r : Outcome} (counted : Counted table plain)
      (chose : Chose o.m (o.d - 1) ps table plain before after r) where
    left_is_best : left_over o.m ps table plain (o.d - 1) ≡ best (undetected_counts o) ps
    unfolding left_over
    left_is_best = ap (λ (counts : ℕ → List ℕ). best counts ps) (fun_ext counted)

    -- the undetected list
    pub chosen_counts : after ≡ laid (undetected_counts o r.polynomial) before
    chosen_counts =
        let same = counted (first_of (left_over o.m ps table plain (o.d - 1))) ∙ ap (undetected_counts o) (sym chose.first) in
        chose.listed ∙ ap (λ (counts : List ℕ). laid counts before) same

    pub chosen-is-choice :
        record { polynomial = r.polynomial; shared = r.shared; undetected = undetected_counts o r.polynomial } ≡ choice_among (undetected_counts o) ps
    unfolding choice_among
    chosen-is-choice =
        let is = left_is_best in
        ap₂ (λ (p k : ℕ). record { polynomial = p; shared = k; undetected = undetected_counts o p }) (chose.first ∙ ap first_of is) (chose.how_many ∙ ap length is)
