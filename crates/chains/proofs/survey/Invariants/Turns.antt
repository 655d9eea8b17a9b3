-- What `surveyed` comes to with one turn more, and at the end.
-- Assumes nothing.
use Prim.Native.Nat.{ℕ, suc, ◌+◌, ◌-◌, ◌≤◌, ◌<◌}
use native.Mathlib.Omega.{arith}
use mathlib.Core.Path.{◌≡◌, sym, ap, ◌∙◌}
use mathlib.Core.List.{List}
use lib.ListN.{get_or}
use Rattle.events.specs.declared.Event.{Event}
use Rattle.events.specs.Events.{no_event}
use Rattle.bounds.specs.Model.Tables.{noted, surveyed}

module _ (table : List Event) (to k : ℕ) (us : List ℕ) {whole : List ℕ} (left : surveyed table (to - k) k us ≡ whole) where
  pub left_again : {next : List ℕ} {e : Event} → k < to → e ≡ get_or table k no_event → next ≡ noted us e (k + 1)
      → surveyed table (to - (k + 1)) (k + 1) next ≡ whole
  unfolding surveyed
  left_again less read is =
      let one : to - k ≡ suc (to - (k + 1)) = omega arith in
      ap (surveyed table (to - (k + 1)) (k + 1)) (is ∙ ap (λ (f : Event). noted us f (k + 1)) read)
      ∙ sym (ap (λ (n : ℕ). surveyed table n k us) one) ∙ left

  pub all_noted : to ≤ k → us ≡ whole
  unfolding surveyed
  all_noted over =
      let none : to - k ≡ 0 = omega arith in
      sym (ap (λ (n : ℕ). surveyed table n k us) none) ∙ left
