-- Questions 13 and 14: too many events, too many paths of one of the orders, or all fit.
-- Assumes nothing.
use Prim.Native.Nat.{ℕ, ◌≤◌, ◌<◌}
use mathlib.Core.Path.{◌≡◌, refl, sym, ap, ap₂, ◌∙◌}
use mathlib.Core.Logic.{◌⊎◌, inl, inr, ⊎_elim}
use mathlib.Core.Bool.{Bool, true, false, cond, ◌&&◌}
use mathlib.Core.List.{List, [], ◌∷◌}
use lib.Dec.{leb}
use lib.ListN.{length}
use borrow.Author.Tests.{le-leb, lt-leb}
use Rattle.lists.specs.Lists.{all}
use Rattle.lists.proofs.Tests.{lt_or_ge}
use Rattle.order.specs.Order.{Order}
use Rattle.order.specs.Answer.{Answer, refused}
use Rattle.events.specs.Events.{events}
use Rattle.paths.specs.Paths.{paths, path_room}
use Rattle.lengths.specs.Model.Noted.{AllFit, OneTooMany}
use Rattle.jobs.specs.Jobs.{unless_too_many}

module _ (numbers : ℕ) where
  abbrev fits : Order → Bool
  fits o = leb (length (paths o)) (path_room numbers)

  all_pass : (os : List Order) → AllFit numbers os → all fits os ≡ true
  unfolding all AllFit
  all_pass [] h = refl
  all_pass (o ∷ os) h = ap₂ ◌&&◌ (le-leb (length (paths o)) (path_room numbers) h.0) (all_pass os h.1)

  one_fails : (os : List Order) → OneTooMany numbers os → all fits os ≡ false
  unfolding all OneTooMany
  one_fails [] h = absurd h
  one_fails (o ∷ os) (inl more) = ap (λ (b : Bool). b && all fits os) (lt-leb (length (paths o)) (path_room numbers) more)
  one_fails (o ∷ os) (inr later) = ap (λ (b : Bool). fits o && b) (one_fails os later) ∙ none (fits o)
    where
      none : (b : Bool) → (b && false) ≡ false
      none true = refl
      none false = refl

  pub fit_or_not : (os : List Order) → AllFit numbers os ⊎ OneTooMany numbers os
  unfolding AllFit OneTooMany
  fit_or_not [] = inl tt
  fit_or_not (o ∷ os) = elim (lt_or_ge (path_room numbers) (length (paths o))) [
    | inl more ↦ inr (inl more)
    | inr room ↦ ⊎_elim (λ h. inl (room, h)) (λ h. inr (inr h)) (fit_or_not os)
  ]

-- ---- the listing

module _ {A L : Type 0} (longer : Order) (rows : List Order) (entries numbers : ℕ) (zeros : L) (outcome : Answer A × L) where
  abbrev by_paths : Answer A × L
  by_paths = cond (all (λ o. leb (length (paths o)) (path_room numbers)) rows) outcome (refused 14, zeros)

  pub too_many_events : entries < length (events longer) → ◌≡◌ {A = Answer A × L} (refused 13, zeros) (unless_too_many longer rows entries numbers zeros outcome)
  unfolding unless_too_many
  too_many_events h = sym (ap (λ (b : Bool). cond b by_paths (refused 13, zeros)) (lt-leb (length (events longer)) entries h))

  module _ (fits : length (events longer) ≤ entries) where
    events_fit : by_paths ≡ unless_too_many longer rows entries numbers zeros outcome
    unfolding unless_too_many
    events_fit = sym (ap (λ (b : Bool). cond b by_paths (refused 13, zeros)) (le-leb (length (events longer)) entries fits))

    pub too_many_paths : OneTooMany numbers rows → ◌≡◌ {A = Answer A × L} (refused 14, zeros) (unless_too_many longer rows entries numbers zeros outcome)
    too_many_paths h = sym (ap (λ (b : Bool). cond b outcome (refused 14, zeros)) (one_fails numbers rows h)) ∙ events_fit

    pub all_fit : AllFit numbers rows → outcome ≡ unless_too_many longer rows entries numbers zeros outcome
    all_fit h = sym (ap (λ (b : Bool). cond b outcome (refused 14, zeros)) (all_pass numbers rows h)) ∙ events_fit
