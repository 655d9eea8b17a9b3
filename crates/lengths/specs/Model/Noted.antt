-- What is asked and left where the paths of shorter lengths are listed (a model).
-- Assumes nothing.
use Rattle.std.specs.Prelude.{ℕ, ◌-◌, ◌≤◌, ◌<◌, ◌≡◌, ◌⊎◌, List, [], ◌∷◌, length, get_or, Result, IfOk, IfErr}
use Rattle.lists.specs.Lists.{cleared}
use Rattle.order.specs.Order.{Order, with_length}
use Rattle.events.specs.declared.Event.{Event}
use Rattle.paths.specs.Paths.{paths, path_room}
use Rattle.filling.specs.Model.Filling.{ToFill, AllPaths}
use Rattle.choice.specs.Model.Steps.{CheckDegree}
use Rattle.narrowing.specs.declared.Firsts.{Firsts}
use Rattle.narrowing.specs.Model.Firsts.{Added, Ranked}
use Rattle.order.specs.declared.refusal.Refusal.{Refusal}
use Rattle.order.specs.declared.refusal.Refusal.TheVariants as R
use Rattle.lengths.specs.Shorter.{for_each}

-- ---- do the paths of these orders fit in so many numbers?

unfoldable pub AllFit : ℕ → List Order → Type 0
AllFit numbers [] = Unit {0}
AllFit numbers (o ∷ os) = (length (paths o) ≤ path_room numbers) × AllFit numbers os

unfoldable pub OneTooMany : ℕ → List Order → Type 0
OneTooMany numbers [] = ⊥
OneTooMany numbers (o ∷ os) = (path_room numbers < length (paths o)) ⊎ OneTooMany numbers os

-- ---- one more length

pub record ToListNext (o : Order) (firsts : Firsts) (table : List Event) (plain work : List ℕ) : Type 0 where
  pub fill : ToFill o table plain work
  pub degree : CheckDegree o.m
  -- the first weights of some lengths are noted, and there is room for one more
  pub ranked : (Ns : List ℕ) × Ranked o Ns firsts × (length Ns ≤ 7)

pub record ListedNext (o : Order) (before : Firsts) (r : Result Firsts Refusal) (table after plain counts work left : List ℕ) : Type 0 where
  pub past : IfErr r (λ e. (e ≡ R.TooManyPaths) × (path_room (length table) < length (paths o)))
  pub inside : IfOk r (λ firsts. (n : ℕ) × AllPaths o table after plain counts n × Added o.m (o.d - 1) after counts before firsts)
  pub zeros : left ≡ cleared 0 work

-- ---- all of them

pub record ToListShorter (o : Order) (Ns : List ℕ) (table : List Event) (plain work : List ℕ) : Type 0 where
  pub few : length Ns ≤ 7
  pub degree : 1 ≤ length Ns → CheckDegree o.m
  pub zeros : work ≡ cleared 0 work
  pub each : (i : ℕ) → i < length Ns → ToFill (with_length (get_or Ns i 0) o) table plain work

pub record ListedShorter (o : Order) (Ns : List ℕ) (r : Result Firsts Refusal) (table work left : List ℕ) : Type 0 where
  pub past : IfErr r (λ e. (e ≡ R.TooManyPaths) × OneTooMany (length table) (for_each Ns o))
  pub inside : IfOk r (λ firsts. AllFit (length table) (for_each Ns o) × Ranked o Ns firsts)
  pub zeros : left ≡ cleared 0 work
