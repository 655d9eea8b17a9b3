-- Tests over a list taken a member at a time: what is left from index i on, and from i + 1 on.
-- Assumes nothing.
use mathlib.Core.Path.{◌≡◌, sym, ap, ◌∙◌}
use mathlib.Core.Bool.{Bool, true, false, ◌&&◌, ◌||◌}
use mathlib.Core.List.{List, [], ◌∷◌}
use Prim.Native.Nat.{ℕ, zero, suc, ◌+◌, ◌≤◌, ◌<◌}
use native.Mathlib.Nat.{not-suc-le-zero, le_of_suc-le-suc}
use native.Mathlib.Numerals.{add-one}
use lib.ListN.{length, get_or, drop, drop_of_length-le}
use lib.Seq.{drop-cons}
use Rattle.lists.specs.Lists.{all, any}
use Rattle.lists.proofs.Tests.{both}

module _ {A : Type 0} (f : A → Bool) (xs : List A) (d : A) where
  -- the members from i on are the one at i and those from i + 1 on
  pub drop-next : (i : ℕ) → i < length xs → drop i xs ≡ get_or xs i d ∷ drop (i + 1) xs
  drop-next i h = drop-cons xs i d h ∙ ap (λ (n : ℕ). get_or xs i d ∷ drop n xs) (sym (add-one i))

  pub all-next : (i : ℕ) → i < length xs → all f (drop i xs) ≡ (f (get_or xs i d) && all f (drop (i + 1) xs))
  unfolding all
  all-next i h = ap (all f) (drop-next i h)

  pub any_next : (i : ℕ) → i < length xs → any f (drop i xs) ≡ (f (get_or xs i d) || any f (drop (i + 1) xs))
  unfolding any
  any_next i h = ap (any f) (drop-next i h)

  pub all_end : (i : ℕ) → length xs ≤ i → all f (drop i xs) ≡ true
  unfolding all
  all_end i h = ap (all f) (drop_of_length-le xs h)

  pub any_end : (i : ℕ) → length xs ≤ i → any f (drop i xs) ≡ false
  unfolding any
  any_end i h = ap (any f) (drop_of_length-le xs h)

  -- one member decides
  pub all_fails : (i : ℕ) → i < length xs → f (get_or xs i d) ≡ false → all f (drop i xs) ≡ false
  all_fails i h e = all-next i h ∙ ap (λ (b : Bool). b && all f (drop (i + 1) xs)) e

  pub any-passes : (i : ℕ) → i < length xs → f (get_or xs i d) ≡ true → any f (drop i xs) ≡ true
  any-passes i h e = any_next i h ∙ ap (λ (b : Bool). b || any f (drop (i + 1) xs)) e

  -- one member does not
  pub all_goes_on : (i : ℕ) → i < length xs → f (get_or xs i d) ≡ true → all f (drop i xs) ≡ all f (drop (i + 1) xs)
  all_goes_on i h e = all-next i h ∙ ap (λ (b : Bool). b && all f (drop (i + 1) xs)) e

  pub any_goes_on : (i : ℕ) → i < length xs → f (get_or xs i d) ≡ false → any f (drop i xs) ≡ any f (drop (i + 1) xs)
  any_goes_on i h e = any_next i h ∙ ap (λ (b : Bool). b || any f (drop (i + 1) xs)) e

-- where all pass, each does
pub all_at : {A : Type 0} (f : A → Bool) (xs : List A) (d : A) (i : ℕ) → all f xs ≡ true → i < length xs → f (get_or xs i d) ≡ true
unfolding all
all_at f [] d i e h = absurd (not-suc-le-zero h)
all_at f (x ∷ xs) d zero e h = (both (f x) (all f xs) e).0
all_at f (x ∷ xs) d (suc i) e h = all_at f xs d i (both (f x) (all f xs) e).1 (le_of_suc-le-suc h)
