-- The questions about a quote: for a tail-biting link and N' at most N, itself at most 128, they are those that a fresh run for N' asks (`asks_as_fresh`);
-- and the call is sound (`quote_sound`): what is quoted is no longer than what events are collected for.
-- Assumes nothing.
use Prim.Native.Nat.{ℕ, ◌-◌, ◌≤◌, ◌<◌}
use native.Mathlib.Nat.{le_trans}
use native.Mathlib.Omega.{arith}
use mathlib.Core.Path.{◌≡◌, refl, sym, ap, ap₂, ◌∙◌}
use mathlib.Core.Logic.{inl, inr}
use mathlib.Core.Bool.{Bool, cond, ◌&&◌}
use mathlib.Core.List.{List, ◌∷◌, ◌++◌}
use borrow.Author.Tests.{le-leb, lt-leb}
use lib.Dec.{leb}
use lib.ListN.{length}
use Rattle.lists.proofs.Tests.{lt_or_ge}
use Rattle.order.specs.Questions.{Question, first_no, from_to, longest_word, generator_count, memory, shape_questions, generator_questions}
use Rattle.order.specs.Order.{Order, with_length, everything, if_taken, number_questions, order_questions}
use Rattle.order.proofs.FirstNo.{none_in_parts}
use Rattle.order.proofs.Asked.{numbered_order, Shaped, order_shaped}
use Rattle.jobs.specs.declared.Job.TheVariants as J
use Rattle.calls.specs.Calls.{job_questions, questions}
use Rattle.calls.specs.Model.Plans.{Sound}
use Rattle.search.specs.Calls.{search_questions}
use Rattle.quote.specs.Calls.{longest_quoted, quotable, quoting, quote_questions}

pub quoted_own : (N : ℕ) → N ≤ longest_word → longest_quoted N ≡ N
unfolding longest_quoted
quoted_own N h = ap (λ (b : Bool). cond b N 0) (le-leb N longest_word h)

pub quoted_none : (N : ℕ) → longest_word < N → longest_quoted N ≡ 0
unfolding longest_quoted
quoted_none N h = ap (λ (b : Bool). cond b N 0) (lt-leb N longest_word h)

-- 2, 5 of N, and 5 of N'
pub record Lengths (o : Order) (N' : ℕ) : Type 0 where
  pub tail_biting : o.version ≡ 1
  pub at_most_128 : o.N ≤ longest_word
  pub no_longer : N' ≤ o.N

module _ (o : Order) (N' : ℕ) where
  -- what may be quoted is no longer than N, and N no longer than the longest word
  quoted_fits : 1 ≤ N' → N' ≤ longest_quoted o.N → (N' ≤ o.N) × (o.N ≤ longest_word)
  quoted_fits some most = elim (lt_or_ge longest_word o.N) [
    | inl more ↦ let zero = quoted_none o.N more in absurd (omega arith)
    | inr few ↦ let own = quoted_own o.N few in (omega arith, few)
  ]

  longest_known : longest_quoted o.N ≤ longest_word
  longest_known = elim (lt_or_ge longest_word o.N) [
    | inl more ↦ let zero = quoted_none o.N more in omega arith
    | inr few ↦ let own = quoted_own o.N few in omega arith
  ]

  pub asks_as_fresh : o.version ≡ 1 → N' ≤ o.N → o.N ≤ longest_word → (plain undetected size : ℕ)
      → first_no (quote_questions o N' plain undetected size) ≡ first_no (search_questions (with_length N' o) plain undetected size)
  unfolding quote_questions search_questions questions order_questions shape_questions number_questions if_taken from_to with_length
  asks_as_fresh kind shorter few plain undetected size =
      ap₂ (λ (a b : Bool). first_no ((2, a) ∷ generator_count (length o.generators) ∷ memory o.v ∷ (5, b) ∷ after)) same_kind same_range
    where
      -- from 6 on
      after : List Question
      after = (number_questions everything (with_length N' o) ++ generator_questions o.v o.generators) ++ job_questions J.Choose o.m (o.d - 1) plain undetected size

      same_kind : from_to 1 1 o.version ≡ from_to 1 2 o.version
      same_kind = ap (λ (x : ℕ). from_to 1 1 x) kind ∙ sym (ap (λ (x : ℕ). from_to 1 2 x) kind)

      same_range : from_to o.v (longest_quoted o.N) N' ≡ from_to o.v 128 N'
      same_range =
          ap (λ (x : ℕ). from_to o.v x N') (quoted_own o.N few)
          ∙ ap (λ (b : Bool). leb o.v N' && b) (le-leb N' o.N shorter ∙ sym (le-leb N' 128 (le_trans shorter few)))

  module _ (plain undetected work : ℕ) (none : first_no (quote_questions o N' plain undetected work) ≡ 0) where
    shape : Shaped 1 (longest_quoted o.N) o.version (length o.generators) o.v N'
    unfolding quote_questions questions with_length
    shape =
        let q : Order = with_length N' o in
        order_shaped (quotable o.N) q (none_in_parts _ _ (numbered_order (quotable o.N) q) none).0

    pub lengths : Lengths o N'
    lengths =
        let low = shape.some_version in
        let high = shape.known_version in
        let fits = quoted_fits (le_trans shape.some_memory shape.long_enough) shape.at_most in
        record { tail_biting = omega arith; at_most_128 = fits.1; no_longer = fits.0 }

  pub quote_sound : Sound (quoting o N')
  quote_sound = record { known_versions = omega arith; at_most_longest = longest_known; no_longer = quoted_fits; threshold = refl; degree = refl }
