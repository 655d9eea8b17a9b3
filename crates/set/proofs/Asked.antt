-- The questions of a set of lengths, asked part by part, and what they let the job assume (`to_make_set`).
-- Assumes nothing.
use Prim.Native.Nat.{ℕ, ◌≤◌, ◌<◌}
use native.Mathlib.Nat.{le_refl}
use native.Mathlib.Decide.{ℕ_discrete}
use native.Mathlib.Omega.{arith}
use mathlib.Core.Path.{◌≡◌, refl, sym, ap, ap₂, ◌∙◌}
use mathlib.Core.Bool.{true, false, ◌&&◌}
use mathlib.Core.List.{List, [], ◌∷◌, ◌++◌}
use borrow.Author.Tests.{le-leb}
use lib.ListN.{length, get_or}
use Rattle.lists.specs.Lists.{all}
use Rattle.lists.proofs.Tests.{both}
use Rattle.lists.proofs.Scan.{all_at}
use Rattle.order.specs.Questions.{Question, first_no, from_to, highest_version, longest_word, link_kind, generator_count, memory, word_length, shape_questions}
use Rattle.order.specs.Order.{Order, with_length}
use Rattle.order.specs.Answers.{order_in}
use Rattle.order.specs.declared.record.OrderRecord.{OrderRecord}
use Rattle.order.proofs.Answers.{range}
use Rattle.order.proofs.FirstNo.{Numbered, first_no_none, first_no_yes, first_no_no, asked, none_in_parts, refused_first, refused_later}
use Rattle.order.proofs.Asked.{length-order_in}
use Rattle.search.specs.Calls.{search_questions}
use Rattle.set.specs.Calls.{falling, shortest, kind_questions, length_questions, set_questions}

-- ---- part by part

-- 2, 3 and 4 of n generators
abbrev kind : (version n v : ℕ) → List Question
kind version n v = link_kind highest_version version ∷ generator_count n ∷ memory v ∷ []

long_enough : (v : ℕ) → v ≤ 8 → from_to v longest_word v ≡ true
unfolding from_to
long_enough v h = ap₂ ◌&&◌ (le-leb v v (le_refl v)) (le-leb v longest_word (omega arith))

-- 5 of v bits passes where 4 has
kind_shape : (version n v s : ℕ) → s ≡ first_no (shape_questions highest_version longest_word version n v v) → s ≡ first_no (kind version n v)
unfolding shape_questions
kind_shape version n v s e = e ∙ sym (elim (ℕ_discrete (first_no (kind version n v)) 0) [
  | yes z ↦
      let small = range 1 8 v (asked 4 (kind version n v) tt z) in
      let fits : from_to v longest_word v ≡ true = long_enough v small.1 in
      z ∙ refused_later (kind version n v) (word_length v longest_word v ∷ []) (first_no (kind version n v)) 0 tt refl z (sym (first_no_yes _ [] fits ∙ first_no_none))
  | no k ↦ refused_first (kind version n v) (word_length v longest_word v ∷ []) (first_no (kind version n v)) tt refl k
])

module _ (order : OrderRecord) (Ns : List ℕ) (plain undetected work s : ℕ)
    (shape : s ≡ first_no (shape_questions highest_version longest_word order.version order.n order.v order.v)) where
  abbrev o : Order
  o = order_in order

  abbrev Answers : ℕ → Type 0
  Answers x = x ≡ first_no (set_questions o Ns plain undetected work)

  abbrev later : List Question
  later = length_questions o.v Ns ++ search_questions (with_length (shortest Ns) o) plain undetected work

  kind_asked : s ≡ first_no (kind_questions o)
  unfolding kind_questions order_in
  kind_asked = kind_shape order.version order.n order.v s shape ∙ ap (λ (n : ℕ). first_no (kind order.version n order.v)) (sym (length-order_in order))

  numbered : Numbered (kind_questions o)
  unfolding kind_questions
  numbered = tt

  pub by_kind : (s ≡ 0 → ⊥) → Answers s
  unfolding set_questions
  by_kind some = refused_first (kind_questions o) later s numbered kind_asked some

  module _ (passed : s ≡ 0) where
    after_kind : (x : ℕ) → x ≡ first_no later → Answers x
    unfolding set_questions
    after_kind x e = refused_later (kind_questions o) later s x numbered kind_asked passed e

    pub by_list : (from_to 1 8 (length Ns) && falling Ns) ≡ false → Answers 17
    unfolding length_questions
    by_list e = after_kind 17 (sym (first_no_no _ _ e))

    module _ (listed : (from_to 1 8 (length Ns) && falling Ns) ≡ true) where
      pub by_length : all (from_to o.v longest_word) Ns ≡ false → Answers 5
      unfolding length_questions
      by_length e = after_kind 5 (sym (first_no_yes _ _ listed ∙ first_no_no _ _ e))

      pub by_search : all (from_to o.v longest_word) Ns ≡ true → (x : ℕ) → x ≡ first_no (search_questions (with_length (shortest Ns) o) plain undetected work) → Answers x
      unfolding length_questions
      by_search e x f = after_kind x (f ∙ sym (first_no_yes _ _ listed ∙ first_no_yes _ _ e))

-- ---- where none refuses

pub record Passed (o : Order) (Ns : List ℕ) (plain undetected work : ℕ) : Type 0 where
  pub some : 1 ≤ length Ns
  pub few : length Ns ≤ 8
  pub falls : falling Ns ≡ true
  pub long : (i : ℕ) → i < length Ns → (o.v ≤ get_or Ns i 0) × (get_or Ns i 0 ≤ longest_word)
  pub search : first_no (search_questions (with_length (shortest Ns) o) plain undetected work) ≡ 0

pub passed : (o : Order) (Ns : List ℕ) (plain undetected work : ℕ) → first_no (set_questions o Ns plain undetected work) ≡ 0 → Passed o Ns plain undetected work
unfolding set_questions kind_questions length_questions
passed o Ns plain undetected work e =
    let outer = none_in_parts (kind_questions o) (length_questions o.v Ns ++ search_questions (with_length (shortest Ns) o) plain undetected work) tt e in
    let inner = none_in_parts (length_questions o.v Ns) (search_questions (with_length (shortest Ns) o) plain undetected work) tt outer.1 in
    let listed = both (from_to 1 8 (length Ns)) (falling Ns) (asked 17 (length_questions o.v Ns) tt inner.0) in
    let counted = range 1 8 (length Ns) listed.0 in
    record {
      some = counted.0;
      few = counted.1;
      falls = listed.1;
      long = λ i h. range o.v longest_word (get_or Ns i 0) (all_at (from_to o.v longest_word) Ns 0 i (asked 5 (length_questions o.v Ns) tt inner.0) h);
      search = inner.1;
    }
