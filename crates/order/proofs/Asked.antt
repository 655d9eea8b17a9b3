-- The questions about an order in their order, and what an order is that they pass, by name.
-- Assumes nothing.
use native.Mathlib.Nat.{le_trans}
use mathlib.Core.Path.{◌≡◌, refl, sym, ap, ◌∙◌}
use mathlib.Core.Bool.{Bool, true, false, ◌&&◌, true≢false}
use mathlib.Core.List.{List, [], ◌∷◌, ◌++◌}
use Prim.Native.Nat.{ℕ, ◌≤◌}
use native.Mathlib.Omega.{arith}
use borrow.Author.Tests.{leb-true, ltb-true, not-true}
use lib.Dec.{ltb}
use lib.ListN.{length, take, length-map}
use Rattle.lists.specs.Lists.{up_from, any}
use Rattle.lists.proofs.Lengths.{length-up_from, take-get_or}
use Rattle.lists.proofs.Tests.{T_and, both}
use Rattle.order.specs.Questions.{Question, first_no, from_to, highest_version, longest_word, check_degree, has_bit, room, shape_questions, threshold, generator_questions}
use Rattle.order.specs.Order.{Order, the_code, and_threshold, everything, if_taken, number_questions, order_questions}
use Rattle.order.specs.Answers.{generator_in, order_in}
use Rattle.order.specs.Model.Accepted.{AcceptedCode, AcceptedDegree, AcceptedThreshold, Accepted, AcceptedWhole, AcceptedAs}
use Rattle.order.specs.declared.questions.Takes.{Takes}
use Rattle.order.specs.declared.record.OrderRecord.{OrderRecord}
use Rattle.order.proofs.Answers.{range}
use Rattle.order.proofs.FirstNo.{Numbered, first_no_none, first_yes, asked, none_in_parts, refused_first, refused_later}

-- ---- every question has its number

pub numbered_++ : (qs rest : List Question) → Numbered qs → Numbered rest → Numbered (qs ++ rest)
numbered_++ [] rest n m = m
numbered_++ (q ∷ qs) rest n m =
    let numbers = (T_and (ltb 0 q.0) _).0 n in
    (T_and (ltb 0 q.0) _).1 (numbers.0, numbered_++ qs rest numbers.1 m)

pub numbered_shape : (versions longest version n v N : ℕ) → Numbered (shape_questions versions longest version n v N)
unfolding shape_questions
numbered_shape versions longest version n v N = tt

pub numbered_taken : (b : Bool) (q : Question) → Numbered (q ∷ []) → Numbered (if_taken b q)
unfolding if_taken
numbered_taken true q n = n
numbered_taken false q n = tt

pub numbered_numbers : (takes : Takes) (o : Order) → Numbered (number_questions takes o)
unfolding number_questions
numbered_numbers takes o =
    numbered_++ (if_taken takes.degree (check_degree o.N o.m)) (if_taken takes.threshold (threshold o.d))
    (numbered_taken takes.degree (check_degree o.N o.m) tt) (numbered_taken takes.threshold (threshold o.d) tt)

pub numbered_generators : (v : ℕ) (gs : List ℕ) → Numbered (generator_questions v gs)
unfolding generator_questions
numbered_generators v gs = tt

pub numbered_order : (takes : Takes) (o : Order) → Numbered (order_questions takes o)
unfolding order_questions
numbered_order takes o =
    numbered_++ (shape_questions takes.versions takes.longest o.version (length o.generators) o.v o.N) (number_questions takes o ++ generator_questions o.v o.generators)
    (numbered_shape takes.versions takes.longest o.version (length o.generators) o.v o.N)
    (numbered_++ (number_questions takes o) (generator_questions o.v o.generators) (numbered_numbers takes o) (numbered_generators o.v o.generators))

-- ---- what follows

-- what questions 2, 3, 4 and 5 let a call assume
pub record Shaped (versions longest version n v N : ℕ) : Type 0 where
  pub some_version : 1 ≤ version
  pub known_version : version ≤ versions
  pub some_generators : 2 ≤ n
  pub few_generators : n ≤ 4
  pub some_memory : 1 ≤ v
  pub small_memory : v ≤ 8
  pub long_enough : v ≤ N
  pub at_most : N ≤ longest

pub shaped : (versions longest version n v N : ℕ) → first_no (shape_questions versions longest version n v N) ≡ 0 → Shaped versions longest version n v N
unfolding shape_questions
shaped versions longest version n v N e =
    let kind = range 1 versions version (asked 2 _ tt e) in
    let count = range 2 4 n (asked 3 _ tt e) in
    let memory = range 1 8 v (asked 4 _ tt e) in
    let words = range v longest N (asked 5 _ tt e) in
    record { some_version = kind.0; known_version = kind.1; some_generators = count.0; few_generators = count.1; some_memory = memory.0; small_memory = memory.1; long_enough = words.0; at_most = words.1 }

pub order_shaped : (takes : Takes) (o : Order) → first_no (order_questions takes o) ≡ 0
    → Shaped takes.versions takes.longest o.version (length o.generators) o.v o.N
unfolding order_questions
order_shaped takes o e = shaped _ _ _ _ _ _ (none_in_parts _ _ (numbered_shape _ _ _ _ _ _) e).0

-- a lent list is long enough
pub room-told : (need have : ℕ) (rest : List Question) → first_no (room need have ∷ rest) ≡ 0 → (need ≤ have) × (first_no rest ≡ 0)
room-told need have rest e = let here = first_yes (room need have) rest tt e in (leb-true need have here.0, here.1)

degree-told : (o : Order) → (from_to 1 12 o.m && ltb o.m o.N) ≡ true → AcceptedDegree o
degree-told o six =
    let parts = both (from_to 1 12 o.m) (ltb o.m o.N) six in
    let numbers = range 1 12 o.m parts.0 in
    record { some_degree = numbers.0; at_most_12 = numbers.1; below_length = ltb-true o.m o.N parts.1 }

threshold-told : (o : Order) → from_to 1 64 o.d ≡ true → AcceptedThreshold o
threshold-told o seven = let weights = range 1 64 o.d seven in record { some_weight = weights.0; at_most_64 = weights.1 }

code-told : (versions longest : ℕ) → versions ≤ highest_version → longest ≤ longest_word → (o : Order)
    → first_no (shape_questions versions longest o.version (length o.generators) o.v o.N) ≡ 0
    → first_no (generator_questions o.v o.generators) ≡ 0 → AcceptedCode o
unfolding generator_questions
code-told versions longest known most o e f =
    let shape = shaped _ _ _ _ _ _ e in
    let nine = both (any (has_bit o.v) o.generators) (any (has_bit 0) o.generators) (asked 9 _ tt f) in
    record {
      some_version = shape.some_version;
      known_version = le_trans shape.known_version known;
      some_generators = shape.some_generators;
      few_generators = shape.few_generators;
      some_memory = shape.some_memory;
      small_memory = shape.small_memory;
      long_enough = shape.long_enough;
      at_most_128 = le_trans shape.at_most most;
      is_in_range = asked 8 _ tt f;
      one_has_bit_v = nine.0;
      one_has_bit_0 = nine.1;
      shares_no_factor = not-true _ (asked 16 _ tt f);
    }

-- one question, asked or not
pub not_taken : (b : Bool) (q : Question) → b ≡ false → 0 ≡ first_no (if_taken b q)
unfolding if_taken
not_taken true q e = absurd (true≢false e)
not_taken false q e = sym first_no_none

pub taken_said : (b : Bool) (q : Question) → b ≡ true → first_no (q ∷ []) ≡ first_no (if_taken b q)
unfolding if_taken
taken_said true q e = refl
taken_said false q e = absurd (true≢false (sym e))

taken_yes : (b : Bool) (q : Question) → Numbered (q ∷ []) → first_no (if_taken b q) ≡ 0 → b ≡ true → q.1 ≡ true
unfolding if_taken
taken_yes true q n e t = (first_yes q [] ((T_and (ltb 0 q.0) true).0 n).0 e).0
taken_yes false q n e t = absurd (true≢false (sym t))

-- an order that its questions pass is accepted, by a call whose bounds are no wider than those of all
pub accepted_as : (takes : Takes) → takes.versions ≤ highest_version → takes.longest ≤ longest_word → (o : Order) → first_no (order_questions takes o) ≡ 0 → AcceptedAs takes o
unfolding order_questions number_questions
accepted_as takes known most o e =
    let outer = none_in_parts _ _ (numbered_shape _ _ _ _ _ _) e in
    let inner = none_in_parts _ _ (numbered_numbers takes o) outer.1 in
    let degree : Question = check_degree o.N o.m in
    let weights : Question = threshold o.d in
    let numbers = none_in_parts (if_taken takes.degree degree) (if_taken takes.threshold weights) (numbered_taken takes.degree degree tt) inner.0 in
    record {
      code = code-told _ _ known most o outer.0 inner.1;
      degree = λ t. degree-told o (taken_yes takes.degree degree tt numbers.0 t);
      threshold = λ t. threshold-told o (taken_yes takes.threshold weights tt numbers.1 t);
    }

pub accepted_code : (o : Order) → first_no (order_questions the_code o) ≡ 0 → AcceptedCode o
accepted_code o e = (accepted_as the_code (omega arith) (omega arith) o e).code

pub accepted_threshold : (o : Order) → first_no (order_questions and_threshold o) ≡ 0 → Accepted o
accepted_threshold o e = let a = accepted_as and_threshold (omega arith) (omega arith) o e in record { code = a.code; threshold = a.threshold refl }

-- everything is taken, of versions and lengths up to some
pub accepted_whole_as : (takes : Takes) {o : Order} → AcceptedAs takes o → takes.degree ≡ true → takes.threshold ≡ true → AcceptedWhole o
accepted_whole_as takes a m d = record { order = record { code = a.code; threshold = a.threshold d }; degree = a.degree m }

pub accepted_whole : (o : Order) → first_no (order_questions everything o) ≡ 0 → AcceptedWhole o
accepted_whole o e = accepted_whole_as everything (accepted_as everything (omega arith) (omega arith) o e) refl refl

-- ---- the struct

pub length-order_in : (r : OrderRecord) → length (order_in r).generators ≡ r.n
unfolding order_in
length-order_in r = length-map (up_from 0 r.n) (generator_in r) ∙ length-up_from 0 r.n

-- the first n of the generators are the order's
pub generators_in : (r : OrderRecord) → r.n ≤ length r.generators → take r.n r.generators ≡ (order_in r).generators
unfolding order_in generator_in
generators_in r h = take-get_or 0 r.generators r.n h

-- of an accepted order, by a copy of all four
module _ (r : OrderRecord) (acc : AcceptedCode (order_in r)) where
  pub few_in : r.n ≤ 4
  few_in = rw length-order_in at acc.few_generators

  pub four_are : (gs : List ℕ) → gs ≡ r.generators → length gs ≡ 4 → take r.n gs ≡ (order_in r).generators
  four_are gs e four = ap (take r.n) e ∙ generators_in r (let few = few_in in let all = ap length e in omega arith)

  pub four_few : (gs : List ℕ) → gs ≡ r.generators → length gs ≡ 4 → length (take r.n gs) ≤ 4
  four_few gs e four = rw (four_are gs e four) acc.few_generators

-- ---- asked part by part, as the code does

-- the struct's n is how many generators the order has
pub shape_asked : (versions longest : ℕ) (r : OrderRecord) (s : ℕ) → s ≡ first_no (shape_questions versions longest r.version r.n r.v r.bits)
    → s ≡ first_no (shape_questions versions longest r.version (length (order_in r).generators) r.v r.bits)
shape_asked versions longest r s es = es ∙ ap (λ (n : ℕ). first_no (shape_questions versions longest r.version n r.v r.bits)) (sym (length-order_in r))

module _ (takes : Takes) (r : OrderRecord) (s : ℕ) (es : s ≡ first_no (shape_questions takes.versions takes.longest r.version r.n r.v r.bits)) where
  pub refused_by_shape : (s ≡ 0 → ⊥) → s ≡ first_no (order_questions takes (order_in r))
  unfolding order_questions order_in
  refused_by_shape n = refused_first _ _ s (numbered_shape _ _ _ _ _ _) (shape_asked _ _ r s es) n

  module _ (zs : s ≡ 0) where
    pub shape_of : Shaped takes.versions takes.longest r.version r.n r.v r.bits
    shape_of = shaped _ _ _ _ _ _ (sym es ∙ zs)

    module _ (x : ℕ) (ex : x ≡ first_no (number_questions takes (order_in r))) where
      pub refused_by_numbers : (x ≡ 0 → ⊥) → x ≡ first_no (order_questions takes (order_in r))
      unfolding order_questions order_in
      refused_by_numbers n = refused_later _ _ s x (numbered_shape _ _ _ _ _ _) (shape_asked _ _ r s es) zs (refused_first _ _ x (numbered_numbers takes (order_in r)) ex n)

      pub all_asked : x ≡ 0 → (y : ℕ) → length r.generators ≡ 4 → y ≡ first_no (generator_questions r.v (take r.n r.generators)) → y ≡ first_no (order_questions takes (order_in r))
      unfolding order_questions order_in
      all_asked zx y four ey =
          refused_later _ _ s y (numbered_shape _ _ _ _ _ _) (shape_asked _ _ r s es) zs
          (refused_later _ _ x y (numbered_numbers takes (order_in r)) ex zx
          (ey ∙ ap (λ (gs : List ℕ). first_no (generator_questions r.v gs)) (generators_in r (let few = shape_of.few_generators in omega arith))))
