-- What follows from the questions about a record: the refusals in their order, and that an accepted record's fields are its order.
-- Assumes nothing.
use mathlib.Core.Path.{◌≡◌, refl, sym, ap, ap₂, ◌∙◌}
use mathlib.Core.Logic.{inl, inr}
use mathlib.Core.Bool.{false, cond}
use mathlib.Core.List.{List, [], ◌∷◌, ◌++◌, map}
use Prim.Native.Nat.{ℕ, zero, suc, ◌+◌, ◌-◌, ◌*◌, ◌≤◌, ◌<◌}
use native.Mathlib.Nat.{not-suc-le-zero, le_of_suc-le-suc}
use native.Mathlib.Omega.{arith}
use borrow.Author.Tests.{lt-leb, le-leb, leb-true, eqb-true}
use lib.Dec.{leb, eqb}
use lib.ListN.{length, get_or, replicate, get_or-eq_default}
use Rattle.lists.specs.Lists.{up_from, padded}
use Rattle.lists.proofs.Lengths.{length-map-up_from, block_at}
use Rattle.lists.proofs.Tests.{lt_or_ge}
use Rattle.lists.proofs.Tests.{and_yes, and_no, both}
use Rattle.order.specs.Questions.{Question, first_no, from_to, highest_version, shape_questions}
use Rattle.order.specs.Answer.{accepted, refused, unless}
use Rattle.order.specs.Order.{Order, everything, be16, length_right, version_right, count_right, record_questions, order_questions, read_generators, read_fields, read}
use Rattle.order.specs.Answers.{generator_in, order_in, record_of, recorded}
use Rattle.order.specs.Model.Fields.{fields_of}
use Rattle.order.specs.declared.record.OrderRecord.{OrderRecord}
use Rattle.order.proofs.Answers.{not_too_small}
use Rattle.order.proofs.FirstNo.{Numbered, first_no_no, asked, refused_first, refused_later}
use Rattle.order.proofs.Asked.{length-order_in, accepted_whole}

-- ---- single tests, in the shape of the code

pub length_none : (bytes : List ℕ) → length bytes < 2 → false ≡ length_right bytes
unfolding length_right
length_none bytes h = and_no _ _ (lt-leb 2 (length bytes) h)

pub length-told : (bytes : List ℕ) (x : ℕ) → 2 ≤ length bytes → x ≡ be16 bytes 0 → eqb x (length bytes - 2) ≡ length_right bytes
unfolding length_right
length-told bytes x h e = ap (λ (y : ℕ). eqb y (length bytes - 2)) e ∙ and_yes _ _ (le-leb 2 (length bytes) h)

pub version_none : (bytes : List ℕ) → length bytes < 3 → false ≡ version_right bytes
unfolding version_right
version_none bytes h = and_no _ _ (lt-leb 3 (length bytes) h)

pub version_told : (bytes : List ℕ) (x : ℕ) → 3 ≤ length bytes → x ≡ get_or bytes 2 0 → from_to 1 highest_version x ≡ version_right bytes
unfolding version_right
version_told bytes x h e = ap (from_to 1 highest_version) e ∙ and_yes _ _ (le-leb 3 (length bytes) h)

pub count_none : (bytes : List ℕ) → length bytes < 4 → false ≡ count_right bytes
unfolding count_right
count_none bytes h = and_no _ _ (lt-leb 4 (length bytes) h)

pub count-told : (bytes : List ℕ) (n x : ℕ) → 4 ≤ length bytes → n ≡ get_or bytes 3 0 → x ≡ be16 bytes 0 → eqb x (6 + 2 * n) ≡ count_right bytes
unfolding count_right
count-told bytes n x h e ex = ap₂ (λ (y k : ℕ). eqb y (6 + 2 * k)) ex e ∙ and_yes _ _ (le-leb 4 (length bytes) h)

-- ---- what an accepted record may use

pub record_numbered : (bytes : List ℕ) → Numbered (record_questions bytes)
unfolding record_questions
record_numbered bytes = tt

-- how many bytes there are
record_size : (bytes : List ℕ) → first_no (record_questions bytes) ≡ 0 → length bytes ≡ 8 + 2 * get_or bytes 3 0
unfolding record_questions length_right count_right
record_size bytes e =
    let stated = both (leb 2 (length bytes)) (eqb (be16 bytes 0) (length bytes - 2)) (asked 1 _ tt e) in
    let needed = both (leb 4 (length bytes)) (eqb (be16 bytes 0) (6 + 2 * get_or bytes 3 0)) (asked 3 _ tt e) in
    let some : 2 ≤ length bytes = leb-true 2 (length bytes) stated.0 in
    let a : be16 bytes 0 ≡ length bytes - 2 = eqb-true _ _ stated.1 in
    let b : be16 bytes 0 ≡ 6 + 2 * get_or bytes 3 0 = eqb-true _ _ needed.1 in
    omega arith

-- past the end there are zeros
past : (bytes : List ℕ) (i : ℕ) → length bytes ≤ i → be16 bytes i ≡ 0
unfolding be16
past bytes i h =
    ap₂ (λ (x y : ℕ). x * 256 + y) (get_or-eq_default bytes 0 h) (get_or-eq_default bytes 0 {n = i + 1} (omega arith))

-- the four fields, where there are n generators, are these and zeros
generators_of : (bytes : List ℕ) (n : ℕ) → 2 ≤ n → n ≤ 4 → length bytes ≡ 8 + 2 * n
    → be16 bytes 8 ∷ be16 bytes 10 ∷ be16 bytes 12 ∷ be16 bytes 14 ∷ [] ≡ padded 4 0 (read_generators bytes n)
unfolding read_generators up_from padded
generators_of bytes zero h l e = absurd (not-suc-le-zero h)
generators_of bytes (suc zero) h l e = absurd (not-suc-le-zero (le_of_suc-le-suc h))
generators_of bytes (suc (suc zero)) h l e = ap₂ (λ (x y : ℕ). be16 bytes 8 ∷ be16 bytes 10 ∷ x ∷ y ∷ []) (past bytes 12 (omega arith)) (past bytes 14 (omega arith))
generators_of bytes (suc (suc (suc zero))) h l e = ap (λ (x : ℕ). be16 bytes 8 ∷ be16 bytes 10 ∷ be16 bytes 12 ∷ x ∷ []) (past bytes 14 (omega arith))
generators_of bytes (suc (suc (suc (suc zero)))) h l e = refl
generators_of bytes (suc (suc (suc (suc (suc n))))) h l e = absurd (omega arith)

length-read : (bytes : List ℕ) → length (read_fields bytes).generators ≡ get_or bytes 3 0
unfolding read_fields read_generators
length-read bytes = length-map-up_from (λ (k : ℕ). be16 bytes (8 + 2 * k)) 0 (get_or bytes 3 0)

pub fields_are_record : (bytes : List ℕ) → 2 ≤ get_or bytes 3 0 → get_or bytes 3 0 ≤ 4 → length bytes ≡ 8 + 2 * get_or bytes 3 0 → fields_of bytes ≡ record_of (read_fields bytes)
unfolding fields_of record_of read_fields
fields_are_record bytes h l e =
    let n = sym (length-read bytes) in
    let gs = generators_of bytes (get_or bytes 3 0) h l e in
    λ i. record { version = get_or bytes 2 0; n = n i; v = get_or bytes 4 0; bits = get_or bytes 5 0; m = get_or bytes 6 0; d = get_or bytes 7 0; generators = gs i }

-- the order that the fields tell is the record's, of up to four generators
fields_order : (bytes : List ℕ) → get_or bytes 3 0 ≤ 4 → order_in (fields_of bytes) ≡ read_fields bytes
unfolding fields_of order_in read_fields read_generators up_from generator_in
fields_order bytes h =
    ap (λ (gs : List ℕ). record { version = get_or bytes 2 0; v = get_or bytes 4 0; N = get_or bytes 5 0; m = get_or bytes 6 0; d = get_or bytes 7 0; generators = gs }) (by (get_or bytes 3 0) h)
  where
    by : (n : ℕ) → n ≤ 4 → map (generator_in (fields_of bytes)) (up_from 0 n) ≡ read_generators bytes n
    by zero l = refl
    by (suc zero) l = refl
    by (suc (suc zero)) l = refl
    by (suc (suc (suc zero))) l = refl
    by (suc (suc (suc (suc zero)))) l = refl
    by (suc (suc (suc (suc (suc n))))) l = absurd (omega arith)

-- the struct of an order tells it whole
pub order_of_record : (o : Order) → order_in (record_of o) ≡ o
unfolding order_in record_of padded generator_in
order_of_record o =
    ap (λ (gs : List ℕ). record { version = o.version; v = o.v; N = o.N; m = o.m; d = o.d; generators = gs })
    (block_at 0 [] o.generators (replicate (4 - length o.generators) 0))

length_fields : (bytes : List ℕ) → length (order_in (fields_of bytes)).generators ≡ get_or bytes 3 0
unfolding fields_of
length_fields bytes = length-order_in (fields_of bytes)

-- the second question says no
second_no : (q r : Question) (qs : List Question) → r.1 ≡ false → first_no (q ∷ r ∷ qs) ≡ cond q.1 r.0 q.0
unfolding first_no
second_no q r qs e = ap (λ (k : ℕ). cond q.1 k q.0) (first_no_no r qs e)

-- of more than four generators, once the kind of link is asked
too_many : (o : Order) → 4 < length o.generators → first_no (order_questions everything o) ≡ cond (from_to 1 highest_version o.version) 3 2
unfolding order_questions shape_questions
too_many o h = second_no _ _ _ (sym (not_too_small 2 4 (length o.generators) (omega arith)) ∙ lt-leb (length o.generators) 4 h)

-- ---- the reading

module _ (bytes : List ℕ) where
  -- the questions about the fields are those about the record's order: of more than four generators both say 3, or 2 before it
  inside_same : first_no (order_questions everything (order_in (fields_of bytes))) ≡ first_no (order_questions everything (read_fields bytes))
  unfolding fields_of order_in read_fields
  inside_same = elim (lt_or_ge 4 (get_or bytes 3 0)) [
    | inl more ↦ too_many (order_in (fields_of bytes)) (rw (length_fields bytes) more) ∙ sym (too_many (read_fields bytes) (rw (length-read bytes) more))
    | inr few ↦ ap (λ (o : Order). first_no (order_questions everything o)) (fields_order bytes few)
  ]

  reading_refused : (r : ℕ) → r ≡ first_no (record_questions bytes ++ order_questions everything (read_fields bytes)) → (r ≡ 0 → ⊥) → refused r ≡ recorded (read bytes)
  unfolding read unless recorded
  reading_refused zero e n = absurd (n refl)
  reading_refused (suc r) e n = ap (λ (k : ℕ). recorded (unless k (accepted (read_fields bytes)))) e

  module _ (r : ℕ) (er : r ≡ first_no (record_questions bytes)) where
    pub read_refused_outside : (r ≡ 0 → ⊥) → refused r ≡ recorded (read bytes)
    read_refused_outside n = reading_refused r (refused_first _ _ r (record_numbered bytes) er n) n

    module _ (z : r ≡ 0) (o : OrderRecord) (eo : o ≡ fields_of bytes) (x : ℕ) (ex : x ≡ first_no (order_questions everything (order_in o))) where
      asked_inside : x ≡ first_no (order_questions everything (read_fields bytes))
      asked_inside = ex ∙ ap (λ (q : OrderRecord). first_no (order_questions everything (order_in q))) eo ∙ inside_same

      asked_all : x ≡ first_no (record_questions bytes ++ order_questions everything (read_fields bytes))
      asked_all = refused_later _ _ r x (record_numbered bytes) er z asked_inside

      pub read_refused_inside : (x ≡ 0 → ⊥) → refused x ≡ recorded (read bytes)
      read_refused_inside n = reading_refused x asked_all n

      pub read_accepted : x ≡ 0 → accepted o ≡ recorded (read bytes)
      unfolding read unless recorded
      read_accepted zx =
          let code = (accepted_whole (read_fields bytes) (sym asked_inside ∙ zx)).order.code in
          let count : length (read_fields bytes).generators ≡ get_or bytes 3 0 = length-read bytes in
          ap (λ (q : OrderRecord). accepted q)
          (eo ∙ fields_are_record bytes (rw (← count) code.some_generators) (rw (← count) code.few_generators) (record_size bytes (sym er ∙ z)))
          ∙ ap (λ (k : ℕ). recorded (unless k (accepted (read_fields bytes)))) (sym zx ∙ asked_all)
