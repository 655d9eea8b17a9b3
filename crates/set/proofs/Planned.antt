-- The plan for a set of lengths: what its questions let its job assume (`to_make_set`), and that its job makes the row of the set (`set-made`).
-- Assumes nothing.
use Prim.Native.Nat.{ℕ, ◌+◌, ◌-◌, ◌≤◌, ◌<◌}
use native.Mathlib.Omega.{arith}
use mathlib.Core.Path.{◌≡◌, refl, sym, ap, ap₂, ◌∙◌, subst}
use mathlib.Core.Logic.{⊎_elim}
use mathlib.Core.List.{List, [], ◌∷◌}
use lib.ListN.{length, get_or, drop, length-drop}
use lib.Seq.{get_or-drop}
use Rattle.order.specs.Questions.{first_no, longest_word, work_size}
use Rattle.order.specs.Order.{Order, with_length, everything}
use Rattle.order.specs.Answers.{order_in}
use Rattle.order.specs.Answer.{Answer}
use Rattle.order.specs.Model.Accepted.{Accepted}
use Rattle.order.specs.Model.Lengths.{NoLonger}
use Rattle.order.proofs.FirstNo.{none_in_parts}
use Rattle.order.proofs.Asked.{numbered_order, accepted_whole}
use Rattle.order.proofs.Lengths.{no_longer_itself}
use Rattle.row.specs.declared.Row.{Row}
use Rattle.undetected.specs.Undetected.{undetected_counts}
use Rattle.choice.specs.Choice.{candidates, first_of, Choice, choice_among}
use Rattle.narrowing.specs.Narrowed.{longest, set_choice}
use Rattle.narrowing.proofs.Narrowed.{narrowed-any}
use Rattle.narrowing.proofs.OneLength.{one_length}
use Rattle.lengths.specs.Shorter.{for_each}
use Rattle.jobs.specs.declared.Job.{Job}
use Rattle.jobs.specs.declared.Job.TheVariants as J
use Rattle.jobs.specs.declared.Plan.{Plan}
use Rattle.jobs.specs.Jobs.{SearchTables, cleared_search, unless_too_many, chosen, rows_of, made, ran}
use Rattle.jobs.specs.Model.Steps.{row_order, ToChooseFor, ToServe, JobAsks, ToMake}
use Rattle.calls.specs.Calls.{questions}
use Rattle.calls.proofs.Accepts.{chosen_rooms}
use Rattle.search.specs.Calls.{search_questions}
use Rattle.set.specs.Calls.{shortest, set_questions, set_row}
use Rattle.set.specs.Model.Plans.{PlannedFor}
use Rattle.set.proofs.Lists.{at_most_first}
use Rattle.set.proofs.Asked.{Passed, passed}

pub first_is : (Ns : List ℕ) → get_or Ns 0 0 ≡ first_of Ns
unfolding first_of
first_is [] = refl
first_is (N ∷ Ns) = refl

-- ---- the first length, and those after it

split : (Ns : List ℕ) → 1 ≤ length Ns → Ns ≡ first_of Ns ∷ drop 1 Ns
unfolding first_of
split [] h = absurd (omega arith)
split (N ∷ Ns) h = refl

no_rest : (Ms : List ℕ) → length Ms ≡ 0 → Ms ≡ []
no_rest [] h = refl
no_rest (M ∷ Ms) h = absurd (omega arith)

-- ---- the row of a set

-- the order's own length is not looked at
same_choice : (o : Order) (N : ℕ) (Ns : List ℕ) → set_choice (with_length N o) (N ∷ Ns) ≡ set_choice o (N ∷ Ns)
unfolding set_choice longest first_of with_length
same_choice o N Ns = ap (choice_among (undetected_counts (with_length N o))) (narrowed-any o N (N ∷ Ns) (candidates o.m))

-- of one length: narrowing changes nothing
pub row_of_one : (o : Order) (N : ℕ) (shorter : List ℕ) (t : SearchTables) → set_row o (N ∷ []) t ≡ ran J.Choose shorter (with_length N o) (with_length N o) t
unfolding set_row ran rows_of made longest first_of for_each
row_of_one o N shorter t =
    let q : Order = with_length N o in
    ap (λ (c : Choice). unless_too_many q (q ∷ []) (length t.events) (length t.paths) (cleared_search t) (chosen q q t c)) (one_length o N)

row_of_more : (o : Order) (N : ℕ) (Ns : List ℕ) (t : SearchTables) → ran J.ChooseFor Ns (with_length N o) (with_length N o) t ≡ set_row o (N ∷ Ns) t
unfolding set_row ran rows_of made longest first_of for_each with_length
row_of_more o N Ns t =
    let q : Order = with_length N o in
    ap (λ (c : Choice). unless_too_many q (q ∷ for_each Ns o) (length t.events) (length t.paths) (cleared_search t) (chosen q q t c)) (same_choice o N Ns)

-- ---- what is asked

module _ {o : Order} {Ns : List ℕ} {plan : Plan} (planned : PlannedFor o Ns plan) where
  row_is : 1 ≤ length Ns → row_order plan ≡ longest o Ns
  unfolding row_order longest with_length
  row_is some = ap₂ with_length planned.bits planned.order

  module _ (plain undetected work : List ℕ) (none : first_no (set_questions o Ns (length plain) (length undetected) (length work)) ≡ 0) where
    here : Passed o Ns (length plain) (length undetected) (length work)
    here = passed o Ns (length plain) (length undetected) (length work) none

    asks : ToChooseFor (with_length (shortest Ns) o) plain undetected × (work_size ≤ length work)
    unfolding search_questions questions with_length
    asks =
        let q : Order = with_length (shortest Ns) o in
        let parts = none_in_parts _ _ (numbered_order everything q) here.search in
        let whole = accepted_whole q parts.0 in
        chosen_rooms q whole.order plan.shorter.now plain undetected work whole.degree parts.1

    -- the order is accepted for any of the lengths
    accepted_at : (N : ℕ) → o.v ≤ N → N ≤ longest_word → Accepted (with_length N o)
    unfolding with_length
    accepted_at N low high =
        let a = asks.0.list.order in
        record {
          code = record {
            some_version = a.code.some_version;
            known_version = a.code.known_version;
            some_generators = a.code.some_generators;
            few_generators = a.code.few_generators;
            some_memory = a.code.some_memory;
            small_memory = a.code.small_memory;
            long_enough = low;
            at_most_128 = high;
            is_in_range = a.code.is_in_range;
            one_has_bit_v = a.code.one_has_bit_v;
            one_has_bit_0 = a.code.one_has_bit_0;
            shares_no_factor = a.code.shares_no_factor;
          };
          threshold = record { some_weight = a.threshold.some_weight; at_most_64 = a.threshold.at_most_64 };
        }

    at : (i : ℕ) → i < length Ns → Accepted (with_length (get_or Ns i 0) o)
    at i h = let l = here.long i h in accepted_at (get_or Ns i 0) l.0 l.1

    of_longest : ToChooseFor (longest o Ns) plain undetected
    unfolding longest with_length shortest
    of_longest =
        let a = asks.0 in
        let some = here.some in
        let first : Accepted (with_length (first_of Ns) o) = subst (λ (N : ℕ). Accepted (with_length N o)) (first_is Ns) (at 0 (omega arith)) in
        let low = at_most_first Ns here.falls (length Ns - 1) (omega arith) in
        let top = first_is Ns in
        let below = a.whole.degree.below_length in
        record {
          list = record { order = first; plain_room = a.list.plain_room };
          whole = record { order = first; degree = record { some_degree = a.whole.degree.some_degree; at_most_12 = a.whole.degree.at_most_12; below_length = omega arith } };
          undetected_room = a.undetected_room;
        }

    serves : ToServe (drop 1 Ns) (longest o Ns)
    unfolding longest with_length
    serves =
        let few = here.few in
        let count = length-drop 1 Ns in
        record {
          few = omega arith;
          each = λ i h. subst (λ (N : ℕ). Accepted (with_length N o)) (sym (get_or-drop 1 Ns i 0)) (at (1 + i) (omega arith));
          shorter = λ i h.
              let e = get_or-drop 1 Ns i 0 in
              let low = at_most_first Ns here.falls (1 + i) (omega arith) in
              let top = first_is Ns in
              omega arith;
        }

    asked_for : JobAsks plan.job plan.shorter.now (longest o Ns) plain undetected
    unfolding JobAsks
    asked_for = ⊎_elim
        (λ one. subst (λ (job : Job). JobAsks job plan.shorter.now (longest o Ns) plain undetected) (sym one.1) of_longest)
        (λ more. subst (λ (job : Job). JobAsks job plan.shorter.now (longest o Ns) plain undetected) (sym more.0) (of_longest, subst (λ (Ms : List ℕ). ToServe Ms (longest o Ns)) (sym more.1) serves))
        planned.job

    pub to_make_set : ToMake plan plain undetected work
    to_make_set =
        let row = row_is here.some in
        record {
          collected = subst Accepted (sym planned.order) of_longest.list.order;
          no_longer = subst (λ (x : Order). NoLonger x (order_in plan.order)) (planned.order ∙ sym row) (no_longer_itself (order_in plan.order));
          wide = asks.1;
          job = subst (λ (x : Order). JobAsks plan.job plan.shorter.now x plain undetected) (sym row) asked_for;
        }

  -- ---- what is made

  module _ (some : 1 ≤ length Ns) (t : SearchTables) where
    abbrev Outcome : Type 0
    Outcome = Answer Row × SearchTables

    abbrev l : Order
    l = longest o Ns

    -- of one length, as the search
    one_made : length Ns ≡ 1 → ran J.Choose plan.shorter.now l l t ≡ set_row o Ns t
    unfolding longest first_of
    one_made one =
        let e : Ns ≡ first_of Ns ∷ [] = split Ns some ∙ ap (λ (Ms : List ℕ). first_of Ns ∷ Ms) (no_rest (drop 1 Ns) (omega (arith, length-drop 1 Ns, one))) in
        subst (λ (Ms : List ℕ). ran J.Choose plan.shorter.now (longest o Ms) (longest o Ms) t ≡ set_row o Ms t) (sym e) (sym (row_of_one o (first_of Ns) plan.shorter.now t))

    more_made : plan.shorter.now ≡ drop 1 Ns → ran J.ChooseFor plan.shorter.now l l t ≡ set_row o Ns t
    unfolding longest first_of
    more_made after =
        ap (λ (Ms : List ℕ). ran J.ChooseFor Ms l l t) after
        ∙ subst (λ (Ms : List ℕ). ran J.ChooseFor (drop 1 Ns) (longest o Ms) (longest o Ms) t ≡ set_row o Ms t) (sym (split Ns some)) (row_of_more o (first_of Ns) (drop 1 Ns) t)

    pub set-made : ran plan.job plan.shorter.now (order_in plan.order) (row_order plan) t ≡ set_row o Ns t
    set-made =
        ap₂ (λ (x y : Order). ran plan.job plan.shorter.now x y t) planned.order (row_is some)
        ∙ ⊎_elim
        (λ one. ap (λ (job : Job). ran job plan.shorter.now l l t) one.1 ∙ one_made one.0)
        (λ more. ap (λ (job : Job). ran job plan.shorter.now l l t) more.0 ∙ more_made more.1)
        planned.job
