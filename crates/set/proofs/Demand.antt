-- What the search for a set of lengths promises, for whatever order and list come and whatever tables are lent (`set_promise`; crates/set/specs/Promise.antt says
-- it): the named p is left after every length and first best of those left, accepted exactly when no question refuses, and a list of one length gives what the
-- search gives (`one_length-call`). `set_promises` says it of the function's own answer.
-- Assumes nothing.
use Prim.Native.Nat.{ℕ, ◌≤◌}
use mathlib.Core.Path.{◌≡◌, refl, sym, ap, ◌∙◌, subst}
use mathlib.Core.Bool.{Bool, true, false, ◌&&◌}
use mathlib.Core.Logic.{◌⊎◌, inl, inr, ⊎_elim}
use mathlib.Core.List.Memᴰ
use mathlib.Core.List.{List, [], ◌∷◌, Memᴰ}
use lib.ListN.{length}
use Rattle.std.specs.Prelude.{Result}
use Rattle.lists.specs.Lists.{all, padded}
use Rattle.order.specs.Questions.{Question, first_no, from_to, shape_questions}
use Rattle.order.specs.Order.{Order, with_length, everything, order_questions}
use Rattle.order.specs.Answer.{accepted, refused, unless_refused}
use Rattle.order.specs.Answers.{order_in}
use Rattle.order.specs.declared.record.OrderRecord.{OrderRecord}
use Rattle.order.specs.declared.refusal.Refusal.{Refusal}
use Rattle.order.specs.Model.Accepted.{AcceptedWhole}
use Rattle.order.proofs.FirstNo.{none_in_parts, refused_not_accepted}
use Rattle.order.proofs.Asked.{numbered_order, accepted_whole}
use Rattle.row.specs.declared.Row.{Row}
use Rattle.row.specs.Answered.{row, answered_as}
use Rattle.events.specs.Events.{events}
use Rattle.paths.specs.Paths.{paths, path_room}
use Rattle.undetected.specs.Undetected.{undetected_counts, CountsUndetected}
use Rattle.undetected.proofs.Undetected.{undetected_means_divided, undetected_of_weight}
use Rattle.undetected.proofs.FirstUndetected.{first-weight}
use Rattle.choice.specs.Choice.{choice_among}
use Rattle.narrowing.specs.Narrowed.{longest, set_choice}
use Rattle.narrowing.proofs.Narrowed.{set⇔best_of_set}
use Rattle.lengths.specs.Model.Noted.{AllFit}
use Rattle.lengths.specs.Shorter.{for_each}
use Rattle.jobs.specs.Jobs.{SearchTables, filled_search, chosen}
use Rattle.calls.specs.Calls.{questions, call}
use Rattle.calls.proofs.Outcomes.{Outcome, NoRefusal, whole_accepts, whole_either}
use Rattle.search.specs.Calls.{search_questions, search_call}
use Rattle.search.proofs.Demand.{accepted_same}
use Rattle.set.specs.Calls.{all_below, falling, shortest, kind_questions, length_questions, set_questions, set_row, set_call}
use Rattle.set.specs.Promise.{NoneRefusesSet, NamesBestOfSet, SetPromise}
use Rattle.set.proofs.Asked.{passed}
use Rattle.set.proofs.Planned.{row_of_one}

-- ---- each length's paths fit

all_fit_of : (numbers : ℕ) (o : Order) (Ns : List ℕ) → ((N : ℕ) → Memᴰ N Ns → length (paths (with_length N o)) ≤ path_room numbers) → AllFit numbers (for_each Ns o)
unfolding AllFit for_each
all_fit_of numbers o [] each = tt
all_fit_of numbers o (N ∷ Ns) each = (each N (Memᴰ.head refl), all_fit_of numbers o Ns (λ M m. each M (Memᴰ.tail m)))

of_all_fit : (numbers : ℕ) (o : Order) (Ns : List ℕ) → AllFit numbers (for_each Ns o) → (N : ℕ) → Memᴰ N Ns → length (paths (with_length N o)) ≤ path_room numbers
unfolding AllFit for_each
of_all_fit numbers o [] fit N m = absurd (Memᴰ.not-nil m)
of_all_fit numbers o (M ∷ Ns) fit N m =
    ⊎_elim (λ e. subst (λ (k : ℕ). length (paths (with_length k o)) ≤ path_room numbers) (sym e) fit.0) (of_all_fit numbers o Ns fit.1 N) (Memᴰ.cases_cons m)

-- ---- one length

-- a question that has passed passes again
asked_twice : (b2 b3 b4 b5 : Bool) (rest : List Question)
    → first_no ((2, b2) ∷ (3, b3) ∷ (4, b4) ∷ (17, true) ∷ (5, b5 && true) ∷ (2, b2) ∷ (3, b3) ∷ (4, b4) ∷ (5, b5) ∷ rest) ≡ first_no ((2, b2) ∷ (3, b3) ∷ (4, b4) ∷ (5, b5) ∷ rest)
unfolding first_no
asked_twice false b3 b4 b5 rest = refl
asked_twice true false b4 b5 rest = refl
asked_twice true true false b5 rest = refl
asked_twice true true true false rest = refl
asked_twice true true true true rest = refl

asked_as_searched : (o : Order) (N plain undetected work : ℕ) → first_no (set_questions o (N ∷ []) plain undetected work) ≡ first_no (search_questions (with_length N o) plain undetected work)
unfolding set_questions kind_questions length_questions from_to shortest falling all_below all search_questions questions order_questions shape_questions with_length
asked_as_searched o N plain undetected work = asked_twice _ _ _ _ _

pub one_length-call : (o : Order) (N : ℕ) (t : SearchTables) → set_call o (N ∷ []) t ≡ search_call (with_length N o) t
unfolding set_call search_call search_questions call with_length
one_length-call o N t =
    ap (λ (k : ℕ). unless_refused k t (set_row o (N ∷ []) t)) (asked_as_searched o N (length t.plain) (length t.undetected) (length t.work))
    ∙ ap (unless_refused (first_no (search_questions (with_length N o) (length t.plain) (length t.undetected) (length t.work))) t) (row_of_one o N [] t)

-- ---- any list

module _ (o : Order) (Ns : List ℕ) (t : SearchTables) where
  abbrev l : Order
  l = longest o Ns

  abbrev why : ℕ
  why = first_no (set_questions o Ns (length t.plain) (length t.undetected) (length t.work))

  abbrev best : Outcome
  best = chosen l l t (set_choice o Ns)

  -- what is told where no question refuses
  abbrev told : Row
  told = row (length (events l)) (length (paths l)) (set_choice o Ns).polynomial (set_choice o Ns).shared

  none_refuses : NoneRefusesSet o Ns t → NoRefusal why l (for_each Ns o) t
  none_refuses n = record { questions = n.questions; events_fit = n.events_fit; paths_fit = all_fit_of (length t.paths) o Ns n.paths_fit }

  accepts : NoneRefusesSet o Ns t → set_call o Ns t ≡ best
  unfolding set_call set_row
  accepts n = whole_accepts why l (for_each Ns o) t best (none_refuses n)

  either : NoneRefusesSet o Ns t ⊎ ((r : ℕ) × ((set_call o Ns t).0 ≡ refused r))
  unfolding set_call set_row
  either = ⊎_elim
      (λ n. inl (record { questions = n.questions; events_fit = n.events_fit; paths_fit = of_all_fit (length t.paths) o Ns n.paths_fit }))
      inr
      (whole_either why l (for_each Ns o) t best)

  is_accepted : NoneRefusesSet o Ns t → (set_call o Ns t).0 ≡ accepted told
  unfolding chosen
  is_accepted n = ap (λ (x : Outcome). x.0) (accepts n)

  accepts_told : (f : Row) → (set_call o Ns t).0 ≡ accepted f → NoneRefusesSet o Ns t
  accepts_told f same = ⊎_elim (λ n. n) (λ r. absurd (refused_not_accepted r.0 f (sym r.1 ∙ same))) either

  counts_left : NoneRefusesSet o Ns t → (set_call o Ns t).1.undetected ≡ padded (length t.undetected) 0 (undetected_counts l (set_choice o Ns).polynomial)
  unfolding chosen filled_search set_choice choice_among
  counts_left n = ap (λ (x : Outcome). x.1.undetected) (accepts n)

  accepted_shortest : NoneRefusesSet o Ns t → AcceptedWhole (with_length (shortest Ns) o)
  unfolding search_questions questions with_length
  accepted_shortest n =
      let q : Order = with_length (shortest Ns) o in
      accepted_whole q (none_in_parts _ _ (numbered_order everything q) (passed o Ns _ _ _ n.questions).search).0

  names_choice : NoneRefusesSet o Ns t → NamesBestOfSet o Ns t (set_call o Ns t).1 (set_choice o Ns).polynomial (set_choice o Ns).shared
  unfolding longest with_length
  names_choice n =
      let whole = accepted_shortest n in
      record {
        best = (set⇔best_of_set o Ns whole.degree.some_degree _ _).0 (refl, refl);
        undetected = counts_left n;
        divided = λ q c w some h. subst (CountsUndetected l q w) (sym (undetected_of_weight l q w some h)) (undetected_means_divided l q w c.0);
        first-weights = λ N m q c. first-weight (with_length N o) q c.0 whole.order.threshold.some_weight;
      }

  names_best : (f : Row) → (set_call o Ns t).0 ≡ accepted f → NamesBestOfSet o Ns t (set_call o Ns t).1 f.polynomial f.shared
  names_best f same =
      let n = accepts_told f same in
      let is : told ≡ f = accepted_same (sym (is_accepted n) ∙ same) in
      subst (λ (x : Row). NamesBestOfSet o Ns t (set_call o Ns t).1 x.polynomial x.shared) is (names_choice n)

pub set_promise : (o : Order) (Ns : List ℕ) (lent : SearchTables) → SetPromise o Ns lent (set_call o Ns lent).0 (set_call o Ns lent).1
set_promise o Ns t = record {
  names_best = names_best o Ns t;
  accepts_exactly = (λ h. accepts_told o Ns t h.0 h.1, λ n. (told o Ns t, is_accepted o Ns t n));
  one_length = λ N e. subst (λ (Ms : List ℕ). set_call o Ms t ≡ search_call (with_length N o) t) (sym e) (one_length-call o N t);
}

-- of what `search_set` answers and leaves: its contract is the premise
pub set_promises : (order : OrderRecord) (Ns : List ℕ) (lent left : SearchTables) (r : Result Row Refusal) → (answered_as r, left) ≡ set_call (order_in order) Ns lent
    → SetPromise (order_in order) Ns lent (answered_as r) left
set_promises order Ns lent left r e = subst (λ (x : Outcome). SetPromise (order_in order) Ns lent x.0 x.1) (sym e) (set_promise (order_in order) Ns lent)
