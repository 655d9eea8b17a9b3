-- What the search promises, for whatever order comes and whatever tables are lent (`demand_3`; crates/search/specs/Promise.antt says it). If it names p with a
-- number, then p has the order's degree and constant term 1, whoever has other counts has more at the lowest weight where they differ, nobody with the same
-- counts has a smaller number, and exactly so many have them; the undetected list is p's counts below the threshold; and of every candidate each count is the
-- number of the words of its weight that it divides, with none of weight 0. It accepts exactly when no question refuses. `search_promises` says it of the function's own answer.
-- Assumes nothing.
use Prim.Native.Nat.{ℕ}
use mathlib.Core.Path.{◌≡◌, sym, ap, ◌∙◌, subst}
use mathlib.Core.Logic.{◌↔◌, ◌⊎◌, inl, inr, ⊎_elim}
use mathlib.Core.List.{[], ◌∷◌}
use Rattle.std.specs.Prelude.{Result}
use lib.ListN.{length}
use Rattle.lists.specs.Lists.{padded}
use Rattle.order.specs.Questions.{first_no}
use Rattle.order.specs.Order.{Order, with_length, everything}
use Rattle.order.specs.Answer.{Answer, accepted, refused}
use Rattle.order.specs.Answers.{order_in}
use Rattle.order.specs.Model.Accepted.{AcceptedCode, AcceptedWhole}
use Rattle.order.specs.declared.record.OrderRecord.{OrderRecord}
use Rattle.order.specs.declared.refusal.Refusal.{Refusal}
use Rattle.order.proofs.FirstNo.{none_in_parts, refused_not_accepted}
use Rattle.order.proofs.Asked.{numbered_order, accepted_whole}
use Rattle.events.specs.Events.{events}
use Rattle.paths.specs.Paths.{paths}
use Rattle.lengths.specs.Model.Noted.{AllFit}
use Rattle.undetected.specs.Undetected.{undetected_counts, CountsUndetected}
use Rattle.undetected.proofs.Undetected.{undetected_means_divided, undetected_of_weight}
use Rattle.choice.specs.Choice.{choice}
use Rattle.choice.proofs.ByWeight.{none_undetected}
use Rattle.choice.proofs.Chosen.{choice-first-best, choice_counts}
use Rattle.row.specs.declared.Row.{Row}
use Rattle.row.specs.Answered.{row, answered_as}
use Rattle.jobs.specs.Jobs.{SearchTables, filled_search, chosen, rows_of, made, ran}
use Rattle.calls.specs.Calls.{questions, call}
use Rattle.calls.proofs.Outcomes.{Outcome, whole_accepts, whole_either}
use Rattle.search.specs.Calls.{search_questions, search_call}
use Rattle.search.specs.Promise.{NoneRefuses, NamesBest, Promise}

pub accepted_same : {f g : Row} → ◌≡◌ {A = Answer Row} (accepted f) (accepted g) → f ≡ g
accepted_same e = cc

module _ (o : Order) (t : SearchTables) where
  -- the number of the first question before 13 that says no
  abbrev why : ℕ
  why = first_no (search_questions o (length t.plain) (length t.undetected) (length t.work))

  abbrev best : Outcome
  best = chosen o o t (choice o)

  -- ---- refused, or chosen

  accepts : NoneRefuses o t → search_call o t ≡ best
  unfolding search_call search_questions call ran rows_of made AllFit with_length
  accepts n = whole_accepts why o (o ∷ []) t best (record { questions = n.questions; events_fit = n.events_fit; paths_fit = (n.paths_fit, tt) })

  either : NoneRefuses o t ⊎ ((r : ℕ) × ((search_call o t).0 ≡ refused r))
  unfolding search_call search_questions call ran rows_of made AllFit with_length
  either = ⊎_elim (λ n. inl (record { questions = n.questions; events_fit = n.events_fit; paths_fit = n.paths_fit.0 })) inr (whole_either why o (o ∷ []) t best)

  -- ---- accepted

  whole : NoneRefuses o t → AcceptedWhole o
  unfolding search_questions questions with_length
  whole n = accepted_whole o (none_in_parts _ _ (numbered_order everything o) n.questions).0

  code : NoneRefuses o t → AcceptedCode o
  code n = (whole n).order.code

  -- what is told where no question refuses
  abbrev told : Row
  told = row (length (events o)) (length (paths o)) (choice o).polynomial (choice o).shared

  is_accepted : NoneRefuses o t → (search_call o t).0 ≡ accepted told
  unfolding chosen
  is_accepted n = ap (λ (x : Outcome). x.0) (accepts n)

  accepts_told : (f : Row) → (search_call o t).0 ≡ accepted f → NoneRefuses o t
  accepts_told f same = ⊎_elim (λ n. n) (λ r. absurd (refused_not_accepted r.0 f (sym r.1 ∙ same))) either

  accepts_exactly : ((f : Row) × ((search_call o t).0 ≡ accepted f)) ↔ NoneRefuses o t
  accepts_exactly = (λ h. accepts_told h.0 h.1, λ n. (told, is_accepted n))

  counts_left : NoneRefuses o t → (search_call o t).1.undetected ≡ padded (length t.undetected) 0 (undetected_counts o (choice o).polynomial)
  unfolding chosen filled_search
  counts_left n = ap (λ (x : Outcome). x.1.undetected) (accepts n) ∙ ap (padded (length t.undetected) 0) (choice_counts o)

  names_choice : NoneRefuses o t → NamesBest o t (search_call o t).1 (choice o).polynomial (choice o).shared
  names_choice n =
      record {
        best = choice-first-best o (whole n).degree.some_degree;
        undetected = counts_left n;
        divided = λ q c w some h. subst (CountsUndetected o q w) (sym (undetected_of_weight o q w some h)) (undetected_means_divided o q w c.0);
        none_of_weight_0 = λ q c. subst (CountsUndetected o q 0) (none_undetected o (code n) q) (undetected_means_divided o q 0 c.0);
      }

  names_best : (f : Row) → (search_call o t).0 ≡ accepted f → NamesBest o t (search_call o t).1 f.polynomial f.shared
  names_best f same =
      let n = accepts_told f same in
      let is : told ≡ f = accepted_same (sym (is_accepted n) ∙ same) in
      subst (λ (x : Row). NamesBest o t (search_call o t).1 x.polynomial x.shared) is (names_choice n)

pub demand_3 : (o : Order) (lent : SearchTables) → Promise o lent (search_call o lent).0 (search_call o lent).1
demand_3 o t = record { names_best = names_best o t; accepts_exactly = accepts_exactly o t }

-- of what `search` answers and leaves: its contract is the premise
pub search_promises : (order : OrderRecord) (lent left : SearchTables) (r : Result Row Refusal) → (answered_as r, left) ≡ search_call (order_in order) lent → Promise (order_in order) lent (answered_as r) left
search_promises order lent left r e = subst (λ (x : Answer Row × SearchTables). Promise (order_in order) lent x.0 x.1) (sym e) (demand_3 (order_in order) lent)
