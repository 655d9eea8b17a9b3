-- What quoting promises (crates/quote/specs/Promise.antt says it): the row or the refusal is the one that a fresh run for N' gives (`quote_is_fresh`), so
-- demand 3 holds of N'. `quote_promise` is about the definition of the call, `quote_promises` about the function's own answer.
-- Assumes nothing.
use Prim.Native.Nat.{ℕ, zero, suc, ◌≤◌}
use native.Mathlib.Omega.{arith}
use mathlib.Core.Path.{◌≡◌, refl, sym, ap, ◌∙◌, subst}
use mathlib.Core.Logic.{◌↔◌, inl, inr}
use mathlib.Core.List.{[], ◌∷◌}
use Rattle.std.specs.Prelude.{Result}
use lib.ListN.{length}
use Rattle.lists.proofs.Tests.{lt_or_ge}
use Rattle.lists.proofs.Lengths.{length-filter_le}
use Rattle.order.specs.Questions.{first_no}
use Rattle.order.specs.Order.{Order, with_length}
use Rattle.order.specs.Answer.{Answer, accepted, refused, unless_refused}
use Rattle.order.specs.Answers.{order_in}
use Rattle.order.specs.declared.record.OrderRecord.{OrderRecord}
use Rattle.order.specs.declared.refusal.Refusal.{Refusal}
use Rattle.order.proofs.FirstNo.{leaves_refused, leaves_answered, refused_not_accepted}
use Rattle.code.specs.Links.{steps_of}
use Rattle.events.specs.Events.{events}
use Rattle.events.proofs.Shorter.{at_most, events_shorter}
use Rattle.paths.specs.Paths.{paths, path_room}
use Rattle.jobs.proofs.Fits.{too_many_events, too_many_paths, all_fit}
use Rattle.choice.specs.Choice.{Choice, choice}
use Rattle.row.specs.declared.Row.{Row}
use Rattle.row.specs.Answered.{answered_as}
use Rattle.lengths.specs.Model.Noted.{AllFit, OneTooMany}
use Rattle.jobs.specs.declared.Job.TheVariants as J
use Rattle.jobs.specs.Jobs.{SearchTables, cleared_search, filled_search, chosen, rows_of, made, ran}
use Rattle.calls.specs.Calls.{call}
use Rattle.search.specs.Calls.{search_questions, search_call}
use Rattle.search.specs.Promise.{NoneRefuses, NamesBest}
use Rattle.search.proofs.Demand.{demand_3}
use Rattle.quote.specs.Calls.{quote_questions, quote_call}
use Rattle.quote.specs.Promise.{MayQuote, SameRow, QuotePromise}
use Rattle.quote.proofs.Quoted.{asks_as_fresh, Lengths, lengths}

abbrev Outcome : Type 0
Outcome = Answer Row × SearchTables

same_row : (x : Outcome) → SameRow x x
same_row x = record { answer = refl; paths = refl; plain = refl; undetected = refl; work = refl }

-- refused by the same question, or answered alike
same_unless : (k : ℕ) (t : SearchTables) (x y : Outcome) → SameRow x y → SameRow (unless_refused k t x) (unless_refused k t y)
unfolding unless_refused
same_unless zero t x y s = s
same_unless (suc k) t x y s = same_row (refused (suc k), t)

module _ (o : Order) (N' : ℕ) (t : SearchTables) where
  abbrev q : Order
  q = with_length N' o

  -- the numbers of the first questions before 13 that say no
  abbrev why : ℕ
  why = first_no (quote_questions o N' (length t.plain) (length t.undetected) (length t.work))

  abbrev fresh_why : ℕ
  fresh_why = first_no (search_questions q (length t.plain) (length t.undetected) (length t.work))

  abbrev ne : ℕ
  ne = length t.events

  abbrev np : ℕ
  np = length t.paths

  -- the choice is about N', whatever the events were collected for
  same_chosen : (c : Choice) → SameRow (chosen o q t c) (chosen q q t c)
  unfolding chosen filled_search
  same_chosen c = record { answer = refl; paths = refl; plain = refl; undetected = refl; work = refl }

  module _ (may : MayQuote o N' t) where
    fewer : length (events q) ≤ ne
    fewer =
        let short = ap length (events_shorter o N' may.no_longer) in
        let le = length-filter_le (at_most (steps_of q)) (events o) in
        let fit = may.events_fit in
        omega arith

    same_searched : SameRow (ran J.Choose [] o q t) (ran J.Choose [] q q t)
    unfolding ran rows_of made OneTooMany AllFit
    same_searched = elim (lt_or_ge (path_room np) (length (paths q))) [
      | inl more ↦
          subst (λ (x : Outcome). SameRow x (ran J.Choose [] q q t)) (too_many_paths o (q ∷ []) ne np (cleared_search t) (chosen o q t (choice q)) may.events_fit (inl more))
          (subst (SameRow (refused 14, cleared_search t)) (too_many_paths q (q ∷ []) ne np (cleared_search t) (chosen q q t (choice q)) fewer (inl more))
          (same_row (refused 14, cleared_search t)))
      | inr fits ↦
          subst (λ (x : Outcome). SameRow x (ran J.Choose [] q q t)) (all_fit o (q ∷ []) ne np (cleared_search t) (chosen o q t (choice q)) may.events_fit (fits, tt))
          (subst (SameRow (chosen o q t (choice q))) (all_fit q (q ∷ []) ne np (cleared_search t) (chosen q q t (choice q)) fewer (fits, tt))
          (same_chosen (choice q)))
    ]

    pub quote_is_fresh : SameRow (quote_call o N' t) (search_call q t)
    unfolding quote_call search_call quote_questions search_questions call ran with_length
    quote_is_fresh =
        let same : why ≡ fresh_why = asks_as_fresh o N' may.tail_biting may.no_longer may.at_most_128 _ _ _ in
        subst (λ (k : ℕ). SameRow (unless_refused why t (ran J.Choose [] o q t)) (unless_refused k t (ran J.Choose [] q q t))) same
        (same_unless why t (ran J.Choose [] o q t) (ran J.Choose [] q q t) same_searched)

  -- ---- what is answered otherwise than by a refusal may be quoted

  abbrev NotRefused : Type 0
  NotRefused = (r : ℕ) → (quote_call o N' t).0 ≡ refused r → ⊥

  none_early : NotRefused → why ≡ 0
  unfolding quote_call quote_questions call ran
  none_early n = by why refl
    where
      by : (k : ℕ) → why ≡ k → why ≡ 0
      by zero e = e
      by (suc k) e = absurd (n why (ap (λ (x : Outcome). x.0) (sym (leaves_refused t (ran J.Choose [] o q t) why why refl (λ z. absurd (omega (arith, e, z)))))))

  as_searched : why ≡ 0 → quote_call o N' t ≡ ran J.Choose [] o q t
  unfolding quote_call quote_questions call ran
  as_searched e = sym (leaves_answered t (ran J.Choose [] o q t) why (sym e))

  may_quote : NotRefused → MayQuote o N' t
  unfolding ran rows_of made
  may_quote n =
      let e = none_early n in
      let is : Lengths o N' = lengths o N' _ _ _ e in
      record {
        tail_biting = is.tail_biting;
        no_longer = is.no_longer;
        at_most_128 = is.at_most_128;
        events_fit = elim (lt_or_ge ne (length (events o))) [
          | inl more ↦ absurd (n 13 (ap (λ (x : Outcome). x.0) (as_searched e ∙ sym (too_many_events o (q ∷ []) ne np (cleared_search t) (chosen o q t (choice q)) more))))
          | inr fits ↦ fits
        ];
      }

  may_accepted : (f : Row) → (quote_call o N' t).0 ≡ accepted f → MayQuote o N' t
  may_accepted f e = may_quote (λ r h. refused_not_accepted r f (sym h ∙ e))

  is_best : (f : Row) → (quote_call o N' t).0 ≡ accepted f → NamesBest q t (quote_call o N' t).1 f.polynomial f.shared
  is_best f e =
      let same = quote_is_fresh (may_accepted f e) in
      let fresh = (demand_3 q t).names_best f (sym same.answer ∙ e) in
      record {
        best = fresh.best;
        undetected = same.undetected ∙ fresh.undetected;
        divided = fresh.divided;
        none_of_weight_0 = fresh.none_of_weight_0;
      }

  is_accepted : ((f : Row) × ((quote_call o N' t).0 ≡ accepted f)) ↔ (MayQuote o N' t × NoneRefuses q t)
  is_accepted = (
    λ h. let may = may_accepted h.0 h.1 in (may, (demand_3 q t).accepts_exactly.0 (h.0, sym (quote_is_fresh may).answer ∙ h.1)),
    λ h. let f = (demand_3 q t).accepts_exactly.1 h.1 in (f.0, (quote_is_fresh h.0).answer ∙ f.1),
  )

pub quote_promise : (o : Order) (N' : ℕ) (lent : SearchTables) → QuotePromise o N' lent (quote_call o N' lent).0 (quote_call o N' lent).1
quote_promise o N' lent = record {
  is_fresh = quote_is_fresh o N' lent;
  names_best = is_best o N' lent;
  accepts_exactly = is_accepted o N' lent;
}

-- of what `quote` answers and leaves: its contract is the premise
pub quote_promises : (order : OrderRecord) (N' : ℕ) (lent left : SearchTables) (r : Result Row Refusal) → (answered_as r, left) ≡ quote_call (order_in order) N' lent
    → QuotePromise (order_in order) N' lent (answered_as r) left
quote_promises order N' lent left r e =
    subst (λ (x : Outcome). QuotePromise (order_in order) N' lent x.0 x.1) (sym e) (quote_promise (order_in order) N' lent)
