-- A call whose questions refuse with `why`, or with 0 not at all, and which lists the paths of some orders: it gives its outcome exactly where nothing refuses.
-- Assumes nothing.
use Prim.Native.Nat.{ℕ, zero, suc, ◌≤◌}
use native.Mathlib.Omega.{arith}
use mathlib.Core.Path.{◌≡◌, refl, sym, ap, ◌∙◌}
use mathlib.Core.Logic.{◌⊎◌, inl, inr, ⊎_elim}
use mathlib.Core.List.{List}
use lib.ListN.{length}
use Rattle.lists.proofs.Tests.{lt_or_ge}
use Rattle.order.specs.Questions.{first_no}
use Rattle.order.specs.Order.{Order}
use Rattle.order.specs.Answer.{Answer, refused, unless_refused}
use Rattle.order.specs.Answers.{order_in}
use Rattle.order.proofs.FirstNo.{leaves_refused, leaves_answered}
use Rattle.events.specs.Events.{events}
use Rattle.row.specs.declared.Row.{Row}
use Rattle.lengths.specs.Model.Noted.{AllFit}
use Rattle.jobs.specs.declared.Plan.{Plan}
use Rattle.jobs.specs.Jobs.{SearchTables, cleared_search, unless_too_many, ran}
use Rattle.jobs.specs.Model.Steps.{row_order}
use Rattle.calls.specs.Calls.{questions, call as called}
use Rattle.calls.specs.Model.Plans.{call_in}
use Rattle.jobs.proofs.Fits.{fit_or_not, too_many_events, too_many_paths, all_fit}

abbrev pub Outcome : Type 0
Outcome = Answer Row × SearchTables

pub record NoRefusal (why : ℕ) (longer : Order) (rows : List Order) (lent : SearchTables) : Type 0 where
  pub questions : why ≡ 0
  pub events_fit : length (events longer) ≤ length lent.events
  pub paths_fit : AllFit (length lent.paths) rows

module _ (why : ℕ) (longer : Order) (rows : List Order) (t : SearchTables) (x : Outcome) where
  abbrev fitting : Outcome
  fitting = unless_too_many longer rows (length t.events) (length t.paths) (cleared_search t) x

  abbrev whole : Outcome
  whole = unless_refused why t fitting

  pub whole_accepts : NoRefusal why longer rows t → whole ≡ x
  whole_accepts n =
      sym (leaves_answered t fitting why (sym n.questions))
      ∙ sym (all_fit longer rows (length t.events) (length t.paths) (cleared_search t) x n.events_fit n.paths_fit)

  -- some question says no
  abbrev Refuses : Type 0
  Refuses = (r : ℕ) × (whole.0 ≡ refused r)

  refuses_late : why ≡ 0 → (r : ℕ) → ◌≡◌ {A = Outcome} (refused r, cleared_search t) fitting → Refuses
  refuses_late e r h = (r, ap (λ (y : Outcome). y.0) (sym (leaves_answered t fitting why (sym e)) ∙ sym h))

  pub whole_either : NoRefusal why longer rows t ⊎ Refuses
  whole_either = by why refl
    where
      then_fits : why ≡ 0 → NoRefusal why longer rows t ⊎ Refuses
      then_fits e = elim (lt_or_ge (length t.events) (length (events longer))) [
        | inl more ↦ inr (refuses_late e 13 (too_many_events longer rows (length t.events) (length t.paths) (cleared_search t) x more))
        | inr fits ↦ ⊎_elim
            (λ room. inl (record { questions = e; events_fit = fits; paths_fit = room }))
            (λ more. inr (refuses_late e 14 (too_many_paths longer rows (length t.events) (length t.paths) (cleared_search t) x fits more)))
            (fit_or_not (length t.paths) rows)
      ]

      by : (k : ℕ) → why ≡ k → NoRefusal why longer rows t ⊎ Refuses
      by zero e = then_fits e
      by (suc k) e = inr (why, ap (λ (y : Outcome). y.0) (sym (leaves_refused t fitting why why refl (λ z. absurd (omega (arith, e, z))))))

-- a plan that is run with the number that its questions give is its call
pub as_called : (plan : Plan) (t : SearchTables) (why : ℕ) → why ≡ first_no (questions (call_in plan) (length t.plain) (length t.undetected) (length t.work)) → (x : Answer Row × SearchTables)
    → x ≡ unless_refused why t (ran plan.job plan.shorter.now (order_in plan.order) (row_order plan) t) → x ≡ called (call_in plan) t
unfolding called row_order
as_called plan t why asked x told = told ∙ ap (λ (k : ℕ). unless_refused k t (ran plan.job plan.shorter.now (order_in plan.order) (row_order plan) t)) asked
