-- A plan that tells a call for an order's own length: what is seen of it, and that it is sound.
-- Assumes nothing.
use Prim.Native.Nat.{◌≤◌}
use native.Mathlib.Nat.{le_refl, le_trans}
use mathlib.Core.Path.{◌≡◌, sym, ◌∙◌, ap, subst}
use mathlib.Core.Bool.{true}
use Rattle.order.specs.Questions.{highest_version, longest_word}
use Rattle.order.specs.Order.{Order}
use Rattle.order.specs.Answer.{Answer}
use Rattle.order.specs.declared.questions.Takes.{Takes}
use Rattle.row.specs.declared.Row.{Row}
use Rattle.jobs.specs.Jobs.{SearchTables}
use Rattle.jobs.specs.declared.Job.{Job}
use Rattle.jobs.specs.declared.Plan.{Plan}
use Rattle.calls.specs.Calls.{Call, of_own_length, call}
use Rattle.calls.specs.Model.Plans.{call_in, DegreeFor, Sound}

module _ (takes : Takes) (job : Job) (o : Order) (plan : Plan) (is : call_in plan ≡ of_own_length takes job o) where
  -- what is seen of the call that the plan tells is what is seen of one for the order's own length
  pub own_told : {X : Type 0} (see : Answer Row × SearchTables → X) (t : SearchTables) {x : Answer Row × SearchTables} → x ≡ call (call_in plan) t → see x ≡ see (call (of_own_length takes job o) t)
  own_told see t told = ap see (told ∙ ap (λ (c : Call). call c t) is)

  pub own_sound : takes.versions ≤ highest_version → takes.longest ≤ longest_word → takes.threshold ≡ true → DegreeFor job takes.degree → Sound (call_in plan)
  own_sound known most threshold degree = subst Sound (sym is) (record {
    known_versions = known;
    at_most_longest = most;
    no_longer = λ some fits. (le_refl o.N, le_trans fits most);
    threshold = threshold;
    degree = degree;
  })
