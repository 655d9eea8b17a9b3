-- Each case as the definition has it.
use Rattle.std.proofs.Common.{◌≡◌, ◌≢◌, List, [], ℕ, refl}
use Rattle.jobs.specs.declared.Job.{Job}
use Rattle.jobs.specs.declared.Job.TheVariants as J
use Rattle.jobs.specs.Model.Steps.{listed_before}
use Rattle.jobs.proofs.listed_before.Goals as goal

none_before : (job : Job) (Ns : List ℕ) → job ≢ J.ChooseFor → [] ≡ listed_before job Ns
unfolding listed_before
none_before J.Collect Ns z = refl
none_before J.List Ns z = refl
none_before J.Choose Ns z = refl
none_before J.ChooseFor Ns z = absurd (z refl)
none_before (J.Count p) Ns z = refl

pub returns-in-ChooseFor : goal.returns-in-ChooseFor
unfolding listed_before
returns-in-ChooseFor c = rw c.in-ChooseFor.is refl

pub returns-in_default : goal.returns-in_default
returns-in_default c = none_before _ _ c.in_default.not-ChooseFor
