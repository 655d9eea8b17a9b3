-- By the job.
use mathlib.Core.Path.{refl, sym, ◌∙◌}
use mathlib.Core.List.{[], ◌∷◌}
use Rattle.std.proofs.lemmas.Result.{err_from_is_err_and}
use Rattle.order.specs.Questions.{room, work_size}
use Rattle.order.proofs.FirstNo.{first_no_none, first_no_yes, first_no_no, refused_first, refused_later}
use Rattle.order.proofs.Refusals.{some_number}
use Rattle.calls.specs.Calls.{job_questions}
use Rattle.calls.proofs.ask_job.Goals as goal

pub returns-in-Collect : goal.returns-in-Collect
unfolding job_questions work_size
returns-in-Collect c = rw c.in-Collect.is c.ask_room.ensures

pub returns-in_err-ask_room-in-List : goal.returns-in_err-ask_room-in-List
unfolding job_questions
returns-in_err-ask_room-in-List c =
    let p = err_from_is_err_and c.from_residual.result c.from_residual.ensures.1 in
    rw (c.in-List.is, p.1, p.2) (refused_first (room c.args.entries c.args.plain ∷ []) _ _ tt c.in_err-ask_room-in-List.ensures (some_number _))

pub returns-in_ok-ask_room-in-List : goal.returns-in_ok-ask_room-in-List
unfolding job_questions work_size
returns-in_ok-ask_room-in-List c =
    rw c.in-List.is (refused_later (room c.args.entries c.args.plain ∷ []) _ 0 _ tt c.in_ok-ask_room-in-List.ensures refl c.ask_room-in-List-2.ensures)

pub returns-in-Choose : goal.returns-in-Choose
unfolding job_questions
returns-in-Choose c = rw c.in-Choose.is c.ask_both.ensures

pub returns-in-ChooseFor : goal.returns-in-ChooseFor
unfolding job_questions
returns-in-ChooseFor c = rw c.in-ChooseFor.is c.ask_both-in-ChooseFor.ensures

pub returns-in_err-ask_both-in-Count : goal.returns-in_err-ask_both-in-Count
unfolding job_questions
returns-in_err-ask_both-in-Count c =
    let a = c.args in
    let p = err_from_is_err_and c.from_residual-in_err-ask_both-in-Count.result c.from_residual-in_err-ask_both-in-Count.ensures.1 in
    rw (c.in-Count.is, p.1, p.2)
    (refused_first (room a.entries a.plain ∷ room a.entries a.undetected ∷ room work_size a.size ∷ []) _ _ tt c.in_err-ask_both-in-Count.ensures (some_number _))

pub returns-then-not-is_check_polynomial : goal.returns-then-not-is_check_polynomial
unfolding job_questions
returns-then-not-is_check_polynomial c =
    let a = c.args in
    rw c.in-Count.is (refused_later (room a.entries a.plain ∷ room a.entries a.undetected ∷ room work_size a.size ∷ []) _ 0 _ tt c.in_ok-ask_both-in-Count.ensures refl
    (sym (first_no_no _ _ (sym c.is_check_polynomial.ensures ∙ c.if-not-is_check_polynomial.true))))

pub returns-else-not-is_check_polynomial : goal.returns-else-not-is_check_polynomial
unfolding job_questions
returns-else-not-is_check_polynomial c =
    let a = c.args in
    rw c.in-Count.is (refused_later (room a.entries a.plain ∷ room a.entries a.undetected ∷ room work_size a.size ∷ []) _ 0 _ tt c.in_ok-ask_both-in-Count.ensures refl
    (sym (first_no_yes _ _ (sym c.is_check_polynomial.ensures ∙ c.if-not-is_check_polynomial.false) ∙ first_no_none)))
