-- 6, then 7.
use Prim.Native.Nat.{ℕ}
use mathlib.Core.Path.{◌≡◌, refl, ap, ◌∙◌}
use mathlib.Core.Bool.{Bool}
use Rattle.std.proofs.lemmas.Result.{err_from_is_err_and}
use Rattle.order.specs.Questions.{first_no}
use Rattle.order.specs.Order.{if_taken, number_questions}
use Rattle.order.specs.Answers.{order_in}
use Rattle.order.proofs.FirstNo.{refused_first, refused_later}
use Rattle.order.proofs.Refusals.{some_number}
use Rattle.order.proofs.Asked.{numbered_taken}
use Rattle.order.proofs.record.ask_numbers.Goals as goal

-- the answer is the question's
answered : (b : Bool) (k : ℕ) {x y : Bool} {r : ℕ} → r ≡ first_no (if_taken b (k, x)) → x ≡ y → r ≡ first_no (if_taken b (k, y))
answered b k e same = e ∙ ap (λ (z : Bool). first_no (if_taken b (k, z))) same

pub returns-in_err-ask_if : goal.returns-in_err-ask_if
unfolding number_questions order_in
returns-in_err-ask_if c =
    let p = err_from_is_err_and c.from_residual.result c.from_residual.ensures.1 in
    rw (p.1, p.2) (refused_first _ _ _ (numbered_taken _ (6, _) tt) (answered _ 6 c.in_err-ask_if.ensures c.degree_fits.ensures) (some_number _))

pub returns : goal.returns
unfolding number_questions order_in
returns c =
    refused_later _ _ 0 _ (numbered_taken _ (6, _) tt) (answered _ 6 c.in_ok-ask_if.ensures c.degree_fits.ensures) refl
    (answered _ 7 c.ask_if-2.ensures c.from_to.ensures)
