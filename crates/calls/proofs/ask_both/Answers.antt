-- The first of three rooms that is too small, or none.
use mathlib.Core.Path.{refl}
use mathlib.Core.List.{[], ◌∷◌}
use Rattle.std.proofs.lemmas.Result.{err_from_is_err_and}
use Rattle.order.specs.Questions.{room, work_size}
use Rattle.order.proofs.FirstNo.{refused_first, refused_later}
use Rattle.order.proofs.Refusals.{some_number}
use Rattle.calls.proofs.ask_both.Goals as goal

pub returns-in_err-ask_room : goal.returns-in_err-ask_room
returns-in_err-ask_room c =
    let p = err_from_is_err_and c.from_residual.result c.from_residual.ensures.1 in
    rw (p.1, p.2) (refused_first (room c.args.entries c.args.plain ∷ []) _ _ tt c.in_err-ask_room.ensures (some_number _))

pub returns-in_err-ask_room-2 : goal.returns-in_err-ask_room-2
returns-in_err-ask_room-2 c =
    let p = err_from_is_err_and c.from_residual-in_err-ask_room-2.result c.from_residual-in_err-ask_room-2.ensures.1 in
    rw (p.1, p.2) (refused_later (room c.args.entries c.args.plain ∷ []) _ 0 _ tt c.in_ok-ask_room.ensures refl
    (refused_first (room c.args.entries c.args.undetected ∷ []) _ _ tt c.in_err-ask_room-2.ensures (some_number _)))

pub returns : goal.returns
unfolding work_size
returns c =
    refused_later (room c.args.entries c.args.plain ∷ []) _ 0 _ tt c.in_ok-ask_room.ensures refl
    (refused_later (room c.args.entries c.args.undetected ∷ []) _ 0 _ tt c.in_ok-ask_room-2.ensures refl c.ask_room-3.ensures)
