-- Refused by the shape, by the numbers or by the generators, or by none.
use native.Mathlib.Omega.{arith}
use mathlib.Core.Path.{refl}
use Rattle.std.proofs.lemmas.Result.{err_from_is_err_and}
use Rattle.order.proofs.Asked.{refused_by_shape, shape_of, refused_by_numbers, all_asked}
use Rattle.order.proofs.Refusals.{some_number}
use Rattle.order.proofs.record.ask_order.Goals as goal

pub returns-in_err-ask_shape : goal.returns-in_err-ask_shape
returns-in_err-ask_shape c =
    let p = err_from_is_err_and c.from_residual.result c.from_residual.ensures.1 in
    rw (p.1, p.2) (refused_by_shape _ _ _ c.in_err-ask_shape.ensures (some_number _))

pub returns-in_err-ask_numbers : goal.returns-in_err-ask_numbers
returns-in_err-ask_numbers c =
    let p = err_from_is_err_and c.from_residual-in_err-ask_numbers.result c.from_residual-in_err-ask_numbers.ensures.1 in
    rw (p.1, p.2) (refused_by_numbers _ _ 0 c.in_ok-ask_shape.ensures refl _ c.in_err-ask_numbers.ensures (some_number _))

pub ask_four-requires : goal.ask_four-requires
ask_four-requires c =
    let shape = shape_of c.args.takes c.args.o 0 c.in_ok-ask_shape.ensures refl in
    (omega arith, shape.few_generators)

pub returns : goal.returns
returns c = all_asked _ _ 0 c.in_ok-ask_shape.ensures refl 0 c.in_ok-ask_numbers.ensures refl _ c.ask_four.ensures.1 c.ask_four.ensures.0
