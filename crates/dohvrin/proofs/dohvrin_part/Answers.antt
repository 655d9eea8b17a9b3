-- The part as the library finds it, by its place.
use mathlib.Core.Path.{refl, sym, ◌∙◌}
use native.Mathlib.Omega.{arith}
use Rattle.order.proofs.Refusals.{some_number}
use Rattle.paths.proofs.Parts.{sum_told}
use Rattle.dohvrin.proofs.Placed.{no_part, part_bounds, some_before, a_part}
use Rattle.dohvrin.proofs.dohvrin_part.Goals as goal

pub overflow_sub-w : goal.overflow_sub-w
overflow_sub-w c = (part_bounds _ _ _ c.in-Ok.ensures.number).0

pub paths_to-requires : goal.paths_to-requires
paths_to-requires c = let h = (part_bounds _ _ _ c.in-Ok.ensures.number).1 in (omega arith, omega arith)

pub unwrap-before-requires : goal.unwrap-before-requires
unwrap-before-requires c = rw (c.paths_to.ensures, some_before _ _ _ c.in-Ok.ensures.number) refl

pub overflow_mul-result : goal.overflow_mul-result
overflow_mul-result c =
    let told = sum_told _ _ _ _ (sym c.unwrap-before.ensures ∙ c.paths_to.ensures) in
    record { fits = omega (arith, told.1) }

pub returns-in-Ok : goal.returns-in-Ok
returns-in-Ok c = a_part _ _ _ c.in-Ok.ensures.number _ _ c.in-Ok.ensures.words (sym c.unwrap-before.ensures ∙ c.paths_to.ensures)

pub returns-in-Err : goal.returns-in-Err
returns-in-Err c = no_part _ _ _ _ (c.from.ensures ∙ c.in-Err.ensures.number) (λ z. some_number _ (sym c.from.ensures ∙ z))
