use Prim.Native.Nat.{◌+◌, ◌*◌, ◌≤◌}
use native.Mathlib.Omega.{arith}
use mathlib.Core.Path.{refl, sym, ap}
use mathlib.Core.List.{◌∷◌, flat_map}
use lib.ListN.{length, get_or, length-set}
use lib.Seq.{take_all}
use Rattle.lines.specs.Lines.{numeral}
use Rattle.lines.specs.Model.Steps.{spaced}
use Rattle.lines.proofs.Puts.{put_none, put_byte, put_as, put_most, joined, put_same_length}
use Rattle.lines.proofs.Pieces.{list_more}
use Rattle.lines.proofs.Sizes.{number_short}
use Rattle.lines.proofs.numbers.put_numbers.Goals as goal

pub loop-number-init : goal.loop-number-init
unfolding spaced flat_map
loop-number-init c = put_none c.args.buffer.now c.args.at

pub bounds-buffer-end : goal.bounds-buffer-end
bounds-buffer-end c = omega (arith, put_same_length c.loop-number.invariant)

pub overflow_add-end : goal.overflow_add-end
overflow_add-end c = omega (arith, put_same_length c.loop-number.invariant)

pub put_digits-end-requires : goal.put_digits-end-requires
put_digits-end-requires c =
    let l = c.loop-number in
    let short : length (numeral c.args.base (get_or c.args.numbers.now l.number-index 0)) ≤ 22 = number_short _ _ (omega arith) (c.type_inv.numbers l.number-index).fits in
    record {
      not_below = omega arith;
      at_most_16 = omega arith;
      room = omega (arith, length-set l.buffer l.end 32, put_same_length l.invariant);
    }

pub loop-number-preserved : goal.loop-number-preserved
unfolding spaced
loop-number-preserved c =
    let a = c.args in
    let l = c.loop-number in
    let short : length (numeral a.base (get_or a.numbers.now l.number-index 0)) ≤ 22 = number_short _ _ (omega arith) (c.type_inv.numbers l.number-index).fits in
    let more = joined l.invariant (joined (put_byte l.buffer l.end 32 refl) c.put_digits-end.ensures) in
    let within = put_most (23 * (l.number-index + 1)) more (omega (arith, more.short)) in
    put_as (sym (list_more (λ x. 32 ∷ numeral a.base x) a.numbers.now l.number-index (omega arith))) within

pub returns : goal.returns
returns c =
    let a = c.args in
    let l = c.loop-number in
    let all = put_as (ap (spaced a.base) (take_all l.number-index a.numbers.now (omega arith))) l.invariant in
    put_most (23 * length a.numbers.now) all (omega (arith, all.short))
