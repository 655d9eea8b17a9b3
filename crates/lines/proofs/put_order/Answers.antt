-- The word, the numbers, the generators, the line's end.
use native.Mathlib.Omega.{arith}
use mathlib.Core.Path.{◌≡◌, refl, sym}
use lib.ListN.{length, take}
use lib.Seq.{length-take-le}
use Rattle.lines.specs.Lines.{wORDER}
use Rattle.lines.proofs.Puts.{put_byte, put_as, put_most, joined}
use Rattle.lines.proofs.Pieces.{order-line}
use Rattle.lines.proofs.put_order.Goals as goal

pub put_numbers-after_numbers-requires : goal.put_numbers-after_numbers-requires
put_numbers-after_numbers-requires c = record { not_below = omega arith; at_most_16 = omega arith; room = omega arith }

pub slice_bounds-put_numbers-end-2 : goal.slice_bounds-put_numbers-end-2
slice_bounds-put_numbers-end-2 c = sym (length-take-le _ _ (omega arith))

pub put_numbers-after_generators-requires : goal.put_numbers-after_generators-requires
put_numbers-after_generators-requires c =
    let few : length (take c.args.o.n c.generators_of-generators.result) ≡ c.args.o.n = length-take-le _ _ (omega arith) in
    record { not_below = omega arith; at_most_16 = omega arith; room = omega arith }

pub bounds-buffer-after_generators : goal.bounds-buffer-after_generators
bounds-buffer-after_generators c =
    let few : length (take c.args.o.n c.generators_of-generators.result) ≡ c.args.o.n = length-take-le _ _ (omega arith) in
    omega arith

pub overflow_add-result : goal.overflow_add-result
overflow_add-result c =
    let few : length (take c.args.o.n c.generators_of-generators.result) ≡ c.args.o.n = length-take-le _ _ (omega arith) in
    omega arith

pub returns : goal.returns
unfolding wORDER
returns c =
    let few : length (take c.args.o.n c.generators_of-generators.result) ≡ c.args.o.n = length-take-le _ _ (omega arith) in
    let last = c.put_numbers-after_generators in
    let end = put_byte last.new.buffer last.result 10 refl in
    let all = joined c.put_bytes-after_first.ensures (joined c.put_numbers-after_numbers.ensures (joined last.ensures end)) in
    let four = c.generators_of-generators.ensures in
    put_as (sym (order-line _ _ four.0 (omega arith))) (put_most 213 all (omega (arith, all.short)))
