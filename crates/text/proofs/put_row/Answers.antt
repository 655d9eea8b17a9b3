-- The parts of the row, one after another.
use native.Mathlib.Omega.{arith}
use mathlib.Core.Path.{ap}
use mathlib.Core.List.{flat_map}
use Rattle.lists.specs.Lists.{up_from}
use Rattle.lines.specs.Lines.{wEVENTS, wPATHS, count_line}
use Rattle.text.specs.Text.{row_text}
use Rattle.lines.proofs.Puts.{put_as, put_most, joined}
use Rattle.order.specs.Answers.{order_in}
use Rattle.text.proofs.put_row.Goals as goal

pub put_counts-to_polynomial-requires : goal.put_counts-to_polynomial-requires
put_counts-to_polynomial-requires c =
    let counts = c.args.text.accepted.counts in
    record { counts = rw c.counted_weights-entries.ensures counts; room = omega (arith, c.counted_weights-entries.ensures, counts) }

pub returns : goal.returns
unfolding wEVENTS wPATHS row_text order_in
returns c =
    let a = c.args.text in
    let entries = c.counted_weights-entries.ensures in
    let counted = put_as (ap (λ n. flat_map (count_line a.plain.now a.undetected.now) (up_from 1 n)) entries) c.put_counts-to_polynomial.ensures in
    let lines = joined counted c.put_polynomial.ensures in
    let all = joined c.put_order-to_events.ensures (joined c.put_line-to_paths.ensures (joined c.put_line-to_counts.ensures lines)) in
    let counts = c.args.text.accepted.counts in
    put_most 4096 all (omega (arith, all.short))
