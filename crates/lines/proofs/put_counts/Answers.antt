use Prim.Native.Nat.{◌+◌, ◌*◌}
use native.Mathlib.Omega.{arith}
use mathlib.Core.Path.{◌≡◌, sym, ap}
use mathlib.Core.List.{flat_map}
use Rattle.lists.specs.Lists.{up_from}
use Rattle.lines.specs.Lines.{count_line}
use Rattle.lines.proofs.Puts.{put_none, put_as, put_most, joined, put_same_length}
use Rattle.lines.proofs.Pieces.{range_more}
use Rattle.lines.proofs.put_counts.Goals as goal

pub loop-k-init : goal.loop-k-init
unfolding flat_map up_from
loop-k-init c = let a = c.args in put_none a.buffer.now a.at

pub put_count-end-requires : goal.put_count-end-requires
put_count-end-requires c =
    let same = put_same_length c.loop-k.invariant in
    let counts = c.requires.counts in
    record {
      counts = record { at_most_63 = omega arith; plain_counts_are = omega arith; undetected_counts_are = omega arith };
      room = omega arith;
    }

pub loop-k-preserved : goal.loop-k-preserved
loop-k-preserved c =
    let top = c in
    let a = top.args in
    let l = top.loop-k in
    let more = joined l.invariant c.put_count-end.ensures in
    let within = put_most (51 * (l.k + 1)) more (omega (arith, more.short)) in
    put_as (sym (range_more (count_line a.plain.now a.undetected.now) l.k)) within

pub returns : goal.returns
returns c =
    let a = c.args in
    let l = c.loop-k in
    let done : l.k ≡ a.entries = omega arith in
    let all = put_as (ap (λ n. flat_map (count_line a.plain.now a.undetected.now) (up_from 1 n)) done) l.invariant in
    put_most (51 * a.entries) all (omega (arith, all.short))
