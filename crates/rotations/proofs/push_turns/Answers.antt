use mathlib.Core.Path.{sym, ap, ◌∙◌}
use Prim.Native.Nat.{◌<◌}
use native.Mathlib.Omega.{arith}
use Rattle.poly.specs.Word.{number}
use Rattle.code.proofs.Rotation.{rotate_zero}
use Rattle.rotations.proofs.AllTurns.{is_zero, is_some, turns_zero, turns_begin, turns_again, turns_end, turned_again, turned_lt, place_after}
use Rattle.rotations.proofs.push_turns.Goals as goal
use Rattle.rotations.proofs.push_turns.Goals.{then-r-first, else-r-first}

pub returns-then-is_below : goal.returns-then-is_below
returns-then-is_below c =
    let a = c.args in
    turns_zero a.bits a.first (number a.w) (a.table.now, a.at) (is_zero _ _ c.is_below.ensures c.if-is_below.true)

pub loop-r-init : goal.loop-r-init
loop-r-init c =
    let p = c.requires in
    record { near = p.near; turned = λ _. sym (rotate_zero _ _ p.fits); left = turns_begin _ _ _ _ }

pub turn_back-u-requires : goal.turn_back-u-requires
turn_back-u-requires c =
    let p = c.requires in
    record {
      some_bits = p.some_bits;
      at_most_128 = p.short_to_turn (λ e. absurd (omega arith));
      fits = turned_lt _ c.loop-r.r _ _ (c.loop-r.invariant.turned (omega arith));
    }

-- the last rotation is not turned again
pub loop-r-preserved : goal.loop-r-preserved
loop-r-preserved c =
    let p = c.requires in
    let l = c.loop-r in
    let e = c.push-next.ensures in
    let some : 0 < number c.args.w = is_some _ _ c.is_below.ensures c.if-is_below.false in
    let word = l.invariant.turned (omega arith) in
    record {
      near = place_after _ _ _ _ _ e;
      turned = λ more. elim c.if-r-first.branch [
        | then-r-first w ↦ ap number w.u-is ∙ turned_again _ l.r _ _ _ p.some_bits word w.turn_back-u.ensures
        | else-r-first w ↦ absurd (omega arith)
      ];
      left = turns_again _ _ l.r _ _ _ _ _ p.some_bits p.fits some (omega arith) word e l.invariant.left;
    }

pub returns : goal.returns
returns c = let l = c.loop-r in turns_end _ _ l.r _ _ _ (omega arith) l.invariant.left
