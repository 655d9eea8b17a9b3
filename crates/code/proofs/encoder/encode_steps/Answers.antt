use mathlib.Core.Path.{◌≡◌, refl, sym, ap, ◌∙◌}
use mathlib.Core.List.{map}
use Prim.Native.Nat.{◌*◌}
use native.Mathlib.Omega.{arith}
use lib.ListN.{length, length-replicate}
use lib.Seq.{sets}
use Rattle.code.specs.Trellis.{tapped}
use Rattle.code.proofs.Windows.{later_none, later_more, kept_memory, kept_inputs}
use Rattle.code.proofs.Sent.{sent_none, sent_more, step_room, stored-length, all_sent}
use Rattle.code.proofs.encoder.encode_steps.Goals as goal

pub loop-t-init : goal.loop-t-init
loop-t-init c =
    record {
      window = later_none _;
      same_size = refl;
      stored = ap (sets _ 0) (sym (sent_none _ _ c.generators-generators.result.now _));
    }

pub moved-next-requires : goal.moved-next-requires
moved-next-requires c = kept_memory c.args.link.accepted c.first_window-window.ensures c.loop-t.invariant.window

pub put_step-requires : goal.put_step-requires
put_step-requires c =
    let l = c.loop-t in
    let room = step_room c.requires _ c.steps-t-end.result l.t (l.t * length c.generators-generators.result.now) c.generators-generators.ensures c.steps-t-end.ensures (omega arith) refl in
    let whole : length l.output ≡ length c.args.output.now = l.invariant.same_size ∙ ap length c.clear.ensures ∙ length-replicate _ _ in
    omega (arith, room)

pub overflow_mul-at : goal.overflow_mul-at
overflow_mul-at c =
    let l = c.loop-t in
    let room = step_room c.requires _ c.steps-t-end.result l.t (l.t * length c.generators-generators.result.now) c.generators-generators.ensures c.steps-t-end.ensures (omega arith) refl in
    omega (arith, room)

pub loop-t-preserved : goal.loop-t-preserved
loop-t-preserved c =
    let put = c.put_step.ensures in
    let inputs = c.inputs in
    let l = c.loop-t in
    let i = l.invariant in
    let gs = c.generators-generators.result.now in
    let first = c.first_window-window.ensures in
    let steps = c.steps-t-end.ensures in
    let kept = kept_inputs c.args.link.accepted first i.window c.requires.fits (omega arith) in
    record {
      window = later_more i.window c.moved-next.ensures;
      same_size = stored-length l.output _ (l.t * length gs) (map (tapped inputs.result) gs) _ put i.same_size;
      stored = sent_more _ _ gs _ l.t (l.t * length gs) _ _ _ _ refl i.stored (inputs.ensures ∙ rw (first.memory, first.rest, steps) kept) put;
    }

pub returns : goal.returns
returns c =
    let a = c.args in
    all_sent a.output.now a.link.accepted c.requires c.first_window-window.ensures c.generators-generators.result.now c.steps-t-end.result c.loop-t.t _ _ c.generators-generators.ensures c.steps-t-end.ensures (omega arith)
    c.clear.ensures c.loop-t.invariant.stored
