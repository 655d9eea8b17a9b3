use mathlib.Core.Path.{refl, ap, ◌∙◌}
use Prim.Native.Nat.{◌+◌}
use native.Mathlib.Omega.{arith}
use lib.ListN.{set, length-set}
use Rattle.lists.proofs.Stores.{sets_map_more, sets_map-all}
use Rattle.code.specs.Trellis.{tapped}
use Rattle.code.proofs.encoder.put_step.Goals as goal

pub loop-i-init : goal.loop-i-init
loop-i-init c = record { same_size = refl; stored = refl }

pub loop-i-preserved : goal.loop-i-preserved
loop-i-preserved c =
    let l = c.loop-i in
    let a = c.args in
    let more = sets_map_more (tapped a.inputs) a.generators.now 0 a.output.now a.at l.i _ (omega arith) in
    record {
      same_size = length-set l.output (a.at + l.i) _ ∙ l.invariant.same_size;
      stored = ap (λ x. set x (a.at + l.i) c.parity.result) l.invariant.stored ∙ more c.parity.ensures;
    }

pub shape_of-output : goal.shape_of-output
shape_of-output c = c.loop-i.invariant.same_size

pub returns : goal.returns
returns c =
    let l = c.loop-i in
    let a = c.args in
    l.invariant.stored ∙ sets_map-all (tapped a.inputs) a.generators.now 0 a.output.now a.at l.i (omega arith)
