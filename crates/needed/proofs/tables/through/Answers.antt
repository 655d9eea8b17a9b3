-- A least weight and a step.
use native.Mathlib.Omega.{arith}
use mathlib.Core.Path.{ap₂}
use Prim.Native.Nat.{◌+◌}
use Rattle.needed.specs.Model.Tables.{through}
use Rattle.needed.proofs.Filling.{step_small, need-small}
use Rattle.needed.proofs.tables.through.Goals as goal

pub overflow_add-result : goal.overflow_add-result
overflow_add-result c =
    let a = c.args in
    let p = c.requires in
    let s = step_small a.work.now {p = a.p} {b = a.b} record { tables = p.0.tables; state = p.0.state; input = p.1 } in
    let n = need-small a.work.now a.t a.p in
    omega arith

pub returns : goal.returns
unfolding through
returns c = ap₂ ◌+◌ c.need_at.ensures c.step_at.ensures
