-- The inputs of the event above those before it.
pub mod Joint
use native.Mathlib.Omega.{arith}
use Rattle.bounds.specs.Model.Tables.{bits_at}
use Rattle.chains.proofs.extend.Answers.Joint.{input_up, joined_is}
use Rattle.chains.proofs.extend.Goals as goal

pub join_input-inputs-requires : goal.join_input-inputs-requires
join_input-inputs-requires c =
    let ask = c.requires in
    record {
      below = ask.unfinished.word_small;
      fits = rw c.make.ensures (input_up ask);
    }

pub returns : goal.returns
returns c =
    let a = c.args in
    joined_is (bits_at a.work.now) a.begun a.e _ c.join_input-inputs.result c.first_or.ensures
    (omega (arith, c.join_input-inputs.type_inv)) (rw c.make.ensures at c.join_input-inputs.ensures)
