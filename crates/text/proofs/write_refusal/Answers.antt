-- Refused with the buffer as it was, or written into a cleared one.
use native.Mathlib.Omega.{arith}
use Rattle.text.specs.Calls.{refusal_call}
use Rattle.text.proofs.Calls.{written_as_lem, refusal_no_room, refusal_room}
use Rattle.text.proofs.write_refusal.Goals as goal

pub returns-then-buffer-lt4096 : goal.returns-then-buffer-lt4096
returns-then-buffer-lt4096 c = let a = c.args in refusal_no_room a.number a.buffer.now (omega (arith, c.if-buffer-lt4096.true))

pub returns : goal.returns
unfolding refusal_call
returns c =
    let asked = c in
    let a = asked.args in
    written_as_lem _ _ a.buffer.now (refusal_room a.buffer.now asked.if-buffer-lt4096.false) c.lay_refusal-end.ensures
