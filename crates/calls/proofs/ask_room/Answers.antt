-- The one test.
use mathlib.Core.Path.{sym, ◌∙◌}
use borrow.Author.Tests.{lt-leb, le-leb}
use Rattle.order.proofs.FirstNo.{first_no_none, first_no_yes, first_no_no}
use Rattle.calls.proofs.ask_room.Goals as goal

pub returns-then-entries-needed : goal.returns-then-entries-needed
returns-then-entries-needed c = sym (first_no_no _ _ (lt-leb _ _ c.if-entries-needed.true))

pub returns : goal.returns
returns c = sym (first_no_yes _ _ (le-leb _ _ c.if-entries-needed.false) ∙ first_no_none)
