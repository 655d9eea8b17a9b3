-- The search with all tables that are lent, and its row.
use native.Mathlib.Nat.{le_refl}
use native.Mathlib.Omega.{arith}
use Rattle.order.specs.Questions.{work_size}
use Rattle.print.specs.Printed.{lent}
use Rattle.print.proofs.Read.{none_asked, row_room}
use Rattle.print.proofs.Shown.{search_shown}
use Rattle.print.proofs.print_order.Goals as goal

pub search_paths-a-requires : goal.search_paths-a-requires
search_paths-a-requires c = let s = c in none_asked s.args.o s.requires.0 63 63 (le_refl 63) (le_refl 63)

pub print_answer-requires : goal.print_answer-requires
print_answer-requires c =
    let s = c in
    (row_room s.args.o s.requires.0 _ _ (omega arith) (omega arith), s.requires.1)

pub returns : goal.returns
unfolding lent work_size
returns c = search_shown _ _ _ _ _ c.search_paths-a.ensures c.print_answer.ensures
