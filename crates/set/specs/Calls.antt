-- What the search for a set of lengths answers and leaves (document 02, C-17), for every order, every list of lengths and whatever tables are lent. The list is
-- of the longest length first; the order's own N is not looked at.
-- Questions 2, 3 and 4 are about the order; then 17 and 5 about the lengths; then come those of the search for the shortest, which asks 6 of it, and asks again
-- what has passed. 13 is asked of the longest, 14 of each length.
-- Assumes nothing.
use Rattle.std.specs.Prelude.{ℕ, ◌-◌, Bool, true, ◌&&◌, List, [], ◌∷◌, ◌++◌, ltb, length, get_or}
use Rattle.lists.specs.Lists.{all}
use Rattle.order.specs.Questions.{Question, first_no, from_to, highest_version, longest_word, link_kind, generator_count, memory}
use Rattle.order.specs.Order.{Order, with_length}
use Rattle.order.specs.Answer.{Answer, unless_refused}
use Rattle.row.specs.declared.Row.{Row}
use Rattle.narrowing.specs.Narrowed.{longest, set_choice}
use Rattle.lengths.specs.Shorter.{for_each}
use Rattle.jobs.specs.Jobs.{SearchTables, cleared_search, unless_too_many, chosen}
use Rattle.search.specs.Calls.{search_questions}

-- ---- the questions before 13

-- each is below the one before, the first below N
unfoldable pub all_below : ℕ → List ℕ → Bool
all_below N [] = true
all_below N (M ∷ Ns) = ltb M N && all_below M Ns

unfoldable pub falling : List ℕ → Bool
falling [] = true
falling (N ∷ Ns) = all_below N Ns

-- the last
unfoldable pub shortest : List ℕ → ℕ
shortest Ns = get_or Ns (length Ns - 1) 0

-- 2, 3 and 4
unfoldable pub kind_questions : Order → List Question
kind_questions o = link_kind highest_version o.version ∷ generator_count (length o.generators) ∷ memory o.v ∷ []

-- 17: 1 to 8 lengths, strictly falling; then 5 of every length
unfoldable pub length_questions : ℕ → List ℕ → List Question
length_questions v Ns = (17, from_to 1 8 (length Ns) && falling Ns) ∷ (5, all (from_to v longest_word) Ns) ∷ []

unfoldable pub set_questions : Order → (Ns : List ℕ) → (plain undetected work : ℕ) → List Question
set_questions o Ns plain undetected work =
    kind_questions o ++ (length_questions o.v Ns ++ search_questions (with_length (shortest Ns) o) plain undetected work)

-- ---- the call

-- where no question refuses: events, paths and counts of the longest length, by who is chosen for the set
unfoldable pub set_row : Order → List ℕ → SearchTables → Answer Row × SearchTables
set_row o Ns t =
    unless_too_many (longest o Ns) (for_each Ns o) (length t.events) (length t.paths) (cleared_search t) (chosen (longest o Ns) (longest o Ns) t (set_choice o Ns))

unfoldable pub set_call : Order → List ℕ → SearchTables → Answer Row × SearchTables
set_call o Ns t = unless_refused (first_no (set_questions o Ns (length t.plain) (length t.undetected) (length t.work))) t (set_row o Ns t)
