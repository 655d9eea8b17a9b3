-- What the code compares: the counts of every candidate that is offered over a path table, and who is left. `proofs/Left.antt` joins this to the definition of
-- the choice.
-- Assumes nothing.
use Rattle.std.specs.Prelude.{ℕ, zero, suc, ◌+◌, ◌-◌, ◌*◌, ◌^◌, ◌≤◌, ◌<◌, ◌≡◌, Bool, true, false, List, [], ◌∷◌, ◌++◌, map, length, get_or, take, drop}
use Rattle.lists.specs.Lists.{up_from, filter}
use Rattle.undetected.specs.Model.Steps.{divided_counts}
use Rattle.choice.specs.Choice.{best, first_of}
use Rattle.choice.specs.Best.{IsCandidate}
use Rattle.choice.specs.declared.Outcome.{Outcome}

-- the places below n whose flag is up
unfoldable pub alive_below : List Bool → ℕ → List ℕ
alive_below alive n = filter (λ k. get_or alive k false) (up_from 0 n)

-- the candidates of degree m whose flags are up, by number
unfoldable pub offered_by : ℕ → List Bool → List ℕ
offered_by m flags = map (λ k. 2 ^ m + 2 * k + 1) (alive_below flags (2 ^ (m - 1)))

-- of those offered, those left by the counts over a table
unfoldable pub left_over : ℕ → (offered table plain : List ℕ) → ℕ → List ℕ
left_over m offered table plain entries = best (divided_counts m table plain entries) offered

-- the flags before k put down
unfoldable pub dropped : ℕ → List Bool → List Bool
dropped zero alive = alive
dropped (suc k) [] = []
dropped (suc k) (b ∷ alive) = false ∷ dropped k alive

-- a list at the beginning of a lent one
unfoldable pub laid : List ℕ → List ℕ → List ℕ
laid xs l = xs ++ drop (length xs) l

-- those left are alive, and their counts stand at the beginning of the undetected list
abbrev pub LeftAlive : ℕ → ℕ → (offered table plain before after : List ℕ) → List Bool → Type 0
LeftAlive m entries offered table plain before after alive =
    (offered_by m alive ≡ left_over m offered table plain entries)
    × (after ≡ laid (divided_counts m table plain entries (first_of (left_over m offered table plain entries))) before)

-- how many are left, the first of them, and its counts at the beginning of the undetected list
pub record Chose (m entries : ℕ) (offered table plain before after : List ℕ) (r : Outcome) : Type 0 where
  pub how_many : r.shared ≡ length (left_over m offered table plain entries)
  pub first : r.polynomial ≡ first_of (left_over m offered table plain entries)
  pub listed : after ≡ laid (divided_counts m table plain entries (first_of (left_over m offered table plain entries))) before

-- ---- what is asked

-- a degree of check polynomials
pub record CheckDegree (m : ℕ) : Type 0 where
  pub some_degree : 1 ≤ m
  pub at_most_12 : m ≤ 12

-- candidate k of degree m
pub record ToName (m k : ℕ) : Type 0 where
  pub degree : CheckDegree m
  pub below : k < 2 ^ (m - 1)

-- polynomial p as a candidate of degree m
pub record ToOffer (m p : ℕ) : Type 0 where
  pub degree : CheckDegree m
  pub candidate : IsCandidate m p

-- the candidates of degree m whose flags are up, with a list that takes so many counts
pub record ToChoose (entries m : ℕ) (flags : List Bool) (undetected : List ℕ) : Type 0 where
  pub degree : CheckDegree m
  pub counts : entries ≤ length undetected
  -- somebody is offered
  pub some_offered : (k : ℕ) × (k < 2 ^ (m - 1)) × (get_or flags k false ≡ true)

-- over a table, once the counts of the first that is up stand in the list
pub record ToCompare (entries m : ℕ) (flags : List Bool) (first : ℕ) (table plain undetected : List ℕ) : Type 0 where
  pub choose : ToChoose entries m flags undetected
  pub first_up : first ≡ first_of (alive_below flags (2 ^ (m - 1)))
  pub first_counted : take entries undetected ≡ divided_counts m table plain entries (2 ^ m + 2 * first + 1)
