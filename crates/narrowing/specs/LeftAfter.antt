-- What is promised of the polynomial for a set of lengths (document 02, C-17), without lists of candidates: who is left after the lengths, and `FirstBest`
-- among those. `set⇔best_of_set` (proofs/Narrowed.antt) proves that the choice is just this.
-- Assumes nothing.
use Rattle.std.specs.Prelude.{ℕ, ◌-◌, ◌≤◌, List, [], ◌∷◌}
use Rattle.order.specs.Order.{Order, with_length}
use Rattle.undetected.specs.Undetected.{undetected_counts}
use Rattle.undetected.specs.FirstUndetected.{first_undetected}
use Rattle.choice.specs.Best.{IsCandidate, FirstBest}
use Rattle.narrowing.specs.Narrowed.{longest}

-- at each length in turn, of those left before, nobody has a larger first undetected weight
abbrev pub LeftAfter : Order → List ℕ → (ℕ → Type 0) → ℕ → Type 0
LeftAfter o [] Is p = Is p
LeftAfter o (N ∷ Ns) Is p =
    LeftAfter o Ns (λ c. Is c × ((q : ℕ) → Is q → first_undetected (with_length N o) q ≤ first_undetected (with_length N o) c)) p

abbrev pub BestOfSet : Order → List ℕ → (p shared : ℕ) → Type 0
BestOfSet o Ns p shared = FirstBest (LeftAfter o Ns (IsCandidate o.m)) (o.d - 1) (undetected_counts (longest o Ns)) p shared
