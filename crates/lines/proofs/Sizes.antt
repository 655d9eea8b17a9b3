-- A number of 64 bits has at most 22 digits in base 8 or above, and the line of a weight below 64 at most 51 bytes.
-- Assumes nothing.
use Prim.Native.Nat.{ℕ, ◌+◌, ◌^◌, ◌≤◌, ◌<◌}
use native.Mathlib.Omega.{arith}
use mathlib.Core.Path.{◌≡◌, ap}
use mathlib.Core.List.{List, [], ◌∷◌, map, flat_map}
use lib.ListN.{length, length-append}
use Rattle.lines.specs.Lines.{numeral, decimal, line}
use Rattle.lines.specs.Model.Steps.{spaced}
use Rattle.lines.proofs.Numerals.{numeral_short}
use Rattle.lines.proofs.Pieces.{decimal-line}

pub number_short : (base x : ℕ) → 8 ≤ base → x < 2 ^ 64 → length (numeral base x) ≤ 22
number_short base x g h = numeral_short 21 base x g (omega arith)

spaced_three : (base x y z : ℕ) → length (spaced base (x ∷ y ∷ z ∷ [])) ≡ length (numeral base x) + length (numeral base y) + length (numeral base z) + 3
unfolding spaced flat_map
spaced_three base x y z =
    omega (
      arith,
      length-append (numeral base x) (spaced base (y ∷ z ∷ [])),
      length-append (numeral base y) (spaced base (z ∷ [])),
      length-append (numeral base z) [],
    )

-- a weight of two digits at most, and two counts
pub count_short : (w x y : ℕ) → w < 64 → x < 2 ^ 64 → y < 2 ^ 64 → length (line (65 ∷ []) (map decimal (w ∷ x ∷ y ∷ []))) ≤ 51
count_short w x y h p u =
    let numbers : List ℕ = w ∷ x ∷ y ∷ [] in
    omega (
      arith,
      ap length (decimal-line (65 ∷ []) numbers),
      length-append (spaced 10 numbers) (10 ∷ []),
      spaced_three 10 w x y,
      numeral_short 1 10 w (omega arith) (omega arith),
      number_short 10 x (omega arith) p,
      number_short 10 y (omega arith) u,
    )
