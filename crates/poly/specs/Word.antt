-- A word in two halves of 64 bits, low half first, as the number that it is; and a number in its halves.
-- Assumes nothing.
use Rattle.std.specs.Prelude.{ℕ, ◌+◌, ◌*◌, ◌/◌, ◌%◌, ◌^◌, List, [], ◌∷◌}
use Rattle.poly.specs.declared.word.Word.{Word}

abbrev pub number : Word → ℕ
number w = w.high * 2 ^ 64 + w.low

unfoldable pub halves : ℕ → List ℕ
halves u = u % 2 ^ 64 ∷ u / 2 ^ 64 ∷ []
