-- The lines of a text, piece by piece, as the code puts them.
-- Assumes nothing.
use Prim.Native.Nat.{ℕ, ◌+◌, ◌-◌, ◌≤◌, ◌<◌}
use native.Mathlib.Numerals.{add-one}
use native.Mathlib.Omega.{arith}
use mathlib.Core.Path.{◌≡◌, sym, ap, ap₂, ◌∙◌}
use mathlib.Core.List.{List, [], ◌∷◌, ◌++◌, map, flat_map, append_assoc}
use lib.ListN.{length, get_or, take}
use lib.Seq.{take-suc}
use Rattle.lists.specs.Lists.{up_from}
use Rattle.lists.proofs.Lengths.{up_from_last}
use Rattle.lists.proofs.Blocks.{flat_map_one, flat_map_append, flat_map_map}
use Rattle.order.specs.Order.{of_weight}
use Rattle.order.specs.declared.record.OrderRecord.{OrderRecord}
use Rattle.lines.specs.Lines.{numeral, decimal, octal, hexadecimal, line, wORDER, w_a, wCRC, order_line, count_line, polynomial_line}
use Rattle.order.specs.Answers.{order_in}
use Rattle.order.proofs.Asked.{length-order_in, generators_in}
use Rattle.lines.specs.Model.Steps.{spaced}

-- ---- blocks one after another: one more

module _ (f : ℕ → List ℕ) where
  pub list_more : (xs : List ℕ) (i : ℕ) → i < length xs → flat_map f (take (i + 1) xs) ≡ flat_map f (take i xs) ++ f (get_or xs i 0)
  list_more xs i h =
      ap (flat_map f) (ap (λ (k : ℕ). take k xs) (add-one i) ∙ take-suc xs i 0 h) ∙ flat_map_append f (take i xs) (get_or xs i 0 ∷ [])
      ∙ ap (λ (l : List ℕ). flat_map f (take i xs) ++ l) (flat_map_one f (get_or xs i 0))

  pub range_more : (k : ℕ) → flat_map f (up_from 1 (k + 1)) ≡ flat_map f (up_from 1 k) ++ f (k + 1)
  range_more k =
      ap (flat_map f) (ap (up_from 1) (add-one k) ∙ up_from_last 1 k) ∙ flat_map_append f (up_from 1 k) ((1 + k) ∷ [])
      ∙ ap (λ (l : List ℕ). flat_map f (up_from 1 k) ++ l) (flat_map_one f (1 + k) ∙ ap f one_last)
    where
      one_last : 1 + k ≡ k + 1
      one_last = omega arith

-- ---- the lines

pub decimal-line : (first numbers : List ℕ) → line first (map decimal numbers) ≡ first ++ (spaced 10 numbers ++ (10 ∷ []))
unfolding line decimal spaced
decimal-line first numbers = ap (λ (l : List ℕ). first ++ (l ++ (10 ∷ []))) (flat_map_map (λ w. 32 ∷ w) decimal numbers)

-- the line of weight k + 1, which is entry k
pub count-line : (plain undetected : List ℕ) (k : ℕ) → line (65 ∷ []) (map decimal ((k + 1) ∷ get_or plain k 0 ∷ get_or undetected k 0 ∷ [])) ≡ count_line plain undetected (k + 1)
unfolding count_line w_a of_weight
count-line plain undetected k =
    let e : k ≡ k + 1 - 1 = omega arith in
    ap (λ (i : ℕ). line (65 ∷ []) (map decimal ((k + 1) ∷ get_or plain i 0 ∷ get_or undetected i 0 ∷ []))) e

-- CRC 0x
pub polynomial_line_lem : (p s : ℕ) → polynomial_line p s ≡ (67 ∷ 82 ∷ 67 ∷ 32 ∷ 48 ∷ 120 ∷ []) ++ (numeral 16 p ++ (spaced 10 (s ∷ []) ++ (10 ∷ [])))
unfolding polynomial_line line wCRC hexadecimal decimal spaced flat_map
polynomial_line_lem p s = ap (λ (l : List ℕ). 67 ∷ 82 ∷ 67 ∷ 32 ∷ 48 ∷ 120 ∷ l) (append_assoc (numeral 16 p) (32 ∷ (numeral 10 s ++ [])) (10 ∷ []))

-- gs are all four generators
pub order-line : (o : OrderRecord) (gs : List ℕ) → gs ≡ o.generators → o.n ≤ length gs
    → order_line (order_in o) ≡ wORDER ++ (spaced 10 (o.n ∷ o.v ∷ o.bits ∷ o.m ∷ o.d ∷ []) ++ (spaced 8 (take o.n gs) ++ (10 ∷ [])))
unfolding order_line line decimal octal spaced order_in
order-line o gs e h =
    ap (λ (l : List ℕ). wORDER ++ (l ++ (10 ∷ []))) words ∙ ap (λ (l : List ℕ). wORDER ++ l) (append_assoc (spaced 10 (numbers o.n)) (spaced 8 four) (10 ∷ []))
  where
    four : List ℕ
    four = take o.n gs

    own : four ≡ (order_in o).generators
    own = ap (take o.n) e ∙ generators_in o (rw e at h)

    numbers : ℕ → List ℕ
    numbers n = n ∷ o.v ∷ o.bits ∷ o.m ∷ o.d ∷ []

    words : flat_map (λ w. 32 ∷ w) (map decimal (numbers (length (order_in o).generators)) ++ map octal (order_in o).generators) ≡ spaced 10 (numbers o.n) ++ spaced 8 four
    words =
        flat_map_append (λ w. 32 ∷ w) (map decimal (numbers (length (order_in o).generators))) (map octal (order_in o).generators)
        ∙ ap₂ ◌++◌ (flat_map_map (λ w. 32 ∷ w) decimal (numbers (length (order_in o).generators)) ∙ ap (λ (n : ℕ). spaced 10 (numbers n)) (length-order_in o))
        (flat_map_map (λ w. 32 ∷ w) octal (order_in o).generators ∙ ap (spaced 8) (sym own))
