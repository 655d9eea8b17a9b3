-- What is printed, line by line (document 01, "What `dso` prints", as document 02 left the lines), as bytes. A byte is the number of its character in ASCII.
-- Assumes nothing.
use Rattle.std.specs.Prelude.{ℕ, zero, suc, ◌+◌, ◌/◌, ◌%◌, cond, ltb, length}
use mathlib.Core.List.{List, [], ◌∷◌, ◌++◌, map, flat_map}
use Rattle.order.specs.Order.{Order, of_weight}

-- ---- numbers

-- 0 to 9, then A to F
unfoldable pub digit : ℕ → ℕ
digit x = cond (ltb x 10) (48 + x) (55 + x)

-- the last digits of n, at most so many, the highest first
unfoldable pub digits : ℕ → ℕ → ℕ → List ℕ
digits zero base n = []
digits (suc most) base n = let longer = digits most base (n / base) ++ (digit (n % base) ∷ []) in cond (ltb n base) (digit n ∷ []) longer

-- all of them: n has no more than n + 1 digits, and one at least
unfoldable pub numeral : ℕ → ℕ → List ℕ
numeral base n = digits (suc n) base n

unfoldable pub decimal : ℕ → List ℕ
decimal n = numeral 10 n

unfoldable pub octal : ℕ → List ℕ
octal n = numeral 8 n

-- with 0x before it
unfoldable pub hexadecimal : ℕ → List ℕ
hexadecimal n = 48 ∷ 120 ∷ numeral 16 n

-- ---- lines

-- a space before each word but the first, and a line end after the last
unfoldable pub line : List ℕ → List (List ℕ) → List ℕ
line first others = first ++ (flat_map (λ w. 32 ∷ w) others ++ (10 ∷ []))

-- ORDER, EVENTS, PATHS, A, CRC, NO
unfoldable pub wORDER : List ℕ
wORDER = 79 ∷ 82 ∷ 68 ∷ 69 ∷ 82 ∷ []

unfoldable pub wEVENTS : List ℕ
wEVENTS = 69 ∷ 86 ∷ 69 ∷ 78 ∷ 84 ∷ 83 ∷ []

unfoldable pub wPATHS : List ℕ
wPATHS = 80 ∷ 65 ∷ 84 ∷ 72 ∷ 83 ∷ []

unfoldable pub w_a : List ℕ
w_a = 65 ∷ []

unfoldable pub wCRC : List ℕ
wCRC = 67 ∷ 82 ∷ 67 ∷ []

unfoldable pub wNO : List ℕ
wNO = 78 ∷ 79 ∷ []

-- n, v, N, m, d, then the generators in octal
unfoldable pub order_line : Order → List ℕ
order_line o =
    line wORDER (map decimal (length o.generators ∷ o.v ∷ o.N ∷ o.m ∷ o.d ∷ []) ++ map octal o.generators)

-- a weight, its plain count, its undetected count
unfoldable pub count_line : List ℕ → List ℕ → ℕ → List ℕ
count_line plain undetected w = line w_a (map decimal (w ∷ of_weight w plain ∷ of_weight w undetected ∷ []))

-- the polynomial, and how many share its counts
unfoldable pub polynomial_line : (polynomial shared : ℕ) → List ℕ
polynomial_line polynomial shared = line wCRC (hexadecimal polynomial ∷ decimal shared ∷ [])
