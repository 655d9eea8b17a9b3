-- Document 01's questions 2 to 12, with 16 of document 02 (C-11) after 9, each as a test, and the number of the first that says no.
-- Question 1 is about the bytes of a record (`Order.antt`, which has the questions about a whole order); 13 and 14 are asked once events
-- and paths have been counted (`jobs`). A call asks the questions about the values that it takes, in the order in which they stand here.
-- Assumes nothing.
use Rattle.std.specs.Prelude.{ℕ, ◌+◌, ◌/◌, ◌^◌, Bool, cond, not, ◌&&◌, List, [], ◌∷◌, leb, ltb, eqb}
use Rattle.lists.specs.Lists.{all, any}
use Rattle.poly.specs.Poly.{bit}
use Rattle.gcd.specs.SharedFactor.{share_factor}

-- a question: its number, and whether the answer is yes
abbrev pub Question : Type 0
Question = ℕ × Bool

-- the number of the first question that says no; 0 where none does
unfoldable pub first_no : List Question → ℕ
first_no [] = 0
first_no (q ∷ qs) = let rest = first_no qs in cond q.1 rest q.0

unfoldable pub from_to : ℕ → ℕ → ℕ → Bool
from_to low high x = leb low x && leb x high

-- the highest version of an order: 1 is a tail-biting link, 2 a terminated one (document 01: the version of a record)
abbrev pub highest_version : ℕ
highest_version = 2

-- a call takes versions up to some one
abbrev pub link_kind : ℕ → ℕ → Question
link_kind versions version = (2, from_to 1 versions version)

abbrev pub generator_count : ℕ → Question
generator_count n = (3, from_to 2 4 n)

abbrev pub memory : ℕ → Question
memory v = (4, from_to 1 8 v)

-- the bits of the longest word
abbrev pub longest_word : ℕ
longest_word = 128

-- `least` is v, or 1 where a call takes no v
abbrev pub word_length : (least longest N : ℕ) → Question
word_length least longest N = (5, from_to least longest N)

abbrev pub check_degree : ℕ → ℕ → Question
check_degree N m = (6, from_to 1 12 m && ltb m N)

abbrev pub threshold : ℕ → Question
threshold d = (7, from_to 1 64 d)

-- a generator is nonzero and below 2^(v + 1)
unfoldable pub in_range : ℕ → ℕ → Bool
in_range v g = ltb 0 g && ltb g (2 ^ (v + 1))

abbrev pub generator_range : ℕ → List ℕ → Question
generator_range v gs = (8, all (in_range v) gs)

unfoldable pub has_bit : ℕ → ℕ → Bool
has_bit j g = eqb (bit j g) 1

-- some generator has bit v, and some generator has bit 0
abbrev pub generator_ends : ℕ → List ℕ → Question
generator_ends v gs = (9, any (has_bit v) gs && any (has_bit 0) gs)

-- no polynomial other than 1 divides every generator
abbrev pub no_shared_factor : List ℕ → Question
no_shared_factor gs = (16, not (share_factor gs))

-- a lent list has at least as many entries as are needed; a call that takes several asks this of each
abbrev pub room : ℕ → ℕ → Question
room need have = (10, leb need have)

-- the numbers that a work area must have
unfoldable pub work_size : ℕ
work_size = 8192

-- degree m and constant term 1
abbrev pub check_polynomial : ℕ → ℕ → Question
check_polynomial m p = (11, eqb (p / 2 ^ m) 1 && eqb (bit 0 p) 1)

-- a word of N bits; a message of K = N - m bits likewise
abbrev pub below : ℕ → ℕ → Question
below N u = (12, ltb u (2 ^ N))

-- ---- the questions that calls ask together

-- 2, 3, 4 and 5, of n generators: versions and lengths up to those that the call takes
unfoldable pub shape_questions : (versions longest version n v N : ℕ) → List Question
shape_questions versions longest version n v N = link_kind versions version ∷ generator_count n ∷ memory v ∷ word_length v longest N ∷ []

-- 8, 9 and 16
unfoldable pub generator_questions : ℕ → List ℕ → List Question
generator_questions v gs = generator_range v gs ∷ generator_ends v gs ∷ no_shared_factor gs ∷ []
