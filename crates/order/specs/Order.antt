-- An order: a kind of link, a code, a word length, the degree of the check polynomial to be found, and a threshold on weights; the questions about
-- it; and its record of bytes, read in document 01's order of questions: 1 to 9, then 16.
-- Assumes nothing.
use Rattle.std.specs.Prelude.{ℕ, ◌+◌, ◌-◌, ◌*◌, Bool, true, false, ◌&&◌, List, [], ◌∷◌, ◌++◌, map, leb, eqb, length, get_or}
use Rattle.lists.specs.Lists.{up_from}
use Rattle.order.specs.Questions.{Question, first_no, from_to, highest_version, longest_word, shape_questions, check_degree, threshold, generator_questions}
use Rattle.order.specs.Answer.{Answer, accepted, unless}
use Rattle.order.specs.declared.questions.Takes.{Takes}

pub record Order : Type 0 where
  -- the kind of link: 1 tail-biting, 2 terminated (document 01: the version of the record)
  pub version : ℕ
  -- v: how many earlier inputs the encoder remembers
  pub v : ℕ
  -- N: the bits of a word
  pub N : ℕ
  -- m: the degree of the check polynomial
  pub m : ℕ
  -- d: paths of weight below d are listed
  pub d : ℕ
  -- n of them, the first first
  pub generators : List ℕ

-- the same for words of N bits
unfoldable pub with_length : ℕ → Order → Order
with_length N o = record { version = o.version; v = o.v; N = N; m = o.m; d = o.d; generators = o.generators }

-- ---- lists of counts

-- the count of weight w: a list of counts begins with weight 1, since no nonzero word of an accepted order weighs 0, and has d - 1 entries
unfoldable pub of_weight : ℕ → List ℕ → ℕ
of_weight w counts = get_or counts (w - 1) 0

-- ---- the questions about an order

-- what a call takes of an order (the struct `Takes`), and so asks about: versions and lengths up to some, and whether the degree and the threshold.
-- The code alone; the threshold too; everything
abbrev pub the_code : Takes
the_code = record { versions = highest_version; longest = longest_word; degree = false; threshold = false }

abbrev pub and_threshold : Takes
and_threshold = record { versions = highest_version; longest = longest_word; degree = false; threshold = true }

abbrev pub everything : Takes
everything = record { versions = highest_version; longest = longest_word; degree = true; threshold = true }

-- a question that is asked, or not
unfoldable pub if_taken : Bool → Question → List Question
if_taken true q = q ∷ []
if_taken false q = []

-- 6 and 7, as far as a call takes them
unfoldable pub number_questions : Takes → Order → List Question
number_questions takes o = if_taken takes.degree (check_degree o.N o.m) ++ if_taken takes.threshold (threshold o.d)

-- 2 to 9, then 16. Every call that takes an order asks such a list first, so a new question about orders has one place.
unfoldable pub order_questions : Takes → Order → List Question
order_questions takes o =
    shape_questions takes.versions takes.longest o.version (length o.generators) o.v o.N
    ++ (number_questions takes o ++ generator_questions o.v o.generators)

-- ---- the record: the length of what follows in 2 bytes, the version, n, v, N, m, d, then n generators of 2 bytes each, all big-endian

-- two bytes at i, the higher first
unfoldable pub be16 : List ℕ → ℕ → ℕ
be16 bytes i = get_or bytes i 0 * 256 + get_or bytes (i + 1) 0

-- n generators from byte 8 on
unfoldable pub read_generators : List ℕ → ℕ → List ℕ
read_generators bytes n = map (λ k. be16 bytes (8 + 2 * k)) (up_from 0 n)

-- the order that the bytes give, whether or not they pass the questions
unfoldable pub read_fields : List ℕ → Order
read_fields bytes =
    record { version = get_or bytes 2 0; v = get_or bytes 4 0; N = get_or bytes 5 0; m = get_or bytes 6 0; d = get_or bytes 7 0; generators = read_generators bytes (get_or bytes 3 0) }

-- the first two bytes say how many follow
unfoldable pub length_right : List ℕ → Bool
length_right bytes = leb 2 (length bytes) && eqb (be16 bytes 0) (length bytes - 2)

-- there is a version byte, of a version that is known
unfoldable pub version_right : List ℕ → Bool
version_right bytes = leb 3 (length bytes) && from_to 1 highest_version (get_or bytes 2 0)

-- n is there, and the length is 6 + 2n; that n is from 2 to 4 is the first question about the order
unfoldable pub count_right : List ℕ → Bool
count_right bytes = leb 4 (length bytes) && eqb (be16 bytes 0) (6 + 2 * get_or bytes 3 0)

-- questions 1 to 3, as far as they are about the record itself
unfoldable pub record_questions : List ℕ → List Question
record_questions bytes = (1, length_right bytes) ∷ (2, version_right bytes) ∷ (3, count_right bytes) ∷ []

-- what reading a record gives: an order, or the number of the first question that says no
unfoldable pub read : List ℕ → Answer Order
read bytes = unless (first_no (record_questions bytes ++ order_questions everything (read_fields bytes))) (accepted (read_fields bytes))
