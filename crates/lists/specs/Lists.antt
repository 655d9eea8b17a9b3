-- The few functions on lists that the definitions are written with: consecutive numbers, the members that pass a test, how many pass,
-- whether all or any do, a list made up to a length by a filler, and one that is cleared. Nothing here knows about codes.
-- What a `let` binds waits until it is read: so the first words of a range of 2 ^ 70 can be looked at without making the rest.
-- Assumes nothing.
use Rattle.std.specs.Prelude.{ℕ, zero, suc, ◌+◌, ◌-◌, Bool, true, false, cond, ◌&&◌, ◌||◌, List, [], ◌∷◌, ◌++◌, length, replicate}

-- n, n + 1, .., n + k - 1
unfoldable pub up_from : ℕ → ℕ → List ℕ
up_from n zero = []
up_from n (suc k) = let rest = up_from (suc n) k in n ∷ rest

-- the members that pass the test, in their order
unfoldable pub filter : {A : Type 0} → (A → Bool) → List A → List A
filter f [] = []
filter f (x ∷ xs) = let rest = filter f xs in cond (f x) (x ∷ rest) rest

-- how many members pass the test
unfoldable pub count : {A : Type 0} → (A → Bool) → List A → ℕ
count f xs = length (filter f xs)

unfoldable pub all : {A : Type 0} → (A → Bool) → List A → Bool
all f [] = true
all f (x ∷ xs) = f x && all f xs

unfoldable pub any : {A : Type 0} → (A → Bool) → List A → Bool
any f [] = false
any f (x ∷ xs) = f x || any f xs

-- f 0 + f 1 + .. + f (k - 1)
unfoldable pub sum : ℕ → (ℕ → ℕ) → ℕ
sum zero f = 0
sum (suc k) f = f 0 + sum k (λ j. f (suc j))

-- the list, then the filler up to n members: what a lent table of n entries holds after an accepted call
unfoldable pub padded : {A : Type 0} → ℕ → A → List A → List A
padded n z xs = xs ++ replicate (n - length xs) z

-- the filler in every place: what is left of a list that is cleared
unfoldable pub cleared : {A : Type 0} → A → List A → List A
cleared z xs = replicate (length xs) z
