-- Polynomials share a factor: one other than 1 divides every one of them. `SharesFactor` says it in these words; `share_factor` says it as a test,
-- which question 16 asks, by trying every polynomial that it can be. `share_factor⇔SharesFactor` (proofs/SharedFactor.antt) proves that the two are
-- the same, of every list. How the code finds it out, by greatest common divisors, is in Model/Gcd.antt.
-- Assumes nothing.
use Rattle.std.specs.Prelude.{◌≡◌, Bool, not, ◌&&◌, ℕ, suc, ◌+◌, eqb}
use mathlib.Core.List.{List, [], ◌∷◌, Memᴰ}
use Rattle.lists.specs.Lists.{up_from, all, any}
use Rattle.poly.specs.Poly.{◌⊗◌, Divides}

-- a factor that all of them have, other than 1
pub record SharedFactor (c : ℕ) (gs : List ℕ) : Type 0 where
  pub not_one : c ≡ 1 → ⊥
  pub divides_each : (g : ℕ) → Memᴰ g gs → Divides c g

abbrev pub SharesFactor : List ℕ → Type 0
SharesFactor gs = (c : ℕ) × SharedFactor c gs

-- ---- the same as a test

-- c divides g: g is the ordinary product of c and some q. No factor of a polynomial other than 0 is a larger number than it.
unfoldable pub divides : ℕ → ℕ → Bool
divides c g = any (λ q. eqb (c ⊗ q) g) (up_from 0 (suc g))

-- the polynomials added up as numbers: no factor that they share is larger, where one of them is not 0
unfoldable pub total : List ℕ → ℕ
total [] = 0
total (g ∷ gs) = g + total gs

-- some polynomial other than 1 divides every one of them
unfoldable pub share_factor : List ℕ → Bool
share_factor gs = any (λ c. not (eqb c 1) && all (divides c) gs) (up_from 0 (suc (total gs)))
