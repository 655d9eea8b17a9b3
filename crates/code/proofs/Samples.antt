-- Small words by computation: what a word weighs round the seam of a tail-biting link and past the end on a terminated one, what the latter sends, and
-- the state that a word begins with. A slip in the definitions shows here.
-- Assumes nothing.
use mathlib.Core.Path.{◌≡◌, refl}
use mathlib.Core.List.{[], ◌∷◌, flat_map}
use Prim.Native.Nat.{ℕ}
use lib.Count.{ones_in, ones}
use Rattle.lists.specs.Lists.{up_from}
use Rattle.poly.specs.Poly.{bit, from_bits, ◌⊕◌, digits_through, horner, ◌⊗◌, register, remainder}
use Rattle.order.specs.Order.{Order}
use Rattle.code.specs.Links.{terminated, steps_of, output}
use Rattle.code.specs.Weight.{weight_of, weight, codeword}
use Rattle.code.specs.Trellis.{place, state_at}

-- generators 1 and 1 + x, for words of N bits
abbrev link : (version N : ℕ) → Order
link version N = record { version = version; v = 1; N = N; m = 0; d = 0; generators = 1 ∷ 3 ∷ [] }

-- x^2 + x^3 sends itself, and x^2 + x^4 = x^2 + 1 modulo x^4 + 1
round_the_seam : weight (link 1 4) 12 ≡ 4
unfolding ones_in ones bit ◌⊕◌ digits_through horner ◌⊗◌ register remainder terminated output weight_of weight
round_the_seam = refl

-- 1 + x + x^2 sends itself and 1 + x^3; modulo x^3 + 1 the second is 0
past_the_end : weight (link 2 3) 7 ≡ 5
unfolding ones_in ones bit ◌⊕◌ digits_through horner ◌⊗◌ register remainder terminated output weight_of weight
past_the_end = refl

at_the_seam : weight (link 1 3) 7 ≡ 3
unfolding ones_in ones bit ◌⊕◌ digits_through horner ◌⊗◌ register remainder terminated output weight_of weight
at_the_seam = refl

-- three steps for two bits: 1 + x sends 1, 1, 0 and 1, 0, 1
all-steps : codeword (link 2 2) 3 ≡ 1 ∷ 1 ∷ 1 ∷ 0 ∷ 0 ∷ 1 ∷ []
unfolding flat_map up_from bit ◌⊕◌ digits_through horner ◌⊗◌ register remainder terminated steps_of output codeword
all-steps = refl

-- its last bit is what the first step remembers
begins_with : state_at 1 4 8 0 ≡ 1
unfolding bit from_bits place state_at
begins_with = refl
