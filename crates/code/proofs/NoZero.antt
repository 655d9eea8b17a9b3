-- No nonzero word weighs 0. Of an order that question 16 passes none does, whatever the kind of link (`no_zero_word`); of a terminated link none does
-- already where one generator is not 0 (`no_zero_word-terminated`). For every memory, word length and list of generators.
-- A word of weight 0 has nothing but zeros as outputs. On a tail-biting link these are its products with the generators modulo x^N + 1: what so vanishes
-- is closed under sums and under x times, so that with the generators their greatest common divisor vanishes, which is 1; and the word times 1 is the
-- word. On a terminated link they are ordinary products, and none of two polynomials other than 0 is 0.
-- Assumes nothing.
use mathlib.Core.Path.{◌≡◌, refl, sym, ap, ◌∙◌}
use mathlib.Core.Bool.{Bool, true, false, cond}
use mathlib.Core.List.Memᴰ
use mathlib.Core.List.{List, [], ◌∷◌, Memᴰ}
use mathlib.Core.Logic.{⊎_elim}
use Prim.Native.Nat.{ℕ, ◌+◌, ◌^◌, ◌≤◌, ◌<◌}
use native.Mathlib.Omega.{arith}
use lib.Arith.{bin_ind}
use lib.Count.{ones, ones_step}
use Rattle.lists.proofs.Tests.{lt_or_ge}
use Rattle.poly.specs.Poly.{◌⊗◌, remainder}
use Rattle.poly.proofs.Remainder.{remainder_small}
use Rattle.gcd.specs.SharedFactor.{share_factor}
use Rattle.gcd.proofs.NoZero.{itself, remainders, no_zero_multiples, no_zero_product}
use Rattle.order.specs.Order.{Order}
use Rattle.order.specs.Model.Accepted.{AcceptedCode}
use Rattle.code.specs.Links.{terminated, output}
use Rattle.code.specs.Weight.{weight_of, weight}

-- a number without ones is 0
no_ones : (n : ℕ) → ones n ≡ 0 → n ≡ 0
no_ones n = bin_ind (λ (x : ℕ). ones x ≡ 0 → x ≡ 0) (λ _. refl) (λ x ih e. let s = ones_step x in let half = ih (omega arith) in omega arith) n

-- of weight 0: every output is 0
zero_outputs : (o : Order) (gs : List ℕ) (u : ℕ) → weight_of o gs u ≡ 0 → (g : ℕ) → Memᴰ g gs → output o g u ≡ 0
unfolding weight_of
zero_outputs o [] u e g m = absurd (Memᴰ.not-nil m)
zero_outputs o (x ∷ gs) u e g m =
    ⊎_elim (λ (same : g ≡ x). ap (λ (y : ℕ). output o y u) same ∙ no_ones (output o x u) (omega arith)) (λ r. zero_outputs o gs u (omega arith) g r)
    (Memᴰ.cases_cons m)

pub no_zero_word : (o : Order) → share_factor o.generators ≡ false → (u : ℕ) → 1 ≤ u → u < 2 ^ o.N → 1 ≤ weight o u
unfolding weight output
no_zero_word o none u some fits =
    ⊎_elim (λ light. absurd (let z = is_zero (zero_outputs o o.generators u (omega arith)) in omega arith)) (λ h. h) (lt_or_ge (weight_of o o.generators u) 1)
  where
    by : (b : Bool) → ((g : ℕ) → Memᴰ g o.generators → cond b (u ⊗ g) (remainder o.N (2 ^ o.N + 1) (u ⊗ g)) ≡ 0) → u ≡ 0
    by true zeros = no_zero_multiples (λ a. a) itself u o.generators none zeros
    by false zeros = sym (remainder_small o.N (2 ^ o.N + 1) u fits) ∙ no_zero_multiples (remainder o.N (2 ^ o.N + 1)) (remainders o.N (2 ^ o.N + 1)) u o.generators none zeros

    is_zero : ((g : ℕ) → Memᴰ g o.generators → output o g u ≡ 0) → u ≡ 0
    is_zero zeros = by (terminated o) zeros

pub no_zero_word-terminated : (o : Order) → terminated o ≡ true → (g : ℕ) → Memᴰ g o.generators → 1 ≤ g → (u : ℕ) → 1 ≤ u → 1 ≤ weight o u
unfolding weight output
no_zero_word-terminated o is g m nonzero u some =
    ⊎_elim
    (λ light.
    let product = no_zero_product u g some nonzero in
    let zeros = zero_outputs o o.generators u (omega arith) g m in
    absurd (let e = sym is_product ∙ zeros in omega arith))
    (λ h. h) (lt_or_ge (weight_of o o.generators u) 1)
  where
    is_product : output o g u ≡ u ⊗ g
    is_product = ap (λ (b : Bool). cond b (u ⊗ g) (remainder o.N (2 ^ o.N + 1) (u ⊗ g))) is

-- of an accepted order
pub accepted_weighs : (o : Order) → AcceptedCode o → (u : ℕ) → 1 ≤ u → u < 2 ^ o.N → 1 ≤ weight o u
accepted_weighs o acc = no_zero_word o acc.shares_no_factor
