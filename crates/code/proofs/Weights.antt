-- The weight of a step, summed a generator at a time, and of a word, summed a step at a time.
-- Assumes nothing.
use mathlib.Core.Path.{◌≡◌, refl, sym, ap, ap₂, ◌∙◌}
use mathlib.Core.List.{List, [], ◌∷◌}
use Prim.Native.Nat.{ℕ, ◌+◌, ◌*◌, ◌/◌, ◌%◌, ◌^◌, ◌≤◌, ◌<◌, zero-le}
use native.Mathlib.Numerals.{add-one}
use native.Mathlib.Omega.{arith}
use lib.Bits.{bit_and}
use lib.Count.{ones}
use lib.ListN.{length, get_or, drop, drop_of_length-le}
use Rattle.lists.specs.Lists.{sum}
use Rattle.lists.proofs.Scan.{drop-next}
use Rattle.lists.proofs.Sums.{sum_last}
use Rattle.poly.specs.Poly.{bit}
use Rattle.poly.specs.Word.{number}
use Rattle.poly.proofs.Sum.{mod2_lt, bit_lt, half_push, mod2_push}
use Rattle.order.specs.Order.{Order}
use Rattle.order.specs.Model.Accepted.{AcceptedCode}
use Rattle.code.specs.Links.{steps_of}
use Rattle.code.specs.Weight.{weight}
use Rattle.code.specs.Trellis.{state_at, tapped, step_output, step_weight}
use Rattle.code.specs.Model.Window.{First}
use Rattle.code.specs.declared.window.Window.{Window}
use Rattle.code.proofs.States.{place-bit}
use Rattle.code.proofs.Steps.{weighs, weight_is_sum_of_steps}
use Rattle.code.proofs.Links.{memory_fits, some_steps, wide_word, weight_is_cyclic}
use Rattle.code.proofs.Calls.{fit_of_code}

-- ---- the weight of a step

-- what the generators from j on add
step_turn : (gs : List ℕ) (x j : ℕ) → j < length gs
    → step_weight (drop j gs) (x / 2) (x % 2) ≡ tapped x (get_or gs j 0) + step_weight (drop (j + 1) gs) (x / 2) (x % 2)
unfolding step_weight step_output
step_turn gs x j h =
    ap (λ (l : List ℕ). step_weight l (x / 2) (x % 2)) (drop-next (λ _. mathlib.Core.Bool.true) gs 0 j h)
    ∙ ap (λ (y : ℕ). tapped y (get_or gs j 0) + step_weight (drop (j + 1) gs) (x / 2) (x % 2)) (halves x)
  where
    halves : (y : ℕ) → 2 * (y / 2) + y % 2 ≡ y
    halves y = omega arith

-- one generator more
pub step_again : (gs : List ℕ) (x j sum b : ℕ) → j < length gs → sum + step_weight (drop j gs) (x / 2) (x % 2) ≡ step_weight gs (x / 2) (x % 2) → b ≡ tapped x (get_or gs j 0)
    → sum + b + step_weight (drop (j + 1) gs) (x / 2) (x % 2) ≡ step_weight gs (x / 2) (x % 2)
step_again gs x j sum b h e eb = let step = step_turn gs x j h in omega arith

-- all of them
pub step_end : (gs : List ℕ) (x j sum : ℕ) → length gs ≤ j → sum + step_weight (drop j gs) (x / 2) (x % 2) ≡ step_weight gs (x / 2) (x % 2) → sum ≡ step_weight gs (x / 2) (x % 2)
unfolding step_weight
step_end gs x j sum h e =
    let none : step_weight (drop j gs) (x / 2) (x % 2) ≡ 0 = ap (λ (l : List ℕ). step_weight l (x / 2) (x % 2)) (drop_of_length-le gs h) in
    omega arith

pub tapped_lt : (x g : ℕ) → tapped x g < 2
unfolding tapped
tapped_lt x g = mod2_lt (ones (bit_and g x))

-- at most one for each generator
pub step_few : (gs : List ℕ) (s b : ℕ) → step_weight gs s b ≤ length gs
unfolding step_weight step_output
step_few [] s b = zero-le
step_few (g ∷ gs) s b = let one = tapped_lt (2 * s + b) g in let rest = step_few gs s b in omega arith

-- ---- a step at a time

module _ (gs : List ℕ) (v N u : ℕ) where
  pub steps_none : 0 ≡ sum 0 (weighs gs v N u)
  unfolding sum
  steps_none = refl

  -- one step more: x is what its inputs y weigh
  pub steps_more : (t total x y : ℕ) → t < N → y ≡ 2 * state_at v N u t + bit t u → x ≡ step_weight gs (y / 2) (y % 2) → total ≡ sum t (weighs gs v N u)
      → total + x ≡ sum (t + 1) (weighs gs v N u)
  steps_more t total x y h ey ex et =
      let s : ℕ = state_at v N u t in
      let d : bit t u < 2 = bit_lt t u in
      let here : x ≡ weighs gs v N u t =
      ex ∙ ap (λ (z : ℕ). step_weight gs (z / 2) (z % 2)) ey ∙ ap₂ (step_weight gs) (half_push s (bit t u) d) (mod2_push s (bit t u) d ∙ sym (place-bit N u t h)) in
      ap₂ ◌+◌ et here ∙ sym (ap (λ (k : ℕ). sum k (weighs gs v N u)) (add-one t) ∙ sum_last t (weighs gs v N u))

-- all of them: the weight of the word
pub steps_end : {o : Order} {u : ℕ} {w : Window} → AcceptedCode o → u < 2 ^ o.N → First o u w → (gs : List ℕ) (steps t total : ℕ)
    → gs ≡ o.generators → steps ≡ steps_of o → t ≡ steps → total ≡ sum t (weighs gs w.memory steps (number w.rest)) → total ≡ weight o u
steps_end {o} {u} code fits first gs steps t total eg es et e =
    let fit = fit_of_code o code in
    rw (et, es, eg, first.memory, first.rest) at e
    ∙ sym (weight_is_sum_of_steps o.generators o.v (steps_of o) u (some_steps o code) (memory_fits o code) (wide_word o u fits) fit)
    ∙ sym (weight_is_cyclic o u fits fit)
