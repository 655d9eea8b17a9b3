-- The encoder a step at a time: the codeword is what the steps send.
-- Assumes nothing.
use mathlib.Core.Path.{◌≡◌, sym, ap, ap₂, ◌∙◌, subst}
use mathlib.Core.List.{List, [], ◌∷◌, ◌++◌, map, flat_map}
use Prim.Native.Nat.{ℕ, zero, suc, ◌+◌, ◌*◌, ◌^◌, ◌≤◌, ◌<◌}
use native.Mathlib.Nat.{zero-add, zero-mul, suc-mul, mul_comm, mul-le-mul_right}
use native.Mathlib.Numerals.{add-one}
use native.Mathlib.Omega.{arith}
use lib.ListN.{length, replicate, length-map, length-append}
use lib.Seq.{sets, length-sets}
use Rattle.lists.specs.Lists.{up_from, padded}
use Rattle.lists.proofs.Member.{up_from_bounds}
use Rattle.lists.proofs.Lengths.{up_from_last}
use Rattle.lists.proofs.Blocks.{flat_map_none, flat_map_one, flat_map_append, flat_map_cong_on, map_cong_on}
use Rattle.lists.proofs.Stores.{sets_append, sets_cleared}
use Rattle.poly.specs.Poly.{bit}
use Rattle.poly.specs.Word.{number}
use Rattle.order.specs.Order.{Order}
use Rattle.order.specs.Model.Accepted.{AcceptedCode}
use Rattle.code.specs.Links.{steps_of}
use Rattle.code.specs.Weight.{codeword}
use Rattle.code.specs.Trellis.{state_at, tapped, step_output}
use Rattle.code.specs.Model.Cyclic.{cyclic_output, cyclic_codeword}
use Rattle.code.specs.Model.Steps.{ToEncode}
use Rattle.code.specs.Model.Window.{First}
use Rattle.code.specs.declared.window.Window.{Window}
use Rattle.code.proofs.States.{place-bit}
use Rattle.code.proofs.Steps.{Fit, output-bit}
use Rattle.code.proofs.Links.{memory_fits, wide_word, codeword_is_cyclic}
use Rattle.code.proofs.Calls.{fit_of_code}

-- ---- what the first t steps send

module _ (v N : ℕ) (gs : List ℕ) (u : ℕ) where
  -- step t, by the state and the word's bit
  sent_at : ℕ → List ℕ
  sent_at t = map (tapped (2 * state_at v N u t + bit t u)) gs

  pub sent : ℕ → List ℕ
  sent t = flat_map sent_at (up_from 0 t)

  pub sent_none : sent 0 ≡ []
  unfolding sent up_from
  sent_none = flat_map_none sent_at

  sent_last : (t : ℕ) → sent (suc t) ≡ sent t ++ sent_at t
  unfolding sent
  sent_last t =
      ap (flat_map sent_at) (up_from_last 0 t) ∙ flat_map_append sent_at (up_from 0 t) ((0 + t) ∷ [])
      ∙ ap (λ (l : List ℕ). flat_map sent_at (up_from 0 t) ++ l) (flat_map_one sent_at (0 + t) ∙ ap sent_at (zero-add t))

  length_sent_at : (t : ℕ) → length (sent_at t) ≡ length gs
  unfolding sent_at
  length_sent_at t = length-map gs (tapped (2 * state_at v N u t + bit t u))

  length_sent : (t : ℕ) → length (sent t) ≡ t * length gs
  length_sent zero = ap length sent_none ∙ sym (zero-mul (length gs))
  length_sent (suc t) =
      ap length (sent_last t) ∙ length-append (sent t) (sent_at t) ∙ ap₂ (λ (x y : ℕ). x + y) (length_sent t) (length_sent_at t) ∙ sym (suc-mul t (length gs))

  -- one step more, of inputs y, is stored behind the others
  pub sent_more : (t at y : ℕ) (o₀ o o' : List ℕ) → at ≡ t * length gs → o ≡ sets o₀ 0 (sent t) → y ≡ 2 * state_at v N u t + bit t u
      → o' ≡ sets o at (map (tapped y) gs) → o' ≡ sets o₀ 0 (sent (t + 1))
  unfolding sent_at
  sent_more t at y o₀ o o' ea eo ey e =
      e
      ∙ ap₂ (λ (x : List ℕ) (z : ℕ). sets x at (map (tapped z) gs)) eo ey
      ∙ ap (λ (k : ℕ). sets (sets o₀ 0 (sent t)) k (sent_at t)) (ea ∙ sym (length_sent t) ∙ sym (zero-add (length (sent t))))
      ∙ sym (sets_append o₀ 0 (sent t) (sent_at t))
      ∙ ap (sets o₀ 0) (sym (ap sent (add-one t) ∙ sent_last t))

  -- all steps send the codeword
  module _ (fits : v ≤ N) (word : u < 2 ^ N) (fit : Fit v gs) where
    sent_at_outputs : (t : ℕ) → t < N → sent_at t ≡ map (λ g. bit t (cyclic_output N g u)) gs
    unfolding sent_at step_output
    sent_at_outputs t h =
        map_cong_on (tapped (2 * state_at v N u t + bit t u)) (λ g. bit t (cyclic_output N g u)) gs
        (λ g m. ap (λ (x : ℕ). tapped (2 * state_at v N u t + x) g) (sym (place-bit N u t h)) ∙ sym (output-bit v N g u t fits word (fit g m) h))

    pub sent_all : sent N ≡ cyclic_codeword N gs u
    unfolding sent cyclic_codeword
    sent_all = flat_map_cong_on sent_at (λ t. map (λ g. bit t (cyclic_output N g u)) gs) (up_from 0 N) (λ t m. sent_at_outputs t (omega (arith, up_from_bounds 0 N m)))

-- after the last step: the codeword of the word, and zeros after it
pub all_sent : {o : Order} {u : ℕ} {w : Window} (out : List ℕ) → AcceptedCode o → ToEncode o u (length out) → First o u w → (gs : List ℕ) (steps t : ℕ) (o₀ o' : List ℕ)
    → gs ≡ o.generators → steps ≡ steps_of o → t ≡ steps → o₀ ≡ replicate (length out) 0 → o' ≡ sets o₀ 0 (sent w.memory steps gs (number w.rest) t)
    → o' ≡ padded (length out) 0 (codeword o u)
all_sent {o} {u} out code enc first gs steps t o₀ o' eg es et ez e =
    let v : ℕ = o.v in
    let T : ℕ = steps_of o in
    let n : ℕ = length o.generators in
    let fit = fit_of_code o code in
    let fits = subst (λ (k : ℕ). k ≤ length out) (sym (length_sent v T o.generators u T ∙ mul_comm T n)) enc.room in
    rw (et, es, eg, first.memory, first.rest, ez) at e
    ∙ sets_cleared (length out) 0 (sent v T o.generators u T) fits
    ∙ ap (padded (length out) 0) (sent_all v T o.generators u (memory_fits o code) (wide_word o u enc.fits) fit ∙ sym (codeword_is_cyclic o u enc.fits fit))

pub stored-length : (o o' : List ℕ) (at : ℕ) (vs : List ℕ) (n : ℕ) → o' ≡ sets o at vs → length o ≡ n → length o' ≡ n
stored-length o o' at vs n e h = ap length e ∙ length-sets o at vs ∙ h

-- the output has room for one step more
pub step_room : {o : Order} {u size : ℕ} → ToEncode o u size → (gs : List ℕ) (steps t at : ℕ) → gs ≡ o.generators → steps ≡ steps_of o → t < steps
    → at ≡ t * length gs → at + length gs ≤ size
step_room {o} {u} {size} enc gs steps t at eg es h e =
    let n : ℕ = length gs in
    let room : n * steps ≤ size = rw (eg, es) enc.room in
    let a : suc t * n ≡ t * n + n = suc-mul t n in
    let b : suc t * n ≤ steps * n = mul-le-mul_right n h in
    let c : steps * n ≡ n * steps = mul_comm steps n in
    omega arith
