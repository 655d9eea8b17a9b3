-- What the two kinds of link share: either sends the products modulo x^T + 1 of its steps T (`weight_is_cyclic`, `codeword_is_cyclic`), so what is
-- proved of words of T bits holds of both. And what sets a terminated word apart among these: its walk begins at state 0, so its mark is state 0 with
-- no turn, and no other word has this mark (`mark_of_word`, `word_of_mark`).
-- Assumes nothing.
use mathlib.Core.Path.{◌≡◌, refl, sym, ap, ap₂, ◌∙◌, subst}
use mathlib.Core.Bool.{Bool, true, false, cond}
use mathlib.Core.List.Memᴰ
use mathlib.Core.List.{List, [], ◌∷◌, map}
use Prim.Native.Nat.{ℕ, zero, suc, ◌+◌, ◌-◌, ◌*◌, ◌/◌, ◌%◌, ◌^◌, ◌≤◌, ◌<◌}
use native.Mathlib.Nat.{le_refl, mod-eq_of_lt, mod-lt}
use native.Mathlib.Decide.{dec_lt}
use native.Mathlib.Omega.{arith}
use lib.Count.{ones}
use lib.Dec.{eqb}
use lib.Pow.{pow_pos, pow_mono, split}
use Rattle.lists.specs.Lists.{up_from}
use Rattle.lists.proofs.Blocks.{flat_map_cong_on, map_cong_on}
use Rattle.poly.specs.Poly.{bit, from_bits, ◌⊗◌, remainder}
use Rattle.poly.proofs.Bits.{bit_above, bit_zero, bit_low, eq_by_bits, from_bits_cong}
use Rattle.poly.proofs.Product.{⊗_lt}
use Rattle.poly.proofs.Remainder.{remainder_small}
use Rattle.order.specs.Order.{Order, with_length}
use Rattle.order.specs.Model.Accepted.{AcceptedCode}
use Rattle.order.specs.Model.Lengths.{NoLonger}
use Rattle.code.specs.Links.{terminated, steps_of, output, event_states}
use Rattle.code.specs.Weight.{weight_of, weight, codeword}
use Rattle.code.specs.Trellis.{place, state_at}
use Rattle.code.specs.Model.Cyclic.{cyclic_output, cyclic_weight, cyclic_codeword}
use Rattle.code.specs.Model.Steps.{most_steps}
use Rattle.code.proofs.States.{state_at_period, state_at-bit}
use Rattle.code.proofs.Steps.{Fit}
use Rattle.code.proofs.Marks.{Marked, mark_unique_state, mark_unique_turn}

-- ---- how many steps and states

module _ (o : Order) where
  pub steps-terminated : terminated o ≡ true → steps_of o ≡ o.N + o.v
  unfolding steps_of
  steps-terminated e = ap (λ (b : Bool). cond b (o.N + o.v) o.N) e

  pub steps_tail_biting : terminated o ≡ false → steps_of o ≡ o.N
  unfolding steps_of
  steps_tail_biting e = ap (λ (b : Bool). cond b (o.N + o.v) o.N) e

  pub states_terminated : terminated o ≡ true → event_states o ≡ 1
  unfolding event_states
  states_terminated e = ap (λ (b : Bool). cond b 1 (2 ^ o.v)) e

  pub states_tail_biting : terminated o ≡ false → event_states o ≡ 2 ^ o.v
  unfolding event_states
  states_tail_biting e = ap (λ (b : Bool). cond b 1 (2 ^ o.v)) e

  pub bits_fit : o.N ≤ steps_of o
  unfolding steps_of
  bits_fit = by (terminated o)
    where
      by : (b : Bool) → o.N ≤ cond b (o.N + o.v) o.N
      by true = omega arith
      by false = le_refl o.N

  pub steps_le : steps_of o ≤ o.N + o.v
  unfolding steps_of
  steps_le = by (terminated o)
    where
      by : (b : Bool) → cond b (o.N + o.v) o.N ≤ o.N + o.v
      by true = le_refl (o.N + o.v)
      by false = omega arith

  pub states_le : event_states o ≤ 2 ^ o.v
  unfolding event_states
  states_le = by (terminated o)
    where
      by : (b : Bool) → cond b 1 (2 ^ o.v) ≤ 2 ^ o.v
      by true = pow_pos o.v
      by false = le_refl (2 ^ o.v)

  pub steps_some : 0 < o.N → 0 < steps_of o
  steps_some h = let a = bits_fit in omega arith

  pub steps_longer : o.v ≤ o.N → o.v ≤ steps_of o
  steps_longer h = let a = bits_fit in omega arith

  -- of an accepted code
  module _ (acc : AcceptedCode o) where
    pub few_steps : steps_of o ≤ most_steps
    few_steps = let a = steps_le in let b = acc.small_memory in let c = acc.at_most_128 in omega arith

    pub memory_fits : o.v ≤ steps_of o
    memory_fits = steps_longer acc.long_enough

    pub some_steps : 0 < steps_of o
    some_steps = let a = memory_fits in let b = acc.some_memory in omega arith

  -- for shorter words: fewer steps, the same states
  pub steps_shorter : (N : ℕ) → N ≤ o.N → steps_of (with_length N o) ≤ steps_of o
  unfolding steps_of terminated with_length
  steps_shorter N h = by (eqb o.version 2)
    where
      by : (b : Bool) → cond b (N + o.v) N ≤ cond b (o.N + o.v) o.N
      by true = omega arith
      by false = h

  pub states_alike : (N : ℕ) → event_states (with_length N o) ≡ event_states o
  unfolding event_states terminated with_length
  states_alike N = refl

  -- ---- either sends products modulo x^T + 1

  pub wide_word : (u : ℕ) → u < 2 ^ o.N → u < 2 ^ steps_of o
  wide_word u h = let wider : 2 ^ o.N ≤ 2 ^ steps_of o = pow_mono bits_fit in omega arith

  module _ (u : ℕ) (fits : u < 2 ^ o.N) where
    pub output_is_cyclic : (g : ℕ) → g < 2 ^ suc o.v → output o g u ≡ cyclic_output (steps_of o) g u
    unfolding output steps_of cyclic_output
    output_is_cyclic g h = by (terminated o)
      where
        by : (b : Bool) → cond b (u ⊗ g) (remainder o.N (2 ^ o.N + 1) (u ⊗ g))
            ≡ remainder (cond b (o.N + o.v) o.N) (2 ^ cond b (o.N + o.v) o.N + 1) (u ⊗ g)
        by true = sym (remainder_small (o.N + o.v) (2 ^ (o.N + o.v) + 1) (u ⊗ g) (⊗_lt o.N o.v u g fits h))
        by false = refl

    weight_of_is_cyclic : (gs : List ℕ) → Fit o.v gs → weight_of o gs u ≡ cyclic_weight (steps_of o) gs u
    unfolding weight_of cyclic_weight
    weight_of_is_cyclic [] fit = refl
    weight_of_is_cyclic (g ∷ gs) fit =
        ap₂ (λ (x y : ℕ). ones x + y) (output_is_cyclic g (fit g (Memᴰ.head refl))) (weight_of_is_cyclic gs (λ h m. fit h (Memᴰ.tail m)))

    pub weight_is_cyclic : Fit o.v o.generators → weight o u ≡ cyclic_weight (steps_of o) o.generators u
    unfolding weight
    weight_is_cyclic fit = weight_of_is_cyclic o.generators fit

    pub codeword_is_cyclic : Fit o.v o.generators → codeword o u ≡ cyclic_codeword (steps_of o) o.generators u
    unfolding codeword cyclic_codeword
    codeword_is_cyclic fit =
        flat_map_cong_on (λ t. map (λ g. bit t (output o g u)) o.generators) (λ t. map (λ g. bit t (cyclic_output (steps_of o) g u)) o.generators)
        (up_from 0 (steps_of o))
        (λ t _. map_cong_on (λ g. bit t (output o g u)) (λ g. bit t (cyclic_output (steps_of o) g u)) o.generators (λ g m. ap (bit t) (output_is_cyclic g (fit g m))))

-- ---- words of N + v bits whose v highest are 0

no_bits : (k : ℕ) → from_bits k (λ j. 0) ≡ 0
unfolding from_bits
no_bits zero = refl
no_bits (suc k) = ap (λ (x : ℕ). 0 + 2 * x) (no_bits k)

pub begins_at_zero : (v N u : ℕ) → u < 2 ^ N → state_at v (N + v) u 0 ≡ 0
unfolding state_at place
begins_at_zero v N u fits =
    let T : ℕ = N + v in
    from_bits_cong v (λ j. bit ((0 + T - suc j) % T) u) (λ j. 0)
    (λ j h. let inside : 0 + T - suc j < T = omega arith in ap (λ (x : ℕ). bit x u) (mod-eq_of_lt inside) ∙ bit_above (0 + T - suc j) N u fits (omega arith))
    ∙ no_bits v

module _ (v N u : ℕ) (some : 0 < N) where
  abbrev T : ℕ
  T = N + v

  around : 0 + T ≡ T - 0
  around = omega arith

  pub unturned_mark : u < 2 ^ N → Marked v T u 0 0
  unturned_mark fits = record {
    inside = omega arith;
    at = sym (ap (state_at v T u) around) ∙ state_at_period v T u 0 (omega arith) ∙ begins_at_zero v N u fits;
    least = λ t g h. omega arith;
    after = λ t g h. absurd (omega arith);
  }

  -- the v bits above N are those of the first state
  pub unturned_fits : u < 2 ^ T → Marked v T u 0 0 → u < 2 ^ N
  unfolding place
  unturned_fits wide m =
      subst (λ (x : ℕ). x < 2 ^ N) (sym same) (mod-lt u (pow_pos N))
    where
      first : state_at v T u 0 ≡ 0
      first = sym (state_at_period v T u 0 (omega arith)) ∙ ap (state_at v T u) around ∙ m.at

      above : (t : ℕ) → N ≤ t → t < T → bit t u ≡ 0
      above t h g =
          let at : 0 + T - suc (T - suc t) ≡ t = omega arith in
          let low : T - suc t < v = omega arith in
          sym (ap (λ (x : ℕ). bit x u) (ap (λ (x : ℕ). x % T) at ∙ mod-eq_of_lt g)) ∙ sym (state_at-bit v T u 0 (T - suc t) low)
          ∙ ap (bit (T - suc t)) first ∙ bit_zero (T - suc t)

      same : u ≡ u % 2 ^ N
      same =
          eq_by_bits T u (u % 2 ^ N) wide (let cut = mod-lt u (pow_pos N) in let wider : 2 ^ N ≤ 2 ^ T = pow_mono (omega arith) in omega arith)
          (λ t h. elim (dec_lt t N) [
            | yes l ↦ ap (bit t) (sym (split u N)) ∙ bit_low t N (u / 2 ^ N) (u % 2 ^ N) l
            | no n ↦ above t (omega arith) h ∙ sym (bit_above t N (u % 2 ^ N) (mod-lt u (pow_pos N)) (omega arith))
          ])

-- ---- the words of a link among the words of its steps: by their marks

module _ (o : Order) where
  -- what a link asks of a word's mark: on a terminated link it is state 0 with no turn
  abbrev pub MarkOfLink : ℕ → ℕ → Type 0
  MarkOfLink i r = terminated o ≡ true → (i ≡ 0) × (r ≡ 0)

  module _ (some : 0 < o.N) {u i r : ℕ} (m : Marked o.v (steps_of o) u i r) where
    pub mark_of_word : u < 2 ^ o.N → MarkOfLink i r
    mark_of_word fits t =
        let m' = subst (λ (k : ℕ). Marked o.v k u i r) (steps-terminated o t) m in
        let zero-mark = unturned_mark o.v o.N u some fits in
        (mark_unique_state o.v (o.N + o.v) u m' zero-mark, mark_unique_turn o.v (o.N + o.v) u m' zero-mark)

    pub word_of_mark : u < 2 ^ steps_of o → MarkOfLink i r → u < 2 ^ o.N
    word_of_mark wide of_link = by (terminated o) refl
      where
        by : (b : Bool) → terminated o ≡ b → u < 2 ^ o.N
        by true t =
            let steps = steps-terminated o t in
            let zeros = of_link t in
            unturned_fits o.v o.N u some (subst (λ (k : ℕ). u < 2 ^ k) steps wide)
            (subst (λ (k : ℕ). Marked o.v k u 0 0) steps
            (subst (λ (x : ℕ). Marked o.v (steps_of o) u x 0) zeros.0 (subst (λ (x : ℕ). Marked o.v (steps_of o) u i x) zeros.1 m)))
        by false t = subst (λ (k : ℕ). u < 2 ^ k) (steps_tail_biting o t) wide

  -- the states that begin events are those of such marks
  pub begins_of_mark : {i : ℕ} → i < 2 ^ o.v → (terminated o ≡ true → i ≡ 0) → i < event_states o
  begins_of_mark {i} state zero-state = by (terminated o) refl
    where
      by : (b : Bool) → terminated o ≡ b → i < event_states o
      by true t = let e = states_terminated o t in let z = zero-state t in omega arith
      by false t = let e = states_tail_biting o t in omega arith

  pub zero_begins : {i : ℕ} → i < event_states o → terminated o ≡ true → i ≡ 0
  zero_begins h t = let e = states_terminated o t in omega arith

-- ---- an order and the same for longer words

module _ {o c : Order} (h : NoLonger o c) where
  pub no_more_steps : steps_of o ≤ steps_of c
  no_more_steps = subst (λ (x : Order). steps_of x ≤ steps_of c) (sym h.same) (steps_shorter c o.N h.at_most)

  pub same_states : event_states o ≡ event_states c
  same_states = ap event_states h.same ∙ states_alike c o.N

  pub same_threshold : o.d ≡ c.d
  unfolding with_length
  same_threshold = ap (λ (x : Order). x.d) h.same
