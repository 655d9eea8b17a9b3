-- Chains of events of i are the loops of i: a chain's inputs make a loop whose first return is the chain's first event (`chain_loop`,
-- `chain_meets`) and which weighs what the events weigh (`chain_weight`); every loop of weight below the threshold is the loop of a chain
-- (`loop-chain`); and of one only (`chain_unique`).
-- Assumes nothing.
use Prim.Native.Nat.{ℕ, zero, suc, ◌+◌, ◌-◌, ◌*◌, ◌/◌, ◌%◌, ◌^◌, ◌≤◌, ◌<◌}
use native.Mathlib.Nat.{mod-lt}
use native.Mathlib.Omega.{arith}
use mathlib.Core.Path.{◌≡◌, refl, sym, ap, ap₂, ◌∙◌, subst}
use mathlib.Core.Logic.{⊎_elim}
use mathlib.Core.List.Memᴰ
use mathlib.Core.List.{List, [], ◌∷◌, Memᴰ}
use lib.Arith.{lt-one}
use lib.Pow.{pow_pos, high, low, split}
use Rattle.poly.specs.Poly.{bit}
use Rattle.poly.proofs.Bits.{bit_low}
use Rattle.code.specs.Links.{steps_of, event_states}
use Rattle.code.specs.Trellis.{walk_weight}
use Rattle.code.proofs.Cuts.{walk_weight_high}
use Rattle.code.proofs.Meets.{Meets, of_first_meets, in_first_meets, meets_cong, meets_unique}
use Rattle.code.proofs.Loops.{Loop, loop-empty, loop-join, joint_meets, loop-rest, loop-first}
use Rattle.order.specs.Order.{Order}
use Rattle.events.specs.Events.{ErrorEvent}
use Rattle.events.proofs.OfState.{EventOf}
use Rattle.paths.specs.Chains.{steps, cost, input_number}

-- every event of c is an event of state i
abbrev pub ChainOf : Order → ℕ → List ErrorEvent → Type 0
ChainOf o i c = (e : ErrorEvent) → Memᴰ e c → EventOf o i e

-- events of one state, length and input are the same event
same_event : (o : Order) (i : ℕ) (e f : ErrorEvent) → EventOf o i e → EventOf o i f → e.length ≡ f.length → e.input ≡ f.input → e ≡ f
same_event o i e f h k p q =
    let s : e.state ≡ f.state = h.state_is ∙ sym k.state_is in
    let w : e.weight ≡ f.weight =
    h.event.weighs ∙ (λ j. walk_weight o.generators o.v (p j) (s j) (q j)) ∙ sym k.event.weighs in
    λ j. record { state = s j; length = p j; weight = w j; input = q j }

module _ (o : Order) (i : ℕ) where
  event_meets : (e : ErrorEvent) → EventOf o i e → Meets o.v i e.length i e.input
  event_meets e h =
      subst (λ (s : ℕ). Meets o.v s e.length s e.input) h.state_is (of_first_meets o.v e.state e.length e.state e.input h.event.meets)

  event_weighs : (e : ErrorEvent) → EventOf o i e → walk_weight o.generators o.v e.length i e.input ≡ e.weight
  event_weighs e h =
      sym (h.event.weighs ∙ ap (λ (s : ℕ). walk_weight o.generators o.v e.length s e.input) h.state_is)

  -- ---- from chains to loops

  pub chain_loop : (c : List ErrorEvent) → ChainOf o i c → Loop o.v i (steps c) (input_number c)
  unfolding steps input_number
  chain_loop [] h = loop-empty o.v i
  chain_loop (e ∷ c) h =
      let first = h e (Memᴰ.head refl) in
      loop-join o.v i e.length (steps c) e.input (input_number c) (event_meets e first) first.event.input_fits (chain_loop c (λ f m. h f (Memᴰ.tail m)))

  pub chain_meets : (e : ErrorEvent) (c : List ErrorEvent) → ChainOf o i (e ∷ c) → Meets o.v i e.length i (input_number (e ∷ c))
  unfolding input_number
  chain_meets e c h = joint_meets o.v i e.length (steps c) e.input (input_number c) (event_meets e (h e (Memᴰ.head refl)))

  pub chain_weight : (c : List ErrorEvent) → ChainOf o i c → walk_weight o.generators o.v (steps c) i (input_number c) ≡ cost c
  unfolding steps input_number cost walk_weight
  chain_weight [] h = refl
  chain_weight (e ∷ c) h =
      let first = h e (Memᴰ.head refl) in
      walk_weight_high o.v e.length e.input (input_number c) first.event.input_fits o.generators (steps c) i
      ∙ ap₂ ◌+◌ (event_weighs e first)
      (ap (λ (s : ℕ). walk_weight o.generators o.v (steps c) s (input_number c)) (event_meets e first).arrives ∙ chain_weight c (λ f m. h f (Memᴰ.tail m)))

  -- ---- a loop is the loop of one chain

  pub chain_unique : (c c' : List ErrorEvent) → ChainOf o i c → ChainOf o i c' → steps c ≡ steps c' → input_number c ≡ input_number c' → c ≡ c'
  unfolding steps input_number
  chain_unique [] [] h h' s n = refl
  chain_unique [] (f ∷ d) h h' s n = absurd (omega (arith, (h' f (Memᴰ.head refl)).event.some_step))
  chain_unique (e ∷ c) [] h h' s n = absurd (omega (arith, (h e (Memᴰ.head refl)).event.some_step))
  chain_unique (e ∷ c) (f ∷ d) h h' s n =
      let first = h e (Memᴰ.head refl) in
      let first' = h' f (Memᴰ.head refl) in
      let meets = chain_meets e c h in
      let meets' = subst (Meets o.v i f.length i) (sym n) (chain_meets f d h') in
      let l : e.length ≡ f.length = meets_unique o.v i e.length f.length i (input_number c * 2 ^ e.length + e.input) meets meets' in
      let fit = first.event.input_fits in
      let fit' = first'.event.input_fits in
      let n' : input_number c * 2 ^ e.length + e.input ≡ input_number d * 2 ^ e.length + f.input =
      n ∙ ap (λ (x : ℕ). input_number d * 2 ^ x + f.input) (sym l) in
      let fit'' : f.input < 2 ^ e.length = subst (λ (x : ℕ). f.input < 2 ^ x) (sym l) fit' in
      let inputs : e.input ≡ f.input =
      sym (low (input_number c) e.length fit) ∙ ap (λ (x : ℕ). x % 2 ^ e.length) n' ∙ low (input_number d) e.length fit'' in
      let rests : input_number c ≡ input_number d =
      sym (high (input_number c) e.length fit) ∙ ap (λ (x : ℕ). x / 2 ^ e.length) n' ∙ high (input_number d) e.length fit'' in
      ap₂ ◌∷◌ (same_event o i e f first first' l inputs)
      (chain_unique c d (λ x m. h x (Memᴰ.tail m)) (λ x m. h' x (Memᴰ.tail m)) (omega arith) rests)

  -- ---- from loops to chains

  -- c is the loop of this chain
  pub record ChainFor (k c : ℕ) : Type 0 where
    pub events : List ErrorEvent
    pub of_state : ChainOf o i events
    pub steps_are : steps events ≡ k
    pub number_is : input_number events ≡ c

  module _ (state : i < event_states o) where
    -- the first return of a loop, as an event
    module _ (l k c : ℕ) (first : Meets o.v i l i c) (inside : l ≤ steps_of o)
        (light : walk_weight o.generators o.v (l + k) i c < o.d) where
      abbrev begin : ℕ
      begin = c % 2 ^ l

      begin_meets : Meets o.v i l i begin
      begin_meets = meets_cong o.v i l i c begin (λ j h. ap (bit j) (sym (split c l)) ∙ bit_low j l (c / 2 ^ l) begin h) first

      begin_fits : begin < 2 ^ l
      begin_fits = mod-lt c (pow_pos l)

      weights : walk_weight o.generators o.v (l + k) i c
          ≡ walk_weight o.generators o.v l i begin + walk_weight o.generators o.v k i (c / 2 ^ l)
      weights =
          ap (walk_weight o.generators o.v (l + k) i) (sym (split c l))
          ∙ walk_weight_high o.v l begin (c / 2 ^ l) begin_fits o.generators k i
          ∙ ap (λ (s : ℕ). walk_weight o.generators o.v l i begin + walk_weight o.generators o.v k s (c / 2 ^ l)) begin_meets.arrives

      abbrev first_event : ErrorEvent
      first_event = record { state = i; length = l; weight = walk_weight o.generators o.v l i begin; input = begin }

      first_event_of : EventOf o i first_event
      first_event_of = record {
        state_is = refl;
        event = record {
          state_fits = state;
          some_step = first.some_step;
          at_most_steps = inside;
          input_fits = begin_fits;
          meets = in_first_meets o.v i l i begin begin_meets;
          weighs = refl;
          below = omega (arith, weights);
        };
      }

      rest_light : walk_weight o.generators o.v k i (c / 2 ^ l) < o.d
      rest_light = omega (arith, weights)

      before : ChainFor k (c / 2 ^ l) → ChainFor (l + k) c
      unfolding steps input_number
      before r = record {
        events = first_event ∷ r.events;
        of_state = λ e m. ⊎_elim (λ p. subst (EventOf o i) (sym p) first_event_of) (r.of_state e) (Memᴰ.cases_cons m);
        steps_are = ap (λ (x : ℕ). l + x) r.steps_are;
        number_is = ap (λ (x : ℕ). x * 2 ^ l + begin) r.number_is ∙ split c l;
      }

    -- the chain of a loop, given those of shorter ones
    chain_step : (k c : ℕ)
        → ((k' c' : ℕ) → k' < k → k' ≤ steps_of o → Loop o.v i k' c' → walk_weight o.generators o.v k' i c' < o.d → ChainFor k' c')
        → k ≤ steps_of o → Loop o.v i k c → walk_weight o.generators o.v k i c < o.d → ChainFor k c
    unfolding steps input_number
    chain_step zero c shorter g loop light =
        record { events = []; of_state = λ e m. absurd (Memᴰ.not-nil m); steps_are = refl; number_is = sym (lt-one loop.fits) }
    chain_step (suc k) c shorter g loop light =
        let found = loop-first o.v i (suc k) c (omega arith) loop in
        let l : ℕ = found.0 in
        let first = found.2 in
        let some = first.some_step in
        let e : suc k ≡ l + (suc k - l) = omega (arith, found.1) in
        let loop' = subst (λ (x : ℕ). Loop o.v i x c) e loop in
        let light' = subst (λ (x : ℕ). walk_weight o.generators o.v x i c < o.d) e light in
        let inside : l ≤ steps_of o = omega (arith, found.1) in
        let rest = loop-rest o.v i l (suc k - l) c loop' first.arrives in
        let chain = shorter (suc k - l) (c / 2 ^ l) (omega arith) (omega arith) rest (rest_light l (suc k - l) c first inside light') in
        subst (λ (x : ℕ). ChainFor x c) (sym e) (before l (suc k - l) c first inside light' chain)

    chain_by : (fuel k c : ℕ) → k ≤ fuel → k ≤ steps_of o → Loop o.v i k c → walk_weight o.generators o.v k i c < o.d → ChainFor k c
    chain_by zero k c h = chain_step k c (λ k' c' g. absurd (omega arith))
    chain_by (suc fuel) k c h = chain_step k c (λ k' c' g. chain_by fuel k' c' (omega arith))

    pub loop-chain : (k c : ℕ) → k ≤ steps_of o → Loop o.v i k c → walk_weight o.generators o.v k i c < o.d → ChainFor k c
    loop-chain k c = chain_by k k c (omega arith)
