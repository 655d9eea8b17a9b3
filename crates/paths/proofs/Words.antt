-- What the recursion of `specs/Model/Joining.antt` emits over all states is the nonzero words of weight w, for w below the threshold: these and no others
-- (`mem_chain_words`), each once (`chain_words_distinct`). So, sorted by number, it is the definition's list (`sorted-chain_words`), and it is as long as
-- the plain count says (`length-chain_words`).
-- Assumes nothing.
use Prim.Native.Nat.{ℕ, ◌+◌, ◌-◌, ◌*◌, ◌^◌, ◌≤◌, ◌<◌}
use native.Mathlib.Nat.{zero-add, mul-one, sub_self}
use native.Mathlib.Omega.{arith}
use mathlib.Core.Path.{◌≡◌, refl, sym, ap, ◌∙◌, subst}
use mathlib.Core.Logic.{◌↔◌, ◌≢◌}
use mathlib.Core.Bool.{Bool, true, false, cond}
use mathlib.Core.List.Memᴰ
use mathlib.Core.List.{List, [], ◌∷◌, map, flat_map, Memᴰ}
use lib.Dec.{T, ltb, ltb→lt, lt→ltb}
use lib.ListN.{length}
use Rattle.lists.specs.Lists.{up_from}
use Rattle.lists.proofs.Member.{up_from_bounds, in_up_from, of_filter, in_filter, of_flat_map, in_flat_map}
use Rattle.lists.proofs.Sorted.{Sorted, Within, up_from-sorted, filter-sorted, sorted_unique}
use Rattle.lists.proofs.Blocks.{flat_map_cong_on, flat_map_sorted-on}
use Rattle.lists.proofs.Distinct.{Distinct, increasing_distinct, map_distinct_on, distinct_same_length}
use Rattle.code.specs.Links.{terminated, steps_of, event_states}
use Rattle.code.specs.Weight.{weight}
use Rattle.code.specs.Trellis.{rotate}
use Rattle.code.proofs.Links.{steps_some}
use Rattle.code.proofs.Steps.{Fit}
use Rattle.order.specs.Order.{Order}
use Rattle.events.specs.Events.{ErrorEvent, events_of_state}
use Rattle.events.proofs.OfState.{of_events_of_state, in_events_of_state, events_of_state_distinct}
use Rattle.paths.specs.Paths.{words_of_weight}
use Rattle.paths.specs.Chains.{steps, cost, input_number, first_length}
use Rattle.paths.specs.Model.Joining.{turns, first_or, unbegun_first, state_words, chain_words}
use Rattle.paths.proofs.Listed.{mem_words, of_words_of_weight, in_words_of_weight, words_of_weight-sorted}
use Rattle.paths.proofs.Chains.{chains, of_chains, in_chains, chains_distinct}
use Rattle.paths.proofs.Joined.{emit, joined_is_chains}
use Rattle.paths.proofs.Arises.{Arises, arises_state_fits, arises_fits, arises_weight, arises_once_state, arises_once_turn, arises_once_chain, arises_somehow}

-- ---- the rotations that are emitted

module _ (N first c : ℕ) where
  pub of_turns : {u : ℕ} → Memᴰ u (turns N first c) → (1 ≤ u) × ((r : ℕ) × (r < first) × (rotate N r c ≡ u))
  unfolding turns
  of_turns {u} m =
      let h = of_filter (λ u. ltb 0 u) (map (λ r. rotate N r c) (up_from 0 first)) m in
      let k = Memᴰ.of_map (λ r. rotate N r c) (up_from 0 first) h.0 in
      let b = up_from_bounds 0 first k.1 in
      (ltb→lt 0 u h.1, (k.0, omega arith, k.2))

  pub in_turns : {u : ℕ} (r : ℕ) → 1 ≤ u → r < first → rotate N r c ≡ u → Memᴰ u (turns N first c)
  unfolding turns
  in_turns {u} r some h e =
      in_filter (λ u. ltb 0 u) (map (λ r. rotate N r c) (up_from 0 first))
      (Memᴰ.cast (sym e) (Memᴰ.map (λ r. rotate N r c) (in_up_from 0 first (omega arith) (omega arith)))) (lt→ltb 0 u some)

-- how many turns of a chain are emitted: as many as its first event is long, and one on a terminated link
abbrev turns_of : Order → List ErrorEvent → ℕ
turns_of o c = first_or (unbegun_first o) (first_length c)

module _ (o : Order) (r l : ℕ) where
  turn_emitted : 1 ≤ l → r < first_or (unbegun_first o) l → (r < l) × (terminated o ≡ true → r ≡ 0)
  unfolding unbegun_first first_or
  turn_emitted some = by (terminated o)
    where
      by : (b : Bool) → r < first_or (cond b 1 0) l → (r < l) × (b ≡ true → r ≡ 0)
      by true h = (omega arith, λ _. omega arith)
      by false h = (h, λ e. absurd (subst T (sym e) tt))

  emitted_turn : r < l → (terminated o ≡ true → r ≡ 0) → r < first_or (unbegun_first o) l
  unfolding unbegun_first first_or
  emitted_turn h = by (terminated o)
    where
      by : (b : Bool) → (b ≡ true → r ≡ 0) → r < first_or (cond b 1 0) l
      by true z = let e = z refl in omega arith
      by false z = h

module _ (o : Order) (some : 0 < o.N) (longer : o.v ≤ o.N) where
  -- ---- one state

  module _ (i w : ℕ) (state : i < event_states o) where
    event_some_step : (e : ErrorEvent) → Memᴰ e (events_of_state o i) → 1 ≤ e.length
    event_some_step e m = (of_events_of_state o i state m).event.some_step

    -- chain by chain
    pub state_words_is_chains : state_words o i w ≡ flat_map (λ c. turns (steps_of o) (turns_of o c) (input_number c)) (chains (steps_of o) (events_of_state o i) (steps_of o) w)
    unfolding state_words emit
    state_words_is_chains =
        let whole : (n : ℕ) → 0 + n * 2 ^ (steps_of o - steps_of o) ≡ n =
        λ n. zero-add (n * 2 ^ (steps_of o - steps_of o)) ∙ ap (λ (x : ℕ). n * 2 ^ x) (sub_self (steps_of o)) ∙ mul-one n in
        joined_is_chains (steps_of o) (events_of_state o i) event_some_step (steps_of o) (steps_of o) 0 (unbegun_first o) w (omega arith)
        ∙ flat_map_cong_on (emit (steps_of o) (steps_of o) 0 (unbegun_first o)) (λ c. turns (steps_of o) (turns_of o c) (input_number c)) (chains (steps_of o) (events_of_state o i) (steps_of o) w)
        (λ c _. ap (turns (steps_of o) (turns_of o c)) (whole (input_number c)))

    -- a chain of some steps has a first event
    first_some : (c : List ErrorEvent) → Memᴰ c (chains (steps_of o) (events_of_state o i) (steps_of o) w) → 1 ≤ first_length c
    unfolding first_length steps
    first_some c m = let f = of_chains (events_of_state o i) (steps_of o) (steps_of o) w c m in by c f.from f.steps_are
      where
        by : (c : List ErrorEvent) → Within c (events_of_state o i) → steps c ≡ steps_of o → 1 ≤ first_length c
        by [] from e = absurd (let h = steps_some o some in omega arith)
        by (e ∷ c) from _ = event_some_step e (from e (Memᴰ.head refl))

    arises_of_turn : (c : List ErrorEvent) {r u : ℕ} → Memᴰ c (chains (steps_of o) (events_of_state o i) (steps_of o) w) → r < turns_of o c
        → rotate (steps_of o) r (input_number c) ≡ u → Arises o i r c u
    arises_of_turn c {r} m h e =
        let f = of_chains (events_of_state o i) (steps_of o) (steps_of o) w c m in
        let turn = turn_emitted o r (first_length c) (first_some c m) h in
        record { of_state = λ x n. of_events_of_state o i state (f.from x n); steps_are = f.steps_are; inside = turn.0; unturned = turn.1; word_is = e }

    pub of_state_words : {u : ℕ} → Memᴰ u (state_words o i w)
        → (1 ≤ u) × ((r : ℕ) × (c : List ErrorEvent) × Arises o i r c u × (cost c ≡ w))
    of_state_words {u} m =
        let h =
        of_flat_map (λ c. turns (steps_of o) (turns_of o c) (input_number c)) (chains (steps_of o) (events_of_state o i) (steps_of o) w)
        (subst (Memᴰ u) state_words_is_chains m) in
        let t = of_turns (steps_of o) (turns_of o h.0) (input_number h.0) h.2 in
        (t.0, (t.1.0, h.0, arises_of_turn h.0 h.1 t.1.1 t.1.2, (of_chains (events_of_state o i) (steps_of o) (steps_of o) w h.0 h.1).cost_is))

    listed_chain : (r u : ℕ) (c : List ErrorEvent) → Arises o i r c u → cost c ≡ w → Memᴰ c (chains (steps_of o) (events_of_state o i) (steps_of o) w)
    unfolding first_length
    listed_chain r u [] a e = absurd (omega (arith, a.inside))
    listed_chain r u (e ∷ c) a h =
        in_chains (events_of_state o i) event_some_step (steps_of o) (steps_of o) w e c (omega arith)
        (record { from = λ x m. in_events_of_state o i (a.of_state x m); steps_are = a.steps_are; cost_is = h })

    pub in_state_words : {r u : ℕ} {c : List ErrorEvent} → 1 ≤ u → Arises o i r c u → cost c ≡ w → Memᴰ u (state_words o i w)
    in_state_words {r} {u} {c} nonzero a e =
        subst (Memᴰ u) (sym state_words_is_chains)
        (in_flat_map (λ c. turns (steps_of o) (turns_of o c) (input_number c)) (chains (steps_of o) (events_of_state o i) (steps_of o) w) (listed_chain r u c a e)
        (in_turns (steps_of o) (turns_of o c) (input_number c) r nonzero (emitted_turn o r (first_length c) a.inside a.unturned) a.word_is))

    turns_distinct : (c : List ErrorEvent) → Memᴰ c (chains (steps_of o) (events_of_state o i) (steps_of o) w) → Distinct (turns (steps_of o) (turns_of o c) (input_number c))
    unfolding turns
    turns_distinct c m =
        filter-sorted (λ x y. x ≢ y) (λ u. ltb 0 u) (map (λ r. rotate (steps_of o) r (input_number c)) (up_from 0 (turns_of o c)))
        (map_distinct_on (λ r. rotate (steps_of o) r (input_number c)) (up_from 0 (turns_of o c))
        (increasing_distinct (up_from 0 (turns_of o c)) (up_from-sorted 0 (turns_of o c)))
        (λ r q k l e.
        let b = up_from_bounds 0 (turns_of o c) k in
        let d = up_from_bounds 0 (turns_of o c) l in
        arises_once_turn o some longer (arises_of_turn c m (omega arith) e) (arises_of_turn c m (omega arith) refl)))

    pub state_words_distinct : Distinct (state_words o i w)
    state_words_distinct =
        subst Distinct (sym state_words_is_chains)
        (flat_map_sorted-on (λ x y. x ≢ y) (λ x y. x ≢ y) (λ c. turns (steps_of o) (turns_of o c) (input_number c)) (chains (steps_of o) (events_of_state o i) (steps_of o) w)
        (chains_distinct (events_of_state o i) (events_of_state_distinct o i) (steps_of o) (steps_of o) w) turns_distinct
        (λ c c' m m' n u u' k k' e.
        let t = (of_turns (steps_of o) (turns_of o c) (input_number c) k).1 in
        let t' = (of_turns (steps_of o) (turns_of o c') (input_number c') k').1 in
        n (arises_once_chain o some longer (arises_of_turn c m t.1 t.2) (arises_of_turn c' m' t'.1 (t'.2 ∙ sym e)))))

  -- ---- all states

  module _ (w : ℕ) where
    state_bound : {i : ℕ} → Memᴰ i (up_from 0 (event_states o)) → i < event_states o
    state_bound m = let b = up_from_bounds 0 (event_states o) m in omega arith

    pub chain_words_distinct : Distinct (chain_words o w)
    unfolding chain_words
    chain_words_distinct =
        flat_map_sorted-on ◌<◌ (λ x y. x ≢ y) (λ i. state_words o i w) (up_from 0 (event_states o)) (up_from-sorted 0 (event_states o))
        (λ i m. state_words_distinct i w (state_bound m))
        (λ i j m n l u u' k k' e.
        let a = (of_state_words i w (state_bound m) k).1 in
        let a' = (of_state_words j w (state_bound n) (Memᴰ.cast e k')).1 in
        let same : i ≡ j = arises_once_state o some longer a.2 a'.2 in
        omega arith)

    module _ (fit : Fit o.v o.generators) where
      pub of_chain_words : (u : ℕ) → Memᴰ u (chain_words o w) → (1 ≤ u) × (u < 2 ^ o.N) × (weight o u ≡ w)
      unfolding chain_words
      of_chain_words u m =
          let h = of_flat_map (λ i. state_words o i w) (up_from 0 (event_states o)) m in
          let k = of_state_words h.0 w (state_bound h.1) h.2 in
          let a = k.1.2 in
          (k.0, arises_fits o some longer a, arises_weight o some longer a fit ∙ k.1.3)

      module _ (light : w < o.d) where
        pub in_chain_words : (u : ℕ) → 1 ≤ u → u < 2 ^ o.N → weight o u ≡ w → Memᴰ u (chain_words o w)
        unfolding chain_words
        in_chain_words u nonzero fits e =
            let found = arises_somehow o some longer fit u fits (subst (λ x. x < o.d) (sym e) light) in
            let a = found.arises in
            let state = arises_state_fits o some longer a in
            let costs = sym (arises_weight o some longer a fit) ∙ e in
            in_flat_map (λ i. state_words o i w) (up_from 0 (event_states o)) (in_up_from 0 (event_states o) (omega arith) (omega arith))
            (in_state_words found.state w state nonzero a costs)

        pub mem_chain_words : (u : ℕ) → Memᴰ u (chain_words o w) ↔ ((1 ≤ u) × (u < 2 ^ o.N) × (weight o u ≡ w))
        mem_chain_words u = (of_chain_words u, λ h. in_chain_words u h.0 h.1 h.2)

        -- ---- the definition's list

        chain_words_within : Within (chain_words o w) (words_of_weight o w)
        chain_words_within u m = let h = of_chain_words u m in in_words_of_weight o w u ((mem_words o.N u).1 (h.0, h.1)) h.2

        within_chain_words : Within (words_of_weight o w) (chain_words o w)
        within_chain_words u m =
            let h = of_words_of_weight o w u m in
            let word = (mem_words o.N u).0 h.0 in
            in_chain_words u word.0 word.1 h.1

        -- sorted by number, what the recursion emits is the words of weight w
        pub sorted-chain_words : (l : List ℕ) → Sorted ◌<◌ l → Within l (chain_words o w) → Within (chain_words o w) l → l ≡ words_of_weight o w
        sorted-chain_words l s within all =
            sorted_unique ◌<◌ (λ x y h g. omega arith) l (words_of_weight o w) s (words_of_weight-sorted o w) (λ u m. chain_words_within u (within u m))
            (λ u m. all u (within_chain_words u m))

        pub length-chain_words : length (chain_words o w) ≡ length (words_of_weight o w)
        length-chain_words =
            distinct_same_length (chain_words o w) (words_of_weight o w) chain_words_distinct
            (increasing_distinct (words_of_weight o w) (words_of_weight-sorted o w)) chain_words_within within_chain_words
