-- A word arises from a chain of events of i, of as many steps as the word takes, turned by less than the length of its first event; on a terminated
-- link it is not turned. Then i is the word's smallest state, the word has N bits, and it weighs what the events weigh (`arises_marked`, `arises_fits`,
-- `arises_weight`). Every word of N bits of weight below the threshold arises (`arises_somehow`), and in one way only (`arises_once_state`,
-- `arises_once_turn`, `arises_once_chain`).
-- Assumes nothing.
use Prim.Native.Nat.{ℕ, ◌-◌, ◌^◌, ◌≤◌, ◌<◌}
use native.Mathlib.Nat.{lt_of_lt_of_le}
use native.Mathlib.Omega.{arith}
use mathlib.Core.Path.{◌≡◌, refl, sym, ap, ◌∙◌, subst}
use mathlib.Core.List.Memᴰ
use mathlib.Core.List.{List, [], ◌∷◌}
use mathlib.Core.Bool.{true}
use Rattle.code.specs.Links.{terminated, steps_of, event_states}
use Rattle.code.specs.Weight.{weight}
use Rattle.code.specs.Model.Cyclic.{cyclic_weight}
use Rattle.code.specs.Trellis.{rotate, walk_weight}
use Rattle.code.proofs.Walks.{closed⇔first_state}
use Rattle.code.proofs.Steps.{Fit, walk_weight-word}
use Rattle.code.proofs.Rotation.{rotate_lt, weight-rotate}
use Rattle.code.proofs.Links.{steps_some, steps_longer, states_le, wide_word, weight_is_cyclic, MarkOfLink, mark_of_word, word_of_mark, begins_of_mark, zero_begins}
use Rattle.code.proofs.Meets.{Meets}
use Rattle.code.proofs.Loops.{Loop}
use Rattle.code.proofs.Marks.{Marked, mark_exists, mark_unique_state, mark_unique_turn, marked_turn, mark_state_fits, mark_loop, mark_before_return, mark_turned_back, turn_injective}
use Rattle.order.specs.Order.{Order}
use Rattle.events.specs.Events.{ErrorEvent}
use Rattle.paths.specs.Chains.{steps, cost, input_number, first_length}
use Rattle.paths.proofs.ChainLoops.{ChainOf, ChainFor, chain_loop, chain_meets, chain_weight, chain_unique, loop-chain}

-- u is the chain c of events of i, turned by r, which is less than the first event's length
pub record Arises (o : Order) (i r : ℕ) (c : List ErrorEvent) (u : ℕ) : Type 0 where
  pub of_state : ChainOf o i c
  pub steps_are : steps c ≡ steps_of o
  pub inside : r < first_length c
  pub unturned : terminated o ≡ true → r ≡ 0
  pub word_is : rotate (steps_of o) r (input_number c) ≡ u

-- the three parts of how a word arises
pub record Origin (o : Order) (u : ℕ) : Type 0 where
  pub state : ℕ
  pub turn : ℕ
  pub chain : List ErrorEvent
  pub arises : Arises o state turn chain u

-- what the first event of a chain says
record First (o : Order) (i : ℕ) (c : List ErrorEvent) : Type 0 where
  state_fits : i < event_states o
  meets : Meets o.v i (first_length c) i (input_number c)
  within : first_length c ≤ steps c

chain_first : (o : Order) (i r : ℕ) (c : List ErrorEvent) → ChainOf o i c → r < first_length c → First o i c
unfolding first_length steps
chain_first o i r [] h l = absurd (omega arith)
chain_first o i r (e ∷ c) h l =
    let first = h e (Memᴰ.head refl) in
    record {
      state_fits = subst (λ (x : ℕ). x < event_states o) first.state_is first.event.state_fits;
      meets = chain_meets o i e c h;
      within = omega arith;
    }

module _ (o : Order) (some_bits : 0 < o.N) (memory : o.v ≤ o.N) where
  some : 0 < steps_of o
  some = steps_some o some_bits

  longer : o.v ≤ steps_of o
  longer = steps_longer o memory

  module _ {i r u : ℕ} {c : List ErrorEvent} (a : Arises o i r c u) where
    arises_first : First o i c
    arises_first = chain_first o i r c a.of_state a.inside

    pub arises_state_fits : i < event_states o
    arises_state_fits = arises_first.state_fits

    arises_state : i < 2 ^ o.v
    arises_state = lt_of_lt_of_le arises_state_fits (states_le o)

    arises_loop : Loop o.v i (steps_of o) (input_number c)
    arises_loop = subst (λ (k : ℕ). Loop o.v i k (input_number c)) a.steps_are (chain_loop o i c a.of_state)

    pub arises_marked : Marked o.v (steps_of o) u i r
    arises_marked =
        let first = arises_first in
        let short = first.within in
        let all = a.steps_are in
        subst (λ (x : ℕ). Marked o.v (steps_of o) x i r) a.word_is
        (marked_turn o.v (steps_of o) some longer arises_state arises_loop first.meets r a.inside (omega arith))

    -- on a terminated link it is the chain of state 0, begun at place 0
    pub arises_of_link : MarkOfLink o i r
    arises_of_link t = (zero_begins o arises_state_fits t, a.unturned t)

    pub arises_fits : u < 2 ^ o.N
    arises_fits =
        word_of_mark o some_bits arises_marked (subst (λ (x : ℕ). x < 2 ^ steps_of o) a.word_is (rotate_lt (steps_of o) r (input_number c))) arises_of_link

    -- a loop from i that weighs what the word weighs
    pub arises_weight : Fit o.v o.generators → weight o u ≡ cost c
    arises_weight fit =
        let first_state_lem = (closed⇔first_state o.v (steps_of o) (input_number c) i longer arises_state).0 arises_loop.closes in
        weight_is_cyclic o u arises_fits fit
        ∙ ap (cyclic_weight (steps_of o) o.generators) (sym a.word_is)
        ∙ weight-rotate o.generators o.v (steps_of o) r (input_number c) some longer arises_loop.fits fit
        ∙ sym (walk_weight-word o.generators o.v (steps_of o) (input_number c) some longer arises_loop.fits fit)
        ∙ ap (λ (s : ℕ). walk_weight o.generators o.v (steps_of o) s (input_number c)) (sym first_state_lem)
        ∙ ap (λ (k : ℕ). walk_weight o.generators o.v k i (input_number c)) (sym a.steps_are)
        ∙ chain_weight o i c a.of_state

  -- ---- in one way only

  module _ {i r i' r' u : ℕ} {c c' : List ErrorEvent} (a : Arises o i r c u) (a' : Arises o i' r' c' u) where
    pub arises_once_state : i ≡ i'
    arises_once_state = mark_unique_state o.v (steps_of o) u (arises_marked a) (arises_marked a')

    pub arises_once_turn : r ≡ r'
    arises_once_turn = mark_unique_turn o.v (steps_of o) u (arises_marked a) (arises_marked a')

    arises_once_number : input_number c ≡ input_number c'
    arises_once_number =
        let inside = (arises_marked a).inside in
        turn_injective o.v (steps_of o) some longer r (input_number c) (input_number c') (omega arith) (arises_loop a).fits (arises_loop a').fits
        (a.word_is ∙ sym a'.word_is ∙ ap (λ (x : ℕ). rotate (steps_of o) x (input_number c')) (sym arises_once_turn))

    pub arises_once_chain : c ≡ c'
    arises_once_chain =
        chain_unique o i c c' a.of_state (subst (λ (x : ℕ). ChainOf o x c') (sym arises_once_state) a'.of_state)
        (a.steps_are ∙ sym a'.steps_are) arises_once_number

  -- ---- somehow

  -- a chain of a loop that comes back after place r
  begins_late : (i r : ℕ) (c : List ErrorEvent) → ChainOf o i c → steps c ≡ steps_of o
      → ((l : ℕ) → l ≤ steps_of o → Meets o.v i l i (input_number c) → r < l) → r < first_length c
  unfolding first_length steps
  begins_late i r [] h s late = absurd (omega (arith, some))
  begins_late i r (e ∷ c) h s late = late e.length (omega arith) (chain_meets o i e c h)

  module _ (fit : Fit o.v o.generators) (u : ℕ) (short : u < 2 ^ o.N) (light : weight o u < o.d) where
    fits : u < 2 ^ steps_of o
    fits = wide_word o u short

    module _ {i r : ℕ} (m : Marked o.v (steps_of o) u i r) where
      abbrev begun : ℕ
      begun = rotate (steps_of o) (steps_of o - r) u

      loop : Loop o.v i (steps_of o) begun
      loop = mark_loop o.v (steps_of o) some longer fits m

      state_fits : i < 2 ^ o.v
      state_fits = mark_state_fits o.v (steps_of o) some longer fits m

      of_link : MarkOfLink o i r
      of_link = mark_of_word o some_bits m short

      begins : i < event_states o
      begins = begins_of_mark o state_fits (λ t. (of_link t).0)

      begun_light : walk_weight o.generators o.v (steps_of o) i begun < o.d
      begun_light =
          let first_state_lem = (closed⇔first_state o.v (steps_of o) begun i longer state_fits).0 loop.closes in
          let same =
          ap (λ (s : ℕ). walk_weight o.generators o.v (steps_of o) s begun) first_state_lem
          ∙ walk_weight-word o.generators o.v (steps_of o) begun some longer loop.fits fit
          ∙ weight-rotate o.generators o.v (steps_of o) (steps_of o - r) u some longer fits fit ∙ sym (weight_is_cyclic o u short fit) in
          subst (λ (w : ℕ). w < o.d) (sym same) light

      origin : ChainFor o i (steps_of o) begun → Origin o u
      origin c = record {
        state = i;
        turn = r;
        chain = c.events;
        arises = record {
          of_state = c.of_state;
          steps_are = c.steps_are;
          inside = begins_late i r c.events c.of_state c.steps_are
              (λ l h k. mark_before_return o.v (steps_of o) some longer fits m l h (subst (Meets o.v i l i) c.number_is k));
          unturned = λ t. (of_link t).1;
          word_is = ap (rotate (steps_of o) r) c.number_is ∙ mark_turned_back o.v (steps_of o) some longer fits m;
        };
      }

    pub arises_somehow : Origin o u
    arises_somehow =
        let found = mark_exists o.v (steps_of o) u some in
        let m = found.2 in
        origin m (loop-chain o found.0 (begins m) (steps_of o) (begun m) (omega arith) (loop m) (begun_light m))
