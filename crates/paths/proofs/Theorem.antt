-- The theorem of the source document: every word of weight below the threshold is, in exactly one way, a chain of error events of its smallest state,
-- begun so many steps before place 0 that place 0 lies inside the first event; on a terminated link, of state 0, begun at place 0.
-- The threshold is a parameter of the order: a word of any weight is so made of the events below a threshold above its weight.
-- Assumes nothing.
use Prim.Native.Nat.{ℕ, ◌^◌, ◌≤◌, ◌<◌}
use native.Mathlib.Nat.{lt_of_lt_of_le}
use native.Mathlib.Omega.{arith}
use mathlib.Core.Path.{◌≡◌}
use Rattle.code.specs.Links.{steps_of}
use Rattle.code.specs.Weight.{weight}
use Rattle.code.proofs.Links.{steps_some, steps_longer, states_le, begins_of_mark}
use Rattle.code.proofs.Steps.{Fit}
use Rattle.code.proofs.Marks.{mark_least}
use Rattle.order.specs.Order.{Order}
use Rattle.events.proofs.OfState.{of_events_of_state, in_events_of_state}
use Rattle.paths.specs.Chains.{MadeOfEvents}
use Rattle.paths.proofs.Arises.{Arises, arises_state_fits, arises_marked, arises_of_link, arises_weight, arises_once_state, arises_once_turn, arises_once_chain, arises_somehow}

module _ (o : Order) (some : 0 < o.N) (longer : o.v ≤ o.N) (fit : Fit o.v o.generators) where
  pub made_of_events : (u : ℕ) → u < 2 ^ o.N → weight o u < o.d → MadeOfEvents o u
  made_of_events u fits light =
      let found = arises_somehow o some longer fit u fits light in
      let a = found.arises in
      let m = arises_marked o some longer a in
      record {
        state = found.state;
        state_fits = lt_of_lt_of_le (arises_state_fits o some longer a) (states_le o);
        smallest = mark_least o.v (steps_of o) (steps_some o some) (steps_longer o longer) m;
        back = found.turn;
        back_fits = m.inside;
        visits = m.at;
        none_between = λ t g h e. let b = m.after t g h in omega arith;
        unturned = arises_of_link o some longer a;
        chain = found.chain;
        from_table = λ e n. in_events_of_state o found.state (a.of_state e n);
        steps_are = a.steps_are;
        place_zero_inside = a.inside;
        word_is = a.word_is;
        weight_is = arises_weight o some longer a fit;
      }

  -- ---- in one way only: already the chain, its length, place 0 inside the first event, and the word say which

  module _ {u : ℕ} (p q : MadeOfEvents o u) where
    made : (x : MadeOfEvents o u) → Arises o x.state x.back x.chain u
    made x = record {
      of_state = λ e m. of_events_of_state o x.state (begins_of_mark o x.state_fits (λ t. (x.unturned t).0)) (x.from_table e m);
      steps_are = x.steps_are;
      inside = x.place_zero_inside;
      unturned = λ t. (x.unturned t).1;
      word_is = x.word_is;
    }

    pub one_state : p.state ≡ q.state
    one_state = arises_once_state o some longer (made p) (made q)

    pub one_back : p.back ≡ q.back
    one_back = arises_once_turn o some longer (made p) (made q)

    pub one_chain : p.chain ≡ q.chain
    one_chain = arises_once_chain o some longer (made p) (made q)
