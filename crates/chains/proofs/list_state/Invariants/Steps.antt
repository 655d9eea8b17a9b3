-- What each call of `list_state` asks, and what they leave in the end.
-- Assumes nothing.
use Prim.Native.Nat.{ℕ, ◌+◌, ◌-◌, ◌≤◌}
use native.Mathlib.Omega.{arith}
use mathlib.Core.Path.{◌≡◌, sym, ap, ap₂, ◌∙◌, subst}
use mathlib.Core.List.{List}
use lib.ListN.{length}
use Rattle.events.specs.declared.Event.{Event}
use Rattle.rotations.specs.Model.Put.{puts}
use Rattle.bounds.specs.declared.Chain.{Chain}
use Rattle.bounds.specs.Model.Places.{state_count}
use Rattle.bounds.specs.Model.Tables.{first_of, bits_at, surveyed, opened, closed, Small, Segment}
use Rattle.chains.specs.Model.Chaining.{fitting_end, state_end, tabled, weighed, at_state, found, unbegun, state_listed, Noted, ToChain, ToListState}
use Rattle.chains.proofs.Unfinished.{unbegun_unfinished}
use Rattle.chains.proofs.States.{state_noted, state_small, tabled_small, state_ready, bits_at_state, joins_at_state}

-- where the state's events begin, and where those end that fit
pub record Bounds (table : List Event) (work : List ℕ) (i : ℕ) : Type 0 where
  pub from : ℕ
  pub to : ℕ
  pub is_from : from ≡ first_of work i
  pub is_to : to ≡ state_end table i work

module _ (table : List Event) (work : List ℕ) (i : ℕ) {f l bits t : ℕ} (is_f : f ≡ first_of work i) (is-l : l ≡ first_of work (i + 1))
    (is-bits : bits ≡ bits_at work) (is : t ≡ fitting_end table bits l (l - f) f) where
  pub ends_at : t ≡ state_end table i work
  unfolding state_end
  ends_at =
      is ∙ ap₂ (λ (x y : ℕ). fitting_end table x y (y - f) f) is-bits is-l
      ∙ ap (λ (x : ℕ). fitting_end table (bits_at work) (first_of work (i + 1)) (first_of work (i + 1) - x) x) is_f

  abbrev pub bounds_are : Bounds table work i
  bounds_are = record { from = f; to = t; is_from = is_f; is_to = ends_at }

module _ {table : List Event} {work paths : List ℕ} {at i first w : ℕ} (ask : ToListState table work paths at i first w) where
  pub asks_fitting : {f l : ℕ} → f ≡ first_of work i → l ≡ first_of work (i + 1) → (l ≤ length table) × ((f ≤ l) × Segment table f l)
  asks_fitting is_f is-l =
      let few = ask.state_small in
      let rises = ask.indexed.rises i (i + 1) (omega arith) (omega arith) in
      let to_last = ask.indexed.rises (i + 1) state_count (omega arith) (omega arith) in
      let inside = ask.indexed.inside in
      (omega arith, (omega arith, rw (is_f, is-l) (ask.indexed.segment i few)))

  module _ (b : Bounds table work i) where
    pub asks_survey : Noted table b.from b.to
    asks_survey = rw (b.is_from, b.is_to) (state_noted ask.indexed i ask.state_small)

    module _ {us vs : List ℕ} (is_us : us ≡ opened b.to work)
        (is-vs : vs ≡ surveyed table (b.to - b.from) b.from us) where
      noted_is : vs ≡ surveyed table (state_end table i work - first_of work i) (first_of work i) (opened (state_end table i work) work)
      noted_is =
          is-vs ∙ ap₂ (λ (x : ℕ) (zs : List ℕ). surveyed table (b.to - x) x zs) b.is_from is_us
          ∙ ap (λ (x : ℕ). surveyed table (x - first_of work i) (first_of work i) (opened x work)) b.is_to

      pub asks_close : Small vs
      asks_close = subst Small (sym noted_is) (state_small ask.indexed i ask.state_small)

      module _ {cs : List ℕ} (is-cs : cs ≡ closed b.from vs) where
        closed_is : cs ≡ tabled table i work
        unfolding tabled
        closed_is = is-cs ∙ ap₂ closed b.is_from noted_is

        pub asks_weigh : Small cs
        asks_weigh = subst Small (sym closed_is) (tabled_small ask.indexed i ask.state_small)

        pub weighed_is_state : {ws : List ℕ} → ws ≡ weighed table b.from b.to cs → ws ≡ at_state table i work
        unfolding at_state
        weighed_is_state is =
            is ∙ ap₂ (λ (x y : ℕ). weighed table x y cs) b.is_from b.is_to
            ∙ ap (weighed table (first_of work i) (state_end table i work)) closed_is

  module _ {ws : List ℕ} (is-ws : ws ≡ at_state table i work) where
    pub asks_unbegun : Small ws
    asks_unbegun = subst Small (sym is-ws) (state_ready ask.indexed i ask.state_small).small

    bits_are : bits_at ws ≡ bits_at work
    bits_are = ap bits_at is-ws ∙ bits_at_state ask.indexed i ask.state_small

    module _ {begun : Chain} (is-begun : begun ≡ unbegun (bits_at ws) first w) where
      pub asks_chain : ToChain table ws paths at begun
      asks_chain =
          let same = bits_are in
          let some = ask.indexed.some_bits in
          let light = ask.light in
          record {
            joins = rw is-ws (joins_at_state ask.indexed i ask.state_small);
            unfinished = rw is-begun (unbegun_unfinished (bits_at ws) first w (omega (arith, same, some))
                (λ turned. let few = ask.short_to_turn turned in omega (arith, same, few)) (omega (arith, light)));
            near = ask.near;
          }

      pub listed_state : {ls : List ℕ} {r : ℕ} → (ls, r) ≡ puts (found table ws begun) (paths, at)
          → (ws, (ls, r)) ≡ state_listed table first w i work (paths, at)
      listed_state e =
          let whole : begun ≡ unbegun (bits_at work) first w = is-begun ∙ ap (λ (N : ℕ). unbegun N first w) bits_are in
          ap₂ (λ (x : List ℕ) (y : List ℕ × ℕ). (x, y)) is-ws
          (e ∙ ap₂ (λ (zs : List ℕ) (y : Chain). puts (found table zs y) (paths, at)) is-ws whole)
