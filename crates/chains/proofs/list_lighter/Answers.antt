-- A state that is known to have no word so light is passed over; else its words are listed, and what a word of it weighs at least is kept.
use Prim.Native.Nat.{ℕ, ◌<◌, ◌≤◌}
use mathlib.Core.Path.{◌≡◌, sym, ap, ◌∙◌, subst}
use mathlib.Core.Bool.{Bool, cond}
use mathlib.Core.List.{List}
use borrow.Author.Tests.{lt-ltb, le-ltb}
use Rattle.events.specs.declared.Event.{Event}
use Rattle.rotations.specs.Model.Put.{puts}
use Rattle.rotations.proofs.Puts.{puts_none}
use Rattle.bounds.specs.Model.Tables.{bits_at, whole_at, whole_kept, Small}
use Rattle.chains.specs.Model.Chaining.{at_state, after_state, found, unbegun, state_listed, lighter_listed, ToListState}
use Rattle.chains.proofs.States.{state_ready, passed_none}
use Rattle.chains.proofs.list_lighter.Goals as goal

module _ {table : List Event} {work paths : List ℕ} {at i first w : ℕ} (ask : ToListState table work paths at i first w) where
  abbrev either : Bool → List ℕ
  either b = cond b work (whole_kept i (at_state table i work))

  passed : {whole : ℕ} → whole ≡ whole_at work i → w < whole → (work, (paths, at)) ≡ lighter_listed table first w i work (paths, at)
  unfolding after_state
  passed is less =
      let light : w < whole_at work i = subst (λ (x : ℕ). w < x) is less in
      ap (λ (us : List ℕ). (us, (paths, at))) (sym (ap either (lt-ltb w (whole_at work i) light)))
      ∙ ap (λ (s : List ℕ × ℕ). (after_state table w i work, s))
      (sym (ap (λ (us : List ℕ). puts us (paths, at)) (passed_none ask.indexed i ask.state_small w light first) ∙ puts_none (paths, at)))

  asks-keep : {us ls : List ℕ} {r : ℕ} → (us, (ls, r)) ≡ state_listed table first w i work (paths, at) → Small us
  asks-keep turn = subst Small (sym (ap (λ (y : List ℕ × (List ℕ × ℕ)). y.0) turn)) (state_ready ask.indexed i ask.state_small).small

  listed : {whole : ℕ} → whole ≡ whole_at work i → whole ≤ w → {us ls zs : List ℕ} {r : ℕ}
      → (us, (ls, r)) ≡ state_listed table first w i work (paths, at) → zs ≡ whole_kept i us → (zs, (ls, r)) ≡ lighter_listed table first w i work (paths, at)
  unfolding after_state
  listed is heavy {us} {ls} {zs} {r} turn kept =
      ap (λ (x : List ℕ). (x, (ls, r))) kept ∙ ap (λ (y : List ℕ × (List ℕ × ℕ)). (whole_kept i y.0, y.1)) turn
      ∙ ap (λ (x : List ℕ). (x, puts (found table (at_state table i work) (unbegun (bits_at work) first w)) (paths, at)))
      (sym (ap either (le-ltb w (whole_at work i) (subst (λ (x : ℕ). x ≤ w) is heavy))))

pub returns-then-w-whole : goal.returns-then-w-whole
returns-then-w-whole c = passed c.requires c.whole_of-whole.ensures c.if-w-whole.true

pub keep_whole-requires : goal.keep_whole-requires
keep_whole-requires c = (asks-keep c.requires c.list_state-next.ensures, c.requires.state_small)

pub returns : goal.returns
returns c = listed c.requires c.whole_of-whole.ensures c.if-w-whole.false c.list_state-next.ensures c.keep_whole.ensures
