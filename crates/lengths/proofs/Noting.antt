-- The loop over the shorter lengths: what holds when some of them are listed, the shortest first.
-- Assumes nothing.
use Prim.Native.Nat.{ℕ, zero, suc, ◌+◌, ◌≤◌, ◌<◌}
use native.Mathlib.Omega.{arith}
use mathlib.Core.Path.{◌≡◌, sym, ap, ◌∙◌, subst}
use mathlib.Core.Logic.{inl, inr}
use mathlib.Core.List.{List, [], ◌∷◌}
use lib.ListN.{length, get_or, drop, replicate, length-drop}
use Rattle.std.proofs.Common.{Ok, Err}
use Rattle.std.proofs.lemmas.List.{drop_more, drop_all}
use Rattle.lists.specs.Lists.{cleared}
use Rattle.order.specs.Order.{Order, with_length}
use Rattle.order.specs.declared.refusal.Refusal.{Refusal}
use Rattle.events.specs.declared.Event.{Event}
use Rattle.paths.specs.Paths.{paths, path_room}
use Rattle.filling.specs.Model.Filling.{ToFill}
use Rattle.narrowing.specs.declared.Firsts.{Firsts}
use Rattle.narrowing.specs.Model.Firsts.{NoFirsts, Ranked}
use Rattle.narrowing.proofs.Ranked.{ranked_none, ranked_any, ranked_more}
use Rattle.lengths.specs.Shorter.{for_each}
use Rattle.lengths.specs.Model.Noted.{AllFit, OneTooMany, ToListNext, ListedNext, ToListShorter, ListedShorter}
use Rattle.lengths.proofs.Listed.{divided_left}

cleared_as : (l m : List ℕ) → length l ≡ length m → cleared 0 l ≡ cleared 0 m
unfolding cleared
cleared_as l m e = ap (λ (n : ℕ). replicate n 0) e

-- the paths of one of the lengths do not fit
one_too_many : (o : Order) (np : ℕ) (Ns : List ℕ) (k : ℕ) → k < length Ns → path_room np < length (paths (with_length (get_or Ns k 0) o)) → OneTooMany np (for_each Ns o)
unfolding OneTooMany for_each
one_too_many o np [] k h past = absurd (omega (arith, h))
one_too_many o np (N ∷ Ns) zero h past = inl past
one_too_many o np (N ∷ Ns) (suc k) h past = inr (one_too_many o np Ns k (omega (arith, h)) past)

module _ (o : Order) (Ns table work : List ℕ) where
  -- all but the first `left` are listed
  pub record Stands (left : ℕ) (f : Firsts) (us : List ℕ) : Type 0 where
    pub within : left ≤ length Ns
    pub fit : AllFit (length table) (for_each (drop left Ns) o)
    pub ranked : Ranked o (drop left Ns) f
    pub zeros : us ≡ cleared 0 work

  pub begun : {left : ℕ} → left ≡ length Ns → {f : Firsts} → NoFirsts f → work ≡ cleared 0 work → Stands left f work
  unfolding for_each AllFit
  begun {left} e {f} empty zeros =
      let none : [] ≡ drop left Ns = sym (drop_all left Ns (omega arith)) in
      record {
        within = omega arith;
        fit = subst (λ (l : List ℕ). AllFit (length table) (for_each l o)) none tt;
        ranked = subst (λ (l : List ℕ). Ranked o l f) none (ranked_none o empty);
        zeros = zeros;
      }

  pub ended : {left : ℕ} → left ≡ 0 → {f : Firsts} {us : List ℕ} → Stands left f us → ListedShorter o Ns (Ok f) table work us
  ended e {f} stands = record {
    past = tt;
    inside = (subst (λ (i : ℕ). AllFit (length table) (for_each (drop i Ns) o)) e stands.fit, subst (λ (i : ℕ). Ranked o (drop i Ns) f) e stands.ranked);
    zeros = stands.zeros;
  }

-- the next one, of length Ns[k]
module _ {o : Order} {Ns : List ℕ} {es : List Event} {table plain work : List ℕ} (asked : ToListShorter o Ns es plain work)
    {left : ℕ} {f : Firsts} {us : List ℕ} (stands : Stands o Ns table work left f us) (k : ℕ) (more : left ≡ k + 1) where
  abbrev np : ℕ
  np = length table

  abbrev N : ℕ
  N = get_or Ns k 0

  abbrev o' : Order
  o' = with_length N o

  is-one : k < length Ns
  is-one = let h = stands.within in omega arith

  may : ToFill o' es plain work
  may = asked.each k is-one

  pub to_next : (q : Order) → q ≡ o' → (ms : List ℕ) → length ms ≡ length plain → length us ≡ length work → ToListNext q f es ms us
  unfolding with_length
  to_next q e ms same_ms same_us =
      let fill = may in
      subst (λ (y : Order). ToListNext y f es ms us) (sym e) (record {
        fill = record {
          order = fill.order;
          from = fill.from;
          all = fill.all;
          counts = rw same_ms fill.counts;
          wide = rw same_us fill.wide;
          zeros = stands.zeros ∙ cleared_as work us (sym same_us);
        };
        degree = asked.degree (let h = is-one in omega arith);
        ranked = (drop left Ns, ranked_any o N stands.ranked, (let h = asked.few in omega (arith, length-drop left Ns)));
      })

  more_listed : N ∷ drop left Ns ≡ drop k Ns
  more_listed = ap (λ (i : ℕ). N ∷ drop i Ns) more ∙ sym (drop_more Ns k 0 is-one)

  room_as : (ls : List ℕ) → length ls ≡ np → path_room (length ls) ≡ path_room np
  room_as ls same_ls = ap path_room same_ls

  module _ (q : Order) (e : q ≡ o') {ls ls' ms ms' us' : List ℕ} (same_ls : length ls ≡ np) (same_us : length us ≡ length work) where
    pub after : (rest : ℕ) → rest ≡ k → (g : Firsts) → ListedNext q f (Ok g) ls ls' ms ms' us us' → Stands o Ns table work rest g us'
    unfolding AllFit for_each with_length
    after rest is g listed₀ =
        let listed = subst (λ (y : Order). ListedNext y f (Ok g) ls ls' ms ms' us us') e listed₀ in
        let (_, there, added) = listed.inside in
        let all : N ∷ drop left Ns ≡ drop rest Ns = more_listed ∙ ap (λ (i : ℕ). drop i Ns) (sym is) in
        record {
          within = (let h = is-one in omega arith);
          fit = subst (λ (l : List ℕ). AllFit np (for_each l o)) all (subst (λ (i : ℕ). length (paths o') ≤ i) (room_as ls same_ls) there.fits, stands.fit);
          ranked = subst (λ (l : List ℕ). Ranked o l g) all (ranked_more o stands.ranked (divided_left o' may.order.code there) added);
          zeros = listed.zeros ∙ cleared_as us work same_us;
        }

    -- its paths do not fit
    pub stopped : (r : Refusal) → ListedNext q f (Err r) ls ls' ms ms' us us' → ListedShorter o Ns (Err r) table work us'
    stopped r listed₀ =
        let listed = subst (λ (y : Order). ListedNext y f (Err r) ls ls' ms ms' us us') e listed₀ in
        record {
          past = (listed.past.0, one_too_many o np Ns k is-one (subst (λ (i : ℕ). i < length (paths o')) (room_as ls same_ls) listed.past.1));
          inside = tt;
          zeros = listed.zeros ∙ cleared_as us work same_us;
        }
