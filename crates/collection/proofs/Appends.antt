-- Laws of events appended to the table: how the events met from a node are appended, that the position stays at most one past the table, and what is
-- there at the end: the list and zero records after it, or a position past the table.
-- Assumes nothing.
use Prim.Native.Nat.{ℕ, zero, suc, ◌+◌, ◌-◌, ◌≤◌, ◌<◌}
use native.Mathlib.Omega.{arith}
use mathlib.Core.Path.{◌≡◌, refl, sym, ap, ◌∙◌, subst}
use mathlib.Core.Logic.{◌⊎◌, inl, inr, ⊎_elim}
use mathlib.Core.Bool.{Bool, true, false, not, cond, ◌&&◌}
use mathlib.Core.List.{List, [], ◌∷◌, ◌++◌}
use lib.Dec.{T, ltb, eqb, lt→ltb, ltb→lt, nltb→le, eqb→eq}
use lib.ListN.{length, set, replicate, length-set, length-replicate}
use lib.Seq.{sets}
use Rattle.lists.specs.Lists.{padded}
use Rattle.lists.proofs.Stores.{sets_cleared}
use Rattle.lists.proofs.Choices.{cond_true, cond_false}
use Rattle.lists.proofs.Tests.{T_and, passes_or_fails}
use Rattle.events.specs.declared.Event.{Event}
use Rattle.collection.specs.declared.Decision.{Decision}
use Rattle.collection.specs.declared.Decision.TheVariants as D
use Rattle.collection.specs.declared.Node.{Node}
use Rattle.collection.specs.Model.Backward.{goes_on, earlier, finished, found_in, found, append, appends, decided}
use Rattle.collection.proofs.Nodes.{ltb_fails, last_before}

-- ---- one event, and several

pub append_open : (l : List Event) (at : ℕ) (e : Event) → at ≤ length l → append (l, at) e ≡ (set l at e, at + 1)
unfolding append
append_open l at e h = cond_false (ltb (length l) at) (l, at) (set l at e, at + 1) (ltb_fails (length l) at h)

pub append_full : (l : List Event) (at : ℕ) (e : Event) → length l < at → append (l, at) e ≡ (l, at)
unfolding append
append_full l at e h = cond_true (ltb (length l) at) (l, at) (set l at e, at + 1) (lt→ltb (length l) at h)

pub appends_none : (s : List Event × ℕ) → s ≡ appends [] s
unfolding appends
appends_none s = refl

pub appends_one : (l : List Event) (at : ℕ) (e : Event) → at ≤ length l → (set l at e, at + 1) ≡ appends (e ∷ []) (l, at)
unfolding appends
appends_one l at e h = sym (append_open l at e h)

pub appends-append : (xs ys : List Event) (s : List Event × ℕ) → appends ys (appends xs s) ≡ appends (xs ++ ys) s
unfolding appends
appends-append [] ys s = refl
appends-append (x ∷ xs) ys s = appends-append xs ys (append s x)

pub appends_full : (es : List Event) (l : List Event) (at : ℕ) → length l < at → (l, at) ≡ appends es (l, at)
unfolding appends
appends_full [] l at h = refl
appends_full (e ∷ es) l at h = appends_full es l at h ∙ ap (appends es) (sym (append_full l at e h))

-- ---- the length stays, and the position is at most one past it

pub record Kept (n : ℕ) (s : List Event × ℕ) : Type 0 where
  pub size : length s.0 ≡ n
  pub near : s.1 ≤ n + 1

append_kept : (n : ℕ) (s : List Event × ℕ) (e : Event) → Kept n s → Kept n (append s e)
append_kept n s e k =
    let size = k.size in
    let near = k.near in
    let set-size = length-set s.0 s.1 e in
    elim (passes_or_fails (ltb (length s.0) s.1)) [
      | inl t ↦ subst (Kept n) (sym (append_full s.0 s.1 e (ltb→lt (length s.0) s.1 t))) k
      | inr t ↦
          let h : s.1 ≤ length s.0 = nltb→le (length s.0) s.1 t in
          subst (Kept n) (sym (append_open s.0 s.1 e h)) (record { size = omega arith; near = omega arith })
    ]

pub appends_kept : (es : List Event) (n : ℕ) (s : List Event × ℕ) → Kept n s → Kept n (appends es s)
unfolding appends
appends_kept [] n s k = k
appends_kept (e ∷ es) n s k = appends_kept es n (append s e) (append_kept n s e k)

-- ---- a node

-- what a decision says of its three tests
abbrev choice : Bool → Bool → Bool → Decision
choice b g z = cond b D.Cut (cond g (cond z D.Event D.On) D.Cut)

cut_cases : (b g z : Bool) → choice b g z ≡ D.Cut → T b ⊎ T (not g)
cut_cases true g z e = inl tt
cut_cases false true true e = cc
cut_cases false true false e = cc
cut_cases false false z e = inr tt

open_node : (b g z : Bool) → (choice b g z ≡ D.Cut → ⊥) → T (not b) × T g
open_node true g z n = absurd (n refl)
open_node false true z n = (tt, tt)
open_node false false z n = absurd (n refl)

at_end : (b g z : Bool) → choice b g z ≡ D.Event → T z
at_end true g z e = cc
at_end false true true e = tt
at_end false true false e = cc
at_end false false z e = cc

not_end : (b g z : Bool) → (choice b g z ≡ D.Cut → ⊥) → (choice b g z ≡ D.Event → ⊥) → T (not z)
not_end true g z n m = absurd (n refl)
not_end false true true n m = absurd (m refl)
not_end false true false n m = tt
not_end false false z n m = absurd (n refl)

nothing_else : (b g z : Bool) → (choice b g z ≡ D.Event → ⊥) → (choice b g z ≡ D.On → ⊥) → choice b g z ≡ D.Cut
nothing_else true g z n m = refl
nothing_else false true true n m = absurd (n refl)
nothing_else false true false n m = absurd (m refl)
nothing_else false false z n m = refl

not_both : (a b : Bool) → T (not (a && b)) → T b → T (not a)
not_both true true t u = t
not_both true false t u = absurd u
not_both false b t u = tt

found-cut : (t : ℕ) (work : List ℕ) (e : Node) → T (not (goes_on work e)) → found_in t work e ≡ []
unfolding found_in
found-cut zero work e g = cond_false (goes_on work e) (finished work e ∷ []) [] g
found-cut (suc t) work e g = cond_false (goes_on work e) (found_in t work (earlier work e 0) ++ found_in t work (earlier work e 1)) [] g

found_end : (work : List ℕ) (e : Node) → T (goes_on work e) → found_in 0 work e ≡ finished work e ∷ []
unfolding found_in
found_end work e g = cond_true (goes_on work e) (finished work e ∷ []) [] g

found_more : (t : ℕ) (work : List ℕ) (e : Node) → T (goes_on work e) → found_in (suc t) work e ≡ found_in t work (earlier work e 0) ++ found_in t work (earlier work e 1)
unfolding found_in
found_more t work e g = cond_true (goes_on work e) (found_in t work (earlier work e 0) ++ found_in t work (earlier work e 1)) [] g

nonzero : (x : ℕ) → T (not (eqb x 0)) → 0 < x
nonzero zero t = absurd t
nonzero (suc x) t = omega arith

module _ (work : List ℕ) (l : List Event) (at n : ℕ) (e : Node) (same : length l ≡ n) where
  -- cut, or the table is too small already
  pub node_cut : decided work at n e ≡ D.Cut → (l, at) ≡ appends (found work e) (l, at)
  unfolding decided
  node_cut z =
      ⊎_elim (λ t. let past = ltb→lt n at t in appends_full (found work e) l at (omega arith))
      (λ g. appends_none (l, at) ∙ ap (λ (es : List Event). appends es (l, at)) (sym (found-cut e.left work e g)))
      (cut_cases (ltb n at) (goes_on work e) (eqb e.left 0) z)

  pub node_ends : (decided work at n e ≡ D.Event → ⊥) → (decided work at n e ≡ D.On → ⊥) → (l, at) ≡ appends (found work e) (l, at)
  unfolding decided
  node_ends o m = node_cut (nothing_else (ltb n at) (goes_on work e) (eqb e.left 0) o m)

  pub node_open : (decided work at n e ≡ D.Cut → ⊥) → at ≤ n
  unfolding decided
  node_open z = nltb→le n at (open_node (ltb n at) (goes_on work e) (eqb e.left 0) z).0

  pub node_end : (decided work at n e ≡ D.Cut → ⊥) → decided work at n e ≡ D.Event → (set l at (finished work e), at + 1) ≡ appends (found work e) (l, at)
  unfolding decided
  node_end z o =
      let inside = node_open z in
      let goes = (open_node (ltb n at) (goes_on work e) (eqb e.left 0) z).1 in
      let none = eqb→eq e.left 0 (at_end (ltb n at) (goes_on work e) (eqb e.left 0) o) in
      appends_one l at (finished work e) (omega arith) ∙ ap (λ (es : List Event). appends es (l, at)) (sym (ap (λ (t : ℕ). found_in t work e) none ∙ found_end work e goes))

  module _ (z : decided work at n e ≡ D.Cut → ⊥) (o : decided work at n e ≡ D.Event → ⊥) where
    pub node_longer : 0 < e.left
    unfolding decided
    node_longer = nonzero e.left (not_end (ltb n at) (goes_on work e) (eqb e.left 0) z o)

    pub node_more : appends (found work (earlier work e 1)) (appends (found work (earlier work e 0)) (l, at)) ≡ appends (found work e) (l, at)
    unfolding decided earlier
    node_more =
        let goes = (open_node (ltb n at) (goes_on work e) (eqb e.left 0) z).1 in
        let pos = node_longer in
        let more : e.left ≡ suc (e.left - 1) = omega arith in
        appends-append (found_in (e.left - 1) work (earlier work e 0)) (found_in (e.left - 1) work (earlier work e 1)) (l, at)
        ∙ ap (λ (es : List Event). appends es (l, at)) (sym (ap (λ (t : ℕ). found_in t work e) more ∙ found_more (e.left - 1) work e goes))

    -- both nodes before go on, or at most one does
    pub node_both : T (goes_on work (earlier work e 0) && goes_on work (earlier work e 1)) → appends (found work (last_before work e)) (appends (found work (earlier work e 0)) (l, at)) ≡ appends (found work e) (l, at)
    node_both t =
        let on : T (goes_on work (earlier work e 1)) = ((T_and (goes_on work (earlier work e 0)) (goes_on work (earlier work e 1))).0 t).1 in
        ap (λ (x : Node). appends (found work x) (appends (found work (earlier work e 0)) (l, at))) (cond_true (goes_on work (earlier work e 1)) (earlier work e 1) (earlier work e 0) on) ∙ node_more

    pub node_one : T (not (goes_on work (earlier work e 0) && goes_on work (earlier work e 1))) → appends (found work (last_before work e)) (l, at) ≡ appends (found work e) (l, at)
    node_one t = elim (passes_or_fails (goes_on work (earlier work e 1))) [
      | inl on ↦
          ap (λ (x : Node). appends (found work x) (l, at)) (cond_true (goes_on work (earlier work e 1)) (earlier work e 1) (earlier work e 0) on)
          ∙ ap (appends (found work (earlier work e 1))) (none_of (earlier work e 0) (l, at) (not_both (goes_on work (earlier work e 0)) (goes_on work (earlier work e 1)) t on)) ∙ node_more
      | inr cut ↦
          ap (λ (x : Node). appends (found work x) (l, at)) (cond_false (goes_on work (earlier work e 1)) (earlier work e 1) (earlier work e 0) cut)
          ∙ none_of (earlier work e 1) (appends (found work (earlier work e 0)) (l, at)) cut ∙ node_more
    ]
      where
        none_of : (x : Node) (s : List Event × ℕ) → T (not (goes_on work x)) → s ≡ appends (found work x) s
        none_of x s cut = appends_none s ∙ ap (λ (es : List Event). appends es s) (sym (found-cut x.left work x cut))

-- ---- at the end

-- enough room: all are stored, one after the other
appends_fit : (es l : List Event) (at : ℕ) → at + length es ≤ length l → appends es (l, at) ≡ (sets l at es, at + length es)
unfolding appends
appends_fit [] l at h = λ i. (l, none at i)
  where
    none : (x : ℕ) → x ≡ x + 0
    none x = omega arith
appends_fit (e ∷ es) l at h =
    let size = length-set l at e in
    let next : at + 1 ≡ suc at = omega arith in
    let more : suc at + length es ≡ at + suc (length es) = omega arith in
    ap (appends es) (append_open l at e (omega arith)) ∙ ap (λ (k : ℕ). appends es (set l at e, k)) next
    ∙ appends_fit es (set l at e) (suc at) (omega arith) ∙ (λ i. (sets (set l at e) (suc at) es, more i))

-- too little room: the position ends past the table
pub appends_past : (es l : List Event) (at : ℕ) → at ≤ length l + 1 → length l < at + length es → length l < (appends es (l, at)).1
unfolding appends
appends_past [] l at h g = omega arith
appends_past (e ∷ es) l at h g =
    let size = length-set l at e in
    elim (passes_or_fails (ltb (length l) at)) [
      | inl t ↦
          let past : length l < at = ltb→lt (length l) at t in
          subst (λ (s : List Event × ℕ). length l < s.1) (appends_full es l at past ∙ ap (appends es) (sym (append_full l at e past))) past
      | inr t ↦
          let inside : at ≤ length l = nltb→le (length l) at t in
          subst (λ (s : List Event × ℕ). length l < (appends es s).1) (sym (append_open l at e inside))
          (subst (λ (m : ℕ). m < (appends es (set l at e, at + 1)).1) size (appends_past es (set l at e) (at + 1) (omega arith) (omega arith)))
    ]

pub all_fit : (z : Event) (n : ℕ) (es : List Event) → length es ≤ n → appends es (replicate n z, 0) ≡ (padded n z es, length es)
all_fit z n es h =
    let size = length-replicate n z in
    let count : 0 + length es ≡ length es = omega arith in
    appends_fit es (replicate n z) 0 (omega arith) ∙ (λ i. (sets_cleared n z es h i, count i))

pub all_past : (z : Event) (n : ℕ) (es : List Event) → n < length es → n < (appends es (replicate n z, 0)).1
all_past z n es h =
    let size = length-replicate n z in
    subst (λ (m : ℕ). m < (appends es (replicate n z, 0)).1) size (appends_past es (replicate n z) 0 (omega arith) (omega arith))
