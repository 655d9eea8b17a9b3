-- Parameters in hand, a walk's own or those of a call, each with what makes it fit, and what the contract of a function with these parameters binds.
--     Par              `val x`, `shr W s l e`, `mut s l e`: a value; a slice at the list l, which is as long as on entry. `the`, `all_of`, `num`, `res`
--     at_loan, at_share    a slice at a loan of its own, `&mut` or `&`
--     pars             those that a walk has on entry, by their names
--     Bound, own_bound, bound  what a contract binds with them: of the walk's own parameters, of a callee's
--     Lefts, Sames             the lists that are left of its `&mut` slices, and that they are as long as before. `as_lent`, `as_long`: all are as they were lent
-- Assumes `Logic`.
use mathlib.Core.Path.{◌≡◌, refl, ap, subst}
use mathlib.Core.List.{List, [], ◌∷◌, ◌++◌}
use Prim.Native.Nat.{ℕ, suc, ◌^◌, ◌<◌}
use lib.Dec.{T as Holds}
use lib.ListN.{length}
use seplogic.Ra.Ura.{Ura}
use base.Fraction.{full_share}
use mir.Syntax.{Ty, named}
use mir.Val.{Val, WT, has_ty}
use base.Logic.{SProp, ent, sep, ex}
use base.Fml.{GName, Fml, ftrue, fsep, feq, fbor}
use types.Logic.{Logic, sem}
use contract.Monad.{fact}
use contract.Lifetimes.{Lfts, Shares, toks}
use types.Kit.{mean}
use denote.RattleType.{RattleType, RowLaws}
use denote.Laws.{Typed}
use denote.Ref.{Bor, MutBor}
use denote.Slice.{MutSlice, ShrSlice, finally}
use denote.Lend.{Held}
use Rattle.walks.proofs.Hold.{ref, shr_ref, MutOwn, ShrOwn, Free}
use Rattle.walks.proofs.Loans as L
use Rattle.walks.proofs.Loans.{Lists, Loans, Made, Same, Sized, owned, tokens, Takes, Gives}
use Rattle.walks.proofs.Types.{Plain, Has, Value, number, Slice, slice_of, Kind, by_value, shared, lent, Names}

-- ---- parameters in hand
pub data Par : Type 2 where
  val : {P : Plain} → Value P → Par
  shr : {R : RattleType} → RowLaws R → (s : Slice R) (l : List R.Denot) → length l ≡ length s.was → Par
  mut : {R : RattleType} (s : Slice R) (l : List R.Denot) → length l ≡ length s.was → Par

-- a slice as it was on entry
abbrev pub the : {R : RattleType} → RowLaws R → Slice R → Par
the W s = shr W s s.was refl

abbrev pub all_of : {R : RattleType} → Slice R → Par
all_of s = mut s s.was refl

-- a slice at a loan of its own: a lifetime and a name
abbrev pub at_loan : {R : RattleType} → Slice R → ℕ × GName → Slice R
at_loan s x = record { lft = x.0 ∷ []; share = full_share; block = s.block; off = s.off; name = x.1; was = s.was; room = s.room }

-- a slice that is shared for a lifetime of its own
abbrev pub at_share : {R : RattleType} → Slice R → ℕ → Slice R
at_share s ν = at_loan s (ν, s.name)

-- a walk's own, by their names
abbrev pub pars : (ks : List Kind) → Names ks → List Par
pars [] e = []
pars (by_value P ∷ ks) e = val e.0 ∷ pars ks e.1
pars (shared R W ∷ ks) e = the W e.0 ∷ pars ks e.1
pars (lent R ∷ ks) e = all_of e.0 ∷ pars ks e.1

-- a number, a result
abbrev pub num : (x : ℕ) → x < 2 ^ 64 → Par
num x ok = val {P = number} record { it = x; is = (refl, ok) }

abbrev pub res : (P : Plain) (x : P.row.Denot) → Has P x → Par
res P x is = val {P = P} record { it = x; is = is }

abbrev pub olds : List Par → List L.Par
olds [] = []
olds (val {P} x ∷ ps) = L.val (P.row.own_val x.it (P.val x.it ∷ [])) ∷ olds ps
olds (shr {R} W s l e ∷ ps) = L.shr R s.lft s.share s.block s.off (length s.was) l ∷ olds ps
olds (mut {R} s l e ∷ ps) = L.mut R s.lft s.share s.block s.off (length s.was) s.name l ∷ olds ps

abbrev pub values : List Par → List Val
values [] = []
values (val {P} x ∷ ps) = P.val x.it ∷ values ps
values (shr {R} W s l e ∷ ps) = slice_of s ∷ values ps
values (mut {R} s l e ∷ ps) = slice_of s ∷ values ps

pub sized : (ps : List Par) → Sized (olds ps)
sized [] = tt
sized (val {P} x ∷ ps) = sized ps
sized (shr {R} W s l e ∷ ps) = (W, sized ps)
sized (mut {R} s l e ∷ ps) = ((e, s.room), sized ps)

-- each machine value is of its type
abbrev pub Fits : List Par → Type 0
Fits [] = Unit {0}
Fits (val {P} x ∷ ps) = (Holds (has_ty P.ty (P.val x.it)) × WT (P.val x.it)) × Fits ps
Fits (shr {R} W s l e ∷ ps) = (Unit {0} × WT (slice_of s)) × Fits ps
Fits (mut {R} s l e ∷ ps) = (Unit {0} × WT (slice_of s)) × Fits ps

module _ {M : Type 1} {𝓤 : Ura M} (𝓛 : Logic 𝓤) where
  pub typed : (P : Plain) (x : P.row.Denot) → Has P x → Holds (has_ty P.ty (P.val x)) × WT (P.val x)
  typed P x is = (subst (λ (τs : List Ty). Typed τs (P.val x ∷ [])) P.one ((P.lawful 𝓛).typed x (P.val x ∷ []) is)).0

  pub made_of : (P : Plain) (x : P.row.Denot) → Has P x → Free 𝓛 (P.row.own_val x (P.val x ∷ []))
  made_of P x is = record { made = P.makes 𝓛 x (P.val x ∷ []) is }

  pub slice_fits : {R : RattleType} (s : Slice R) → Unit {0} × WT (slice_of s)
  slice_fits s = (tt, (tt, (record { fits = s.room.0 }, tt)))

  pub fits : (ps : List Par) → Fits ps
  fits [] = tt
  fits (val {P} x ∷ ps) = (typed P x.it x.is, fits ps)
  fits (shr {R} W s l e ∷ ps) = (slice_fits s, fits ps)
  fits (mut {R} s l e ∷ ps) = (slice_fits s, fits ps)

  pub made : (ps : List Par) → Made 𝓛 (olds ps)
  made [] = tt
  made (val {P} x ∷ ps) = (made_of P x.it x.is, made ps)
  made (shr {R} W s l e ∷ ps) = made ps
  made (mut {R} s l e ∷ ps) = made ps

  pub made_after : (ps : List Par) (z : Lists (olds ps)) → Made 𝓛 (L.after (olds ps) z)
  made_after [] z = tt
  made_after (val {P} x ∷ ps) z = (made_of P x.it x.is, made_after ps z.1)
  made_after (shr {R} W s l e ∷ ps) z = made_after ps z.1
  made_after (mut {R} s l e ∷ ps) z = made_after ps z.1

-- ---- what a contract binds
abbrev pub loaned : List Par → ℕ
loaned [] = 0
loaned (val {P} x ∷ ps) = loaned ps
loaned (shr {R} W s l e ∷ ps) = suc (loaned ps)
loaned (mut {R} s l e ∷ ps) = suc (loaned ps)

abbrev pub Denoted : List Par → Type 0
Denoted [] = Unit {0}
Denoted (val {P} x ∷ ps) = P.row.Denot × Denoted ps
Denoted (shr {R} W s l e ∷ ps) = Bor (List R.Denot) × Denoted ps
Denoted (mut {R} s l e ∷ ps) = MutBor (List R.Denot) × Denoted ps

abbrev pub Valued : List Par → Type 0
Valued [] = Unit {0}
Valued (val {P} x ∷ ps) = List Val × Valued ps
Valued (shr {R} W s l e ∷ ps) = List Val × Valued ps
Valued (mut {R} s l e ∷ ps) = List Val × Valued ps

abbrev valued : (ps : List Par) → Valued ps
valued [] = tt
valued (val {P} x ∷ ps) = (P.val x.it ∷ [], valued ps)
valued (shr {R} W s l e ∷ ps) = (slice_of s ∷ [], valued ps)
valued (mut {R} s l e ∷ ps) = (slice_of s ∷ [], valued ps)

abbrev pub Binding : List Par → Type 0
Binding ps = Lfts (loaned ps) × Shares (loaned ps) × Unit {0} × Denoted ps × Valued ps

-- a contract that binds nothing more
abbrev pub Bound : List Par → Type 0
Bound ps = Binding ps × Unit {0}

-- its own parameters
abbrev own_lfts : (ps : List Par) → Lfts (loaned ps)
own_lfts [] = tt
own_lfts (val {P} x ∷ ps) = own_lfts ps
own_lfts (shr {R} W s l e ∷ ps) = (s.lft, own_lfts ps)
own_lfts (mut {R} s l e ∷ ps) = (s.lft, own_lfts ps)

abbrev own_shares : (ps : List Par) → Shares (loaned ps)
own_shares [] = tt
own_shares (val {P} x ∷ ps) = own_shares ps
own_shares (shr {R} W s l e ∷ ps) = (s.share, own_shares ps)
own_shares (mut {R} s l e ∷ ps) = (s.share, own_shares ps)

abbrev own_args : (ps : List Par) → Denoted ps
own_args [] = tt
own_args (val {P} x ∷ ps) = (x.it, own_args ps)
own_args (shr {R} W s l e ∷ ps) = (shr_ref s.block s.off l, own_args ps)
own_args (mut {R} s l e ∷ ps) = (ref s.block s.off s.name l, own_args ps)

abbrev pub own_bound : (ps : List Par) → Bound ps
own_bound ps = ((own_lfts ps, own_shares ps, tt, own_args ps, valued ps), tt)

-- those that a callee is lent
abbrev lfts : (ps : List Par) → Loans (olds ps) → Lfts (loaned ps)
lfts [] xs = tt
lfts (val {P} x ∷ ps) xs = lfts ps xs
lfts (shr {R} W s l e ∷ ps) xs = (s.lft, lfts ps xs)
lfts (mut {R} s l e ∷ ps) xs = (xs.0.0 ∷ [], lfts ps xs.1)

abbrev shares : (ps : List Par) → Shares (loaned ps)
shares [] = tt
shares (val {P} x ∷ ps) = shares ps
shares (shr {R} W s l e ∷ ps) = (s.share, shares ps)
shares (mut {R} s l e ∷ ps) = (full_share, shares ps)

abbrev denoted : (ps : List Par) → Loans (olds ps) → Denoted ps
denoted [] xs = tt
denoted (val {P} x ∷ ps) xs = (x.it, denoted ps xs)
denoted (shr {R} W s l e ∷ ps) xs = (shr_ref s.block s.off l, denoted ps xs)
denoted (mut {R} s l e ∷ ps) xs = (ref s.block s.off xs.0.1 l, denoted ps xs.1)

abbrev pub bound : (ps : List Par) → Loans (olds ps) → Bound ps
bound ps xs = ((lfts ps xs, shares ps, tt, denoted ps xs, valued ps), tt)

-- what a callee is passed, and what it says of the lists that it leaves
abbrev owns_at : (ps : List Par) → Lfts (loaned ps) → Denoted ps → Valued ps → Fml
owns_at [] κs a vs = ftrue
owns_at (val {P} x ∷ ps) κs a vs = fsep (P.row.own_val a.0 vs.0) (owns_at ps κs a.1 vs.1)
owns_at (shr {R} W s l e ∷ ps) κs a vs = fsep ((ShrSlice (named 0) κs.0 R).own_val a.0 vs.0) (owns_at ps κs.1 a.1 vs.1)
owns_at (mut {R} s l e ∷ ps) κs a vs = fsep ((MutSlice (named 0) κs.0 R).own_val a.0 vs.0) (owns_at ps κs.1 a.1 vs.1)

abbrev flat_at : (ps : List Par) → Valued ps → List Val
flat_at [] vs = []
flat_at (val {P} x ∷ ps) vs = vs.0 ++ flat_at ps vs.1
flat_at (shr {R} W s l e ∷ ps) vs = vs.0 ++ flat_at ps vs.1
flat_at (mut {R} s l e ∷ ps) vs = vs.0 ++ flat_at ps vs.1

abbrev lefts_at : (ps : List Par) → Lfts (loaned ps) → Denoted ps → Lists (olds ps) → Fml
lefts_at [] κs a z = ftrue
lefts_at (val {P} x ∷ ps) κs a z = fsep ftrue (lefts_at ps κs a.1 z.1)
lefts_at (shr {R} W s l e ∷ ps) κs a z = fsep ftrue (lefts_at ps κs.1 a.1 z.1)
lefts_at (mut {R} s l e ∷ ps) κs a z = fsep (fsep (fsep (finally R a.0.ghost_name z.0) (feq ℕ (length z.0) (length a.0.now))) (fbor κs.0 (Held R (length a.0.now) a.0.ref_ptr.0 a.0.ref_ptr.1 a.0.ghost_name))) (lefts_at ps κs.1 a.1 z.1)

owns_is : (ps : List Par) (xs : Loans (olds ps)) → owns_at ps (lfts ps xs) (denoted ps xs) (valued ps) ≡ owned (L.lent (olds ps) xs)
owns_is [] xs = refl
owns_is (val {P} x ∷ ps) xs = ap (λ (F : Fml). fsep (P.row.own_val x.it (P.val x.it ∷ [])) F) (owns_is ps xs)
owns_is (shr {R} W s l e ∷ ps) xs = ap (λ (F : Fml). fsep (ShrOwn R s.lft s.block s.off (length s.was) l) F) (owns_is ps xs)
owns_is (mut {R} s l e ∷ ps) xs = ap (λ (F : Fml). fsep (MutOwn R (xs.0.0 ∷ []) s.block s.off (length s.was) xs.0.1 l) F) (owns_is ps xs.1)

flat_is : (ps : List Par) → flat_at ps (valued ps) ≡ values ps
flat_is [] = refl
flat_is (val {P} x ∷ ps) = ap (λ (vs : List Val). P.val x.it ∷ vs) (flat_is ps)
flat_is (shr {R} W s l e ∷ ps) = ap (λ (vs : List Val). slice_of s ∷ vs) (flat_is ps)
flat_is (mut {R} s l e ∷ ps) = ap (λ (vs : List Val). slice_of s ∷ vs) (flat_is ps)

lefts_is : (ps : List Par) (xs : Loans (olds ps)) (z : Lists (olds ps)) → lefts_at ps (lfts ps xs) (denoted ps xs) z ≡ L.lefts (olds ps) xs z
lefts_is [] xs z = refl
lefts_is (val {P} x ∷ ps) xs z = ap (λ (F : Fml). fsep ftrue F) (lefts_is ps xs z.1)
lefts_is (shr {R} W s l e ∷ ps) xs z = ap (λ (F : Fml). fsep ftrue F) (lefts_is ps xs z.1)
lefts_is (mut {R} s l e ∷ ps) xs z = ap (λ (F : Fml). fsep (fsep (fsep (finally R xs.0.1 z.0) (feq ℕ (length z.0) (length l))) (fbor (xs.0.0 ∷ []) (Held R (length l) s.block s.off xs.0.1))) F) (lefts_is ps xs.1 z.1)

module _ {M : Type 1} {𝓤 : Ura M} (𝓛 : Logic 𝓤) where
  open 𝓛 use {H, A}

  toks_is : (ps : List Par) (xs : Loans (olds ps)) → toks 𝓛 (loaned ps) (lfts ps xs) (shares ps) ≡ mean 𝓛 (tokens 𝓤 (L.lent (olds ps) xs))
  toks_is [] xs = refl
  toks_is (val {P} x ∷ ps) xs = toks_is ps xs
  toks_is (shr {R} W s l e ∷ ps) xs = ap (λ (T : SProp 𝓤). sep 𝓤 (A.lft s.lft s.share) T) (toks_is ps xs)
  toks_is (mut {R} s l e ∷ ps) xs = ap (λ (T : SProp 𝓤). sep 𝓤 (A.lft (xs.0.0 ∷ []) full_share) T) (toks_is ps xs.1)

  -- a callee's theorem at y, where it asks R and its `ensures` is Φ
  module _ (ps : List Par) (Res : RattleType) (Φ : Res.Denot → Lists (olds ps) → Type 0) where
    abbrev meeting : SProp 𝓤 → Fml → (Lists (olds ps) → Fml) → SProp 𝓤 → (List Val → (Val → SProp 𝓤) → SProp 𝓤) → List Val → Type 1
    meeting T O F R run vs = ent 𝓤 (sep 𝓤 (sep 𝓤 T (sem 𝓛 O)) R) (run vs (λ w. H.⇛ (ex 𝓤 (λ (r : Res.Denot). sep 𝓤 (sep 𝓤 T (sem 𝓛 (Res.own_val r (w ∷ [])))) (ex 𝓤 (λ (z : Lists (olds ps)). sep 𝓤 (sem 𝓛 (F z)) (fact 𝓤 (Φ r z))))))))

    abbrev pub Meeting : SProp 𝓤 → (List Val → (Val → SProp 𝓤) → SProp 𝓤) → Bound ps → Type 1
    Meeting R run y = meeting (toks 𝓛 (loaned ps) y.0.0 y.0.1) (owns_at ps y.0.0 y.0.3 y.0.4) (λ z. lefts_at ps y.0.0 y.0.3 z) R run (flat_at ps y.0.4)

    pub meets_at : (R : SProp 𝓤) (run : List Val → (Val → SProp 𝓤) → SProp 𝓤) (xs : Loans (olds ps)) → Meeting R run (bound ps xs) → ent 𝓤 (Takes 𝓛 (olds ps) xs R) (run (values ps) (Gives 𝓛 (olds ps) xs Res Φ))
    meets_at R run xs h =
        let T : SProp 𝓤 = mean 𝓛 (tokens 𝓤 (L.lent (olds ps) xs)) in
        subst (λ (vs : List Val). meeting T (owned (L.lent (olds ps) xs)) (L.lefts (olds ps) xs) R run vs) (flat_is ps)
        (subst (λ (F : Lists (olds ps) → Fml). meeting T (owned (L.lent (olds ps) xs)) F R run (flat_at ps (valued ps))) (λ i z. lefts_is ps xs z i)
        (subst (λ (O : Fml). meeting T O (λ z. lefts_at ps (lfts ps xs) (denoted ps xs) z) R run (flat_at ps (valued ps))) (owns_is ps xs)
        (subst (λ (S : SProp 𝓤). meeting S (owns_at ps (lfts ps xs) (denoted ps xs) (valued ps)) (λ z. lefts_at ps (lfts ps xs) (denoted ps xs) z) R run (flat_at ps (valued ps))) (toks_is ps xs) h)))

-- ---- the lists that are left of its `&mut` slices, one for each, and that they are as long as before
abbrev pub Lefts : List Par → Type 0
Lefts [] = Unit {0}
Lefts (val {P} x ∷ ps) = Lefts ps
Lefts (shr {R} W s l e ∷ ps) = Lefts ps
Lefts (mut {R} s l e ∷ ps) = List R.Denot × Lefts ps

abbrev pub Sames : (ps : List Par) → Lefts ps → Type 0
Sames [] zs = Unit {0}
Sames (val {P} x ∷ ps) zs = Sames ps zs
Sames (shr {R} W s l e ∷ ps) zs = Sames ps zs
Sames (mut {R} s l e ∷ ps) zs = (length zs.0 ≡ length s.was) × Sames ps zs.1

-- all are as they were lent
abbrev pub as_lent : (ps : List Par) → Lefts ps
as_lent [] = tt
as_lent (val {P} x ∷ ps) = as_lent ps
as_lent (shr {R} W s l e ∷ ps) = as_lent ps
as_lent (mut {R} s l e ∷ ps) = (l, as_lent ps)

pub as_long : (ps : List Par) → Sames ps (as_lent ps)
as_long [] = tt
as_long (val {P} x ∷ ps) = as_long ps
as_long (shr {R} W s l e ∷ ps) = as_long ps
as_long (mut {R} s l e ∷ ps) = (e, as_long ps)

abbrev pub spread : (ps : List Par) → Lefts ps → Lists (olds ps)
spread [] zs = tt
spread (val {P} x ∷ ps) zs = (tt, spread ps zs)
spread (shr {R} W s l e ∷ ps) zs = (tt, spread ps zs)
spread (mut {R} s l e ∷ ps) zs = (zs.0, spread ps zs.1)

pub spread_same : (ps : List Par) (zs : Lefts ps) → Sames ps zs → Same (olds ps) (spread ps zs)
spread_same [] zs h = tt
spread_same (val {P} x ∷ ps) zs h = (tt, spread_same ps zs h)
spread_same (shr {R} W s l e ∷ ps) zs h = (tt, spread_same ps zs h)
spread_same (mut {R} s l e ∷ ps) zs h = (h.0, spread_same ps zs.1 h.1)

abbrev pub compact : (ps : List Par) → Lists (olds ps) → Lefts ps
compact [] z = tt
compact (val {P} x ∷ ps) z = compact ps z.1
compact (shr {R} W s l e ∷ ps) z = compact ps z.1
compact (mut {R} s l e ∷ ps) z = (z.0, compact ps z.1)

pub compact_same : (ps : List Par) (z : Lists (olds ps)) → Same (olds ps) z → Sames ps (compact ps z)
compact_same [] z h = tt
compact_same (val {P} x ∷ ps) z h = compact_same ps z.1 h.1
compact_same (shr {R} W s l e ∷ ps) z h = compact_same ps z.1 h.1
compact_same (mut {R} s l e ∷ ps) z h = (h.0, compact_same ps z.1 h.1)

pub spread_compact : (ps : List Par) (z : Lists (olds ps)) → spread ps (compact ps z) ≡ z
spread_compact [] z = refl
spread_compact (val {P} x ∷ ps) z = ap (λ (y : Lists (olds ps)). (tt, y)) (spread_compact ps z.1)
spread_compact (shr {R} W s l e ∷ ps) z = ap (λ (y : Lists (olds ps)). (tt, y)) (spread_compact ps z.1)
spread_compact (mut {R} s l e ∷ ps) z = ap (λ (y : Lists (olds ps)). (z.0, y)) (spread_compact ps z.1)
