-- What a walk holds of a slice: what the reference owns, with a share of its lifetime's token, as one entry of the context. The machine value is fixed at n, the count at entry, so nothing in memory is rewritten as the list changes.
--     Mut, Shr         of a `&κ mut [T]` at the list l, of a `&κ [T]` at the list ys
--     Free             what is owned of nothing, as what a number owns
--     lends            a `&κ mut [T]` is lent again for a lifetime ν that is made for a call, under a name δ.        returned     ν is ended, and it is back at the list that was left
--     shared, unshared         a `&mut [T]` is lent as a `&[T]`, and is back
-- Assumes `Logic`.
use mathlib.Core.Path.{◌≡◌, refl, sym, ◌∙◌, subst}
use Prim.Native.Nat.{ℕ}
use mathlib.Core.List.{List, [], ◌∷◌}
use lib.ListN.{length}
use seplogic.Ra.Ura.{Ura}
use base.Fraction.{full_share}
use mir.Syntax.{named}
use base.Logic.{ent, sep, ex, emp}
use base.Fml.{Lft, Incl-refl, GName, Share, Fml, fsep, flft, flent, fobor, fobs, fauth}
use contract.BorrowLft.{⊑_static}
use types.Logic.{Logic, sem}
use types.Kit.{Item, ‵, ◌⊛◌, some, later, Goal, Soaks, Seq, Step, step, feq_i, mean, ◌$◌, ◌∵◌, !, qed, move, drop, use2, use3, fsplit, fjoin, split, join, pick, rewrite, show, frame, await, updating, now as at_once, done}
use types.Tokens.{lft_new, lft_end, lent_back}
use denote.RattleType.{RattleType}
use types.Share.{arr_parts}
use denote.Shadow.{pure_l, pure_i}
use denote.Memory.{shares}
use denote.Lend.{Held, lends_shr_slice}
use denote.Index.{opens_slice, closes_slice}
use denote.Shares.{Shares}
use denote.Ref.{Bor, MutBor}
use denote.Slice.{slice_val, MutSlice, ShrSlice, Room, finally, mut_slice_at, heres, coded_holeys}
use Rattle.walks.proofs.Again.{LentAgain, lends_again, comes_back}

-- a reference to the slice at (b, o)
abbrev pub ref : {X : Type 0} → ℕ → ℕ → GName → List X → MutBor (List X)
ref b o γ l = record { ref_ptr = (b, o); ghost_name = γ; now = l }

abbrev pub shr_ref : {X : Type 0} → ℕ → ℕ → List X → Bor (List X)
shr_ref b o l = record { ref_ptr = (b, o); now = l }

abbrev pub MutOwn : (R : RattleType) → Lft → ℕ → ℕ → ℕ → GName → List R.Denot → Fml
MutOwn R κ b o n γ l = (MutSlice (named 0) κ R).own_val (ref b o γ l) (slice_val (b, o) n ∷ [])

abbrev pub ShrOwn : (R : RattleType) → Lft → ℕ → ℕ → ℕ → List R.Denot → Fml
ShrOwn R κ b o n l = (ShrSlice (named 0) κ R).own_val (shr_ref b o l) (slice_val (b, o) n ∷ [])

module _ {M : Type 1} (𝓤 : Ura M) where
  abbrev pub Mut : (R : RattleType) → Lft → Share → ℕ → ℕ → ℕ → GName → List R.Denot → Item 𝓤
  Mut R κ q b o n γ l = ‵ (MutOwn R κ b o n γ l) ⊛ ‵ (flft κ q)

  abbrev pub Shr : (R : RattleType) → Lft → Share → ℕ → ℕ → ℕ → List R.Denot → Item 𝓤
  Shr R κ q b o n l = ‵ (ShrOwn R κ b o n l) ⊛ ‵ (flft κ q)

-- what is owned of nothing, as what a number owns
pub record Free {M : Type 1} {𝓤 : Ura M} (𝓛 : Logic 𝓤) (P : Fml) : Type 1 where
  pub made : ent 𝓤 (emp 𝓤) (sem 𝓛 P)

module _ {M : Type 1} {𝓤 : Ura M} (𝓛 : Logic 𝓤) (R : RattleType) (κ : Lft) (q : Share) (b o n : ℕ) (γ : GName) (l : List R.Denot) (same : length l ≡ n) where
  -- while it is lent
  open 𝓛 use {H, A}

  abbrev pub Lent : ℕ × GName → Item 𝓤
  Lent x = ‵ (LentAgain R κ (x.0 ∷ []) q γ b o x.1 l)

  pub lends : ent 𝓤 (mean 𝓛 (Mut 𝓤 R κ q b o n γ l)) (H.⇛ (ex 𝓤 (λ (x : ℕ × GName). sep 𝓤 (mean 𝓛 (Mut 𝓤 R (x.0 ∷ []) full_share b o n x.1 l)) (mean 𝓛 (Lent x)))))
  lends =
      qed 𝓛 (Mut 𝓤 R κ q b o n γ l ∷ []) ∵ updating ! $ split ! $ lft_new ! tt (λ ν. move ! (1 ∷ 2 ∷ []) $
      rewrite ! 0 (λ (m : ℕ). ‵ (MutOwn R κ b o m γ l)) (sym same) refl $
      use2 𝓛 (later (some (λ (δ : GName). ‵ (MutOwn R (ν ∷ []) b o (length l) δ l) ⊛ ‵ (LentAgain R κ (ν ∷ []) q γ b o δ l)))) (lends_again R κ (ν ∷ []) q γ b o 𝓛 (named 0) (named 0) l) $ await ! tt $ pick ! (λ δ. split ! $
      rewrite ! 0 (λ (m : ℕ). ‵ (MutOwn R (ν ∷ []) b o m δ l)) same refl $
      at_once ! $ show ! (λ (x : ℕ × GName). sep 𝓤 (mean 𝓛 (Mut 𝓤 R (x.0 ∷ []) full_share b o n x.1 l)) (mean 𝓛 (Lent x))) (ν, δ) $ move ! (0 ∷ 2 ∷ []) $ join ! $ frame ! $ done !))

  pub returned : (x : ℕ × GName) (zs : List R.Denot) → Room R n → length zs ≡ n
      → ent 𝓤 (sep 𝓤 (sep 𝓤 (A.lft (x.0 ∷ []) full_share) (sem 𝓛 (finally R x.1 zs))) (mean 𝓛 (Lent x))) (H.⇛ (mean 𝓛 (Mut 𝓤 R κ q b o n γ zs)))
  returned x zs room e =
      qed 𝓛 ((‵ (flft (x.0 ∷ []) full_share) ⊛ ‵ (finally R x.1 zs)) ∷ Lent x ∷ []) ∵ updating ! $ split ! $ lft_end ! tt $ move ! (0 ∷ 2 ∷ 1 ∷ []) $
      use3 𝓛 (later (‵ (MutOwn R κ b o (length l) γ zs) ⊛ ‵ (flft κ q))) (comes_back R κ (x.0 ∷ []) q γ b o 𝓛 (named 0) (named 0) l x.1 zs (subst (Room R) (sym same) room) (e ∙ sym same)) $ await ! tt $ split ! $
      rewrite ! 0 (λ (m : ℕ). ‵ (MutOwn R κ b o m γ zs)) same refl $ at_once ! $ join ! $ done !

-- ---- a `&κ mut [T]` is lent as a `&[T]`, for a lifetime ν that is made for it, and comes back as it was. Its elements are shared out by a law of their type, `Shares`, of one that holds no `&mut`
module _ (R : RattleType) (κ : Lft) (q : Share) (b o n : ℕ) (γ : GName) (l : List R.Denot) where
  abbrev pub Kept : ℕ → Fml
  Kept ν = fsep (flent (ν ∷ []) ((arr_parts (shares R) (length l)).part full_share l b o)) (fsep (fobor κ q (Held R (length l) b o γ)) (fsep (fobs γ ((coded_holeys R).code (heres R l))) (fauth γ ((coded_holeys R).code (heres R l)))))

  module _ {M : Type 1} {𝓤 : Ura M} {𝓛 : Logic 𝓤} {K : Type 0} {Γ : List (Item 𝓤)} {G : Goal 𝓤 𝓛.H} where
    pub shared : K → Soaks G → Shares 𝓛 R [] → length l ≡ n → ((ν : ℕ) → Seq K 𝓛 (Shr 𝓤 R (ν ∷ []) full_share b o n l ∷ ‵ (Kept ν) ∷ Γ) G) → Seq K 𝓛 (Mut 𝓤 R κ q b o n γ l ∷ Γ) G
    shared t z law same k =
        split t $ rewrite t 0 (λ (m : ℕ). ‵ (MutOwn R κ b o m γ l)) (sym same) refl $ fsplit t $ pure_l t (mut_slice_at R (ref b o γ l) (slice_val (b, o) (length l) ∷ [])) (λ p. fsplit t $ opens_slice t z R l b o $
        feq_i t ℕ (length l) (length l) refl $ fjoin t $ lft_new t z (λ ν. move t (1 ∷ 0 ∷ []) $
        use2 𝓛 (later ((‵ (ShrOwn R (ν ∷ []) b o (length l) l) ⊛ ‵ (flent (ν ∷ []) ((arr_parts (shares R) (length l)).part full_share l b o))) ⊛ ‵ (flft (ν ∷ []) full_share)))
        (lends_shr_slice 𝓛 R (named 0) (ν ∷ []) full_share l b o p.1 [] law ((ν ∷ [], full_share) ∷ []) (⊑_static (ν ∷ [])) (Incl-refl (ν ∷ []))) $ await t z $ split t $ split t $
        -- [the shared slice; the lender's part; ν; the open borrow; obs γ; auth γ]
        rewrite t 0 (λ (m : ℕ). ‵ (ShrOwn R (ν ∷ []) b o m l)) same refl $ move t (0 ∷ 2 ∷ []) $ join t $ move t (3 ∷ 4 ∷ []) $ fjoin t $ move t (3 ∷ 0 ∷ []) $ fjoin t $ move t (2 ∷ 0 ∷ []) $ fjoin t $ move t (1 ∷ 0 ∷ []) $ k ν))

    pub unshared : K → Soaks G → length l ≡ n → Room R n → (ν : ℕ) → Step K 𝓛 (Mut 𝓤 R κ q b o n γ l ∷ Γ) G (Shr 𝓤 R (ν ∷ []) full_share b o n l ∷ ‵ (Kept ν) ∷ Γ) G
    unshared t z same room ν = step (λ s.
        split t $ drop t $ lft_end t z $ move t (1 ∷ []) $ fsplit t $ move t (2 ∷ 0 ∷ []) $ lent_back t z $ fsplit t $ drop t $
        move t (1 ∷ []) $ fsplit t $ move t (1 ∷ []) $ fsplit t $
        -- [obs γ; auth γ; the open borrow; the row]
        move t (3 ∷ 2 ∷ 0 ∷ 1 ∷ []) $ closes_slice t z R l l refl b o $ fjoin t $ pure_i t (mut_slice_at R (ref b o γ l) (slice_val (b, o) (length l) ∷ [])) (tt, (tt, tt)) (refl, subst (Room R) (sym same) room) $ fjoin t $
        rewrite t 0 (λ (m : ℕ). ‵ (MutOwn R κ b o m γ l)) same refl $ join t $ s)
