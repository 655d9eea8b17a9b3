-- A call with any parameters: shared slices, `&mut` slices and plain values, each any number of times and in any order. What a walk holds of them is one entry, `held ps`, by the list ps of the parameters in their order; each reference has a lifetime of its own.
--     opened-all, shut_all     of a function with these parameters: what it has on entry makes `held ps`, and that makes what it has at exit
--     lends_all, returned_all  every `&mut` slice is lent for a lifetime of its own that is made for the call, of the shared ones a copy is passed, and all are back, the `&mut` ones at the lists that were left
--     lent-call-all            the call as one step. What follows it has the result r and the lists z that were left, with all that the callee's contract says of them: the contract need fix neither
-- Assumes `Logic`.
use mathlib.Core.Path.{◌≡◌, ◌∙◌}
use Prim.Native.Nat.{ℕ}
use mathlib.Core.List.{List, [], ◌∷◌}
use lib.ListN.{length}
use seplogic.Ra.Ura.{Ura}
use base.Fraction.{full_share}
use mir.Syntax.{Callee, Opd as Operand, Body, place, seq, call, named}
use mir.Val.{Val}
use base.Logic.{SProp, ent, sep, ex, guard, emp, mono_l, via, id⊢}
use base.Fml.{Lft, GName, Share, Fml, ftrue, fsep, feq, flft, fbor}
use prog.Wp.{Env, Calls, Loops}
use types.Logic.{Logic, sem}
use types.Kit.{Item, ‵, raw, ◌⊛◌, some, given, later, learn, check, Post, runs, lands, Seq, mean, ◌$◌, ◌∵◌, !, qed, move, drop, use0, use1, use2, use3, fsplit, fjoin, feq_l, split, join, pick, show, frame, await, updating, now as at_once, done}
use types.Run.{Opds}
use sound.WpLaws.{FmC}
use contract.Monad.{fact}
use denote.RattleType.{RattleType, RowLaws}
use denote.Laws.{Is, shows}
use denote.Steps.{heard, facts}
use denote.Slice.{slice_val, Room, finally, shr_slice_copy}
use denote.Lend.{Held}
use denote.Triple.Call.{calls_from}
use Rattle.walks.proofs.Hold.{shr_ref, MutOwn, ShrOwn, Mut, Shr, Free, lends, returned}
use Rattle.walks.proofs.Again.{LentAgain}

-- a parameter: a `&κ [S]` at the list ys, a `&κ mut [R]` at the list l, or a value that owns P
pub data Par : Type 2 where
  shr : (S : RattleType) → Lft → Share → ℕ → ℕ → ℕ → List S.Denot → Par
  mut : (R : RattleType) → Lft → Share → ℕ → ℕ → ℕ → GName → List R.Denot → Par
  val : Fml → Par

abbrev pub owned : List Par → Fml
owned [] = ftrue
owned (shr S κ q b o n ys ∷ ps) = fsep (ShrOwn S κ b o n ys) (owned ps)
owned (mut R κ q b o n γ l ∷ ps) = fsep (MutOwn R κ b o n γ l) (owned ps)
owned (val P ∷ ps) = fsep P (owned ps)

-- the `&mut` slices are as long as their machine values say, and have room; what a `&` to an element of the others holds can be had twice
abbrev pub Sized : List Par → Type 2
Sized [] = Unit {2}
Sized (shr S κ q b o n ys ∷ ps) = RowLaws S × Sized ps
Sized (mut R κ q b o n γ l ∷ ps) = ((length l ≡ n) × Room R n) × Sized ps
Sized (val P ∷ ps) = Sized ps

-- the lifetime and the name of each loan
abbrev pub Loans : List Par → Type 0
Loans [] = Unit {0}
Loans (shr S κ q b o n ys ∷ ps) = Loans ps
Loans (mut R κ q b o n γ l ∷ ps) = (ℕ × GName) × Loans ps
Loans (val P ∷ ps) = Loans ps

-- the parameters as the callee has them
abbrev pub lent : (ps : List Par) → Loans ps → List Par
lent [] xs = []
lent (shr S κ q b o n ys ∷ ps) xs = shr S κ q b o n ys ∷ lent ps xs
lent (mut R κ q b o n γ l ∷ ps) xs = mut R (xs.0.0 ∷ []) full_share b o n xs.0.1 l ∷ lent ps xs.1
lent (val P ∷ ps) xs = val P ∷ lent ps xs

-- the lists that are left, in the shape that a contract binds them in
abbrev pub Lists : List Par → Type 0
Lists [] = Unit {0}
Lists (shr S κ q b o n ys ∷ ps) = Unit {0} × Lists ps
Lists (mut R κ q b o n γ l ∷ ps) = List R.Denot × Lists ps
Lists (val P ∷ ps) = Unit {0} × Lists ps

-- what the callee says of them: each list, that it is as long, and the borrow that it was lent
abbrev pub lefts : (ps : List Par) → Loans ps → Lists ps → Fml
lefts [] xs z = ftrue
lefts (shr S κ q b o n ys ∷ ps) xs z = fsep ftrue (lefts ps xs z.1)
lefts (mut R κ q b o n γ l ∷ ps) xs z = fsep (fsep (fsep (finally R xs.0.1 z.0) (feq ℕ (length z.0) (length l))) (fbor (xs.0.0 ∷ []) (Held R (length l) b o xs.0.1))) (lefts ps xs.1 z.1)
lefts (val P ∷ ps) xs z = fsep ftrue (lefts ps xs z.1)

-- the parameters after the call, and that the lists are as long as before
abbrev pub after : (ps : List Par) → Lists ps → List Par
after [] z = []
after (shr S κ q b o n ys ∷ ps) z = shr S κ q b o n ys ∷ after ps z.1
after (mut R κ q b o n γ l ∷ ps) z = mut R κ q b o n γ z.0 ∷ after ps z.1
after (val P ∷ ps) z = val P ∷ after ps z.1

abbrev pub Same : (ps : List Par) → Lists ps → Type 0
Same [] z = Unit {0}
Same (shr S κ q b o n ys ∷ ps) z = Unit {0} × Same ps z.1
Same (mut R κ q b o n γ l ∷ ps) z = (length z.0 ≡ n) × Same ps z.1
Same (val P ∷ ps) z = Unit {0} × Same ps z.1

module _ {M : Type 1} (𝓤 : Ura M) where
  abbrev pub tokens : List Par → Item 𝓤
  tokens [] = ‵ ftrue
  tokens (shr S κ q b o n ys ∷ ps) = ‵ (flft κ q) ⊛ tokens ps
  tokens (mut R κ q b o n γ l ∷ ps) = ‵ (flft κ q) ⊛ tokens ps
  tokens (val P ∷ ps) = tokens ps

  abbrev pub held : List Par → Item 𝓤
  held [] = ‵ ftrue
  held (shr S κ q b o n ys ∷ ps) = Shr 𝓤 S κ q b o n ys ⊛ held ps
  held (mut R κ q b o n γ l ∷ ps) = Mut 𝓤 R κ q b o n γ l ⊛ held ps
  held (val P ∷ ps) = held ps

  -- what the caller keeps during the call
  abbrev pub kept : (ps : List Par) → Loans ps → Item 𝓤
  kept [] xs = ‵ ftrue
  kept (shr S κ q b o n ys ∷ ps) xs = ‵ (ShrOwn S κ b o n ys) ⊛ kept ps xs
  kept (mut R κ q b o n γ l ∷ ps) xs = ‵ (LentAgain R κ (xs.0.0 ∷ []) q γ b o xs.0.1 l) ⊛ kept ps xs.1
  kept (val P ∷ ps) xs = kept ps xs

-- what the plain values own is made of nothing
abbrev pub Made : {M : Type 1} {𝓤 : Ura M} (𝓛 : Logic 𝓤) → List Par → Type 1
Made 𝓛 [] = Unit {1}
Made 𝓛 (shr S κ q b o n ys ∷ ps) = Made 𝓛 ps
Made 𝓛 (mut R κ q b o n γ l ∷ ps) = Made 𝓛 ps
Made 𝓛 (val P ∷ ps) = Free 𝓛 P × Made 𝓛 ps

module _ {M : Type 1} {𝓤 : Ura M} (𝓛 : Logic 𝓤) where
  open 𝓛 use {H}

  abbrev Pr : Item 𝓤 → SProp 𝓤
  Pr i = mean 𝓛 i

  abbrev ⟦◌⟧ : Fml → SProp 𝓤
  ⟦ P ⟧ = sem 𝓛 P

  made-lent : (ps : List Par) (xs : Loans ps) → Made 𝓛 ps → Made 𝓛 (lent ps xs)
  made-lent [] xs mk = tt
  made-lent (shr S κ q b o n ys ∷ ps) xs mk = made-lent ps xs mk
  made-lent (mut R κ q b o n γ l ∷ ps) xs mk = made-lent ps xs.1 mk
  made-lent (val P ∷ ps) xs mk = (mk.0, made-lent ps xs mk.1)

  -- ---- on entry and at exit
  pub opened-all : (ps : List Par) → ent 𝓤 (sep 𝓤 (Pr (tokens 𝓤 ps)) ⟦ owned ps ⟧) (Pr (held 𝓤 ps))
  opened-all [] = qed 𝓛 (‵ ftrue ∷ ‵ ftrue ∷ []) ∵ drop ! $ done !
  opened-all (shr S κ q b o n ys ∷ ps) =
      qed 𝓛 ((‵ (flft κ q) ⊛ tokens 𝓤 ps) ∷ ‵ (fsep (ShrOwn S κ b o n ys) (owned ps)) ∷ []) ∵ split ! $ move ! (2 ∷ []) $ fsplit ! $
      -- [the slice; the others; κ; their tokens]
      move ! (3 ∷ 1 ∷ []) $ use2 𝓛 (held 𝓤 ps) (opened-all ps) $ move ! (1 ∷ 2 ∷ []) $ join ! $ join ! $ done !
  opened-all (mut R κ q b o n γ l ∷ ps) =
      qed 𝓛 ((‵ (flft κ q) ⊛ tokens 𝓤 ps) ∷ ‵ (fsep (MutOwn R κ b o n γ l) (owned ps)) ∷ []) ∵ split ! $ move ! (2 ∷ []) $ fsplit ! $
      move ! (3 ∷ 1 ∷ []) $ use2 𝓛 (held 𝓤 ps) (opened-all ps) $ move ! (1 ∷ 2 ∷ []) $ join ! $ join ! $ done !
  opened-all (val P ∷ ps) = qed 𝓛 (tokens 𝓤 ps ∷ ‵ (fsep P (owned ps)) ∷ []) ∵ move ! (1 ∷ []) $ fsplit ! $ drop ! $ move ! (1 ∷ 0 ∷ []) $ use2 𝓛 (held 𝓤 ps) (opened-all ps) $ done !

  pub passed_all : (ps : List Par) → Made 𝓛 ps → ent 𝓤 (Pr (held 𝓤 ps)) (sep 𝓤 (Pr (tokens 𝓤 ps)) ⟦ owned ps ⟧)
  passed_all [] mk = qed 𝓛 (‵ ftrue ∷ []) ∵ use0 𝓛 (‵ ftrue) (id⊢ 𝓤 (emp 𝓤)) $ done !
  passed_all (shr S κ q b o n ys ∷ ps) mk =
      qed 𝓛 ((Shr 𝓤 S κ q b o n ys ⊛ held 𝓤 ps) ∷ []) ∵ split ! $ split ! $ move ! (2 ∷ []) $ use1 𝓛 (tokens 𝓤 ps ⊛ ‵ (owned ps)) (passed_all ps mk) $ split ! $
      -- [their tokens; the others; the slice; κ]
      move ! (2 ∷ 1 ∷ []) $ fjoin ! $ move ! (2 ∷ 1 ∷ []) $ join ! $ done !
  passed_all (mut R κ q b o n γ l ∷ ps) mk =
      qed 𝓛 ((Mut 𝓤 R κ q b o n γ l ⊛ held 𝓤 ps) ∷ []) ∵ split ! $ split ! $ move ! (2 ∷ []) $ use1 𝓛 (tokens 𝓤 ps ⊛ ‵ (owned ps)) (passed_all ps mk) $ split ! $
      move ! (2 ∷ 1 ∷ []) $ fjoin ! $ move ! (2 ∷ 1 ∷ []) $ join ! $ done !
  passed_all (val P ∷ ps) mk = qed 𝓛 (held 𝓤 ps ∷ []) ∵ use1 𝓛 (tokens 𝓤 ps ⊛ ‵ (owned ps)) (passed_all ps mk.1) $ split ! $ move ! (1 ∷ []) $ use0 𝓛 (‵ P) mk.0.made $ fjoin ! $ move ! (1 ∷ 0 ∷ []) $ done !

  pub shut_all : (ps : List Par) → Made 𝓛 ps → {res : Fml} → Free 𝓛 res → ent 𝓤 (Pr (held 𝓤 ps)) (sep 𝓤 (Pr (tokens 𝓤 ps)) (sep 𝓤 ⟦ owned ps ⟧ ⟦ res ⟧))
  shut_all ps mk {res} mk' = qed 𝓛 (held 𝓤 ps ∷ []) ∵ use1 𝓛 (tokens 𝓤 ps ⊛ ‵ (owned ps)) (passed_all ps mk) $ split ! $ frame ! $ frame ! $ use0 𝓛 (‵ res) mk'.made $ done !

  -- ---- around a call
  pub lends_all : (ps : List Par) → Sized ps → ent 𝓤 (Pr (held 𝓤 ps)) (H.⇛ (ex 𝓤 (λ (xs : Loans ps). sep 𝓤 (Pr (held 𝓤 (lent ps xs))) (Pr (kept 𝓤 ps xs)))))
  lends_all [] fit = qed 𝓛 (‵ ftrue ∷ []) ∵ updating ! $ use0 𝓛 (‵ ftrue) (id⊢ 𝓤 (emp 𝓤)) $ at_once ! $ show ! (λ (xs : Unit {0}). sep 𝓤 (emp 𝓤) (emp 𝓤)) tt $ done !
  lends_all (shr S κ q b o n ys ∷ ps) fit =
      qed 𝓛 ((Shr 𝓤 S κ q b o n ys ⊛ held 𝓤 ps) ∷ []) ∵ updating ! $ split ! $ split ! $
      use1 𝓛 (‵ (ShrOwn S κ b o n ys) ⊛ ‵ (ShrOwn S κ b o n ys)) ((shr_slice_copy 𝓛 (named 0) κ S fit.0).twice (shr_ref b o ys) (slice_val (b, o) n ∷ [])) $ split ! $ move ! (3 ∷ []) $
      use1 𝓛 (later (some (λ (xs : Loans ps). held 𝓤 (lent ps xs) ⊛ kept 𝓤 ps xs))) (lends_all ps fit.1) $ await ! tt $ pick ! (λ xs. split ! $
      -- [the others; what is kept of them; the slice; the slice; κ]
      move ! (2 ∷ 1 ∷ []) $ join ! $ move ! (2 ∷ 3 ∷ []) $ join ! $ move ! (0 ∷ 2 ∷ []) $ join ! $
      at_once ! $ show ! (λ (us : Loans ps). sep 𝓤 (Pr (held 𝓤 (lent (shr S κ q b o n ys ∷ ps) us))) (Pr (kept 𝓤 (shr S κ q b o n ys ∷ ps) us))) xs $ done !)
  lends_all (mut R κ q b o n γ l ∷ ps) fit =
      qed 𝓛 ((Mut 𝓤 R κ q b o n γ l ⊛ held 𝓤 ps) ∷ []) ∵ updating ! $ split ! $
      use1 𝓛 (later (some (λ (x : ℕ × GName). Mut 𝓤 R (x.0 ∷ []) full_share b o n x.1 l ⊛ ‵ (LentAgain R κ (x.0 ∷ []) q γ b o x.1 l)))) (lends 𝓛 R κ q b o n γ l fit.0.0) $ await ! tt $ pick ! (λ x. split ! $ move ! (2 ∷ []) $
      use1 𝓛 (later (some (λ (xs : Loans ps). held 𝓤 (lent ps xs) ⊛ kept 𝓤 ps xs))) (lends_all ps fit.1) $ await ! tt $ pick ! (λ xs. split ! $
      -- [the others; what is kept of them; the slice; what is kept of it]
      move ! (3 ∷ 1 ∷ []) $ join ! $ move ! (2 ∷ 1 ∷ []) $ join ! $
      at_once ! $ show ! (λ (us : (ℕ × GName) × Loans ps). sep 𝓤 (Pr (held 𝓤 (lent (mut R κ q b o n γ l ∷ ps) us))) (Pr (kept 𝓤 (mut R κ q b o n γ l ∷ ps) us))) (x, xs) $ done !))
  lends_all (val P ∷ ps) fit = lends_all ps fit

  pub returned_all : (ps : List Par) → Sized ps → (xs : Loans ps) (z : Lists ps)
      → ent 𝓤 (sep 𝓤 (Pr (tokens 𝓤 (lent ps xs))) (sep 𝓤 ⟦ lefts ps xs z ⟧ (Pr (kept 𝓤 ps xs)))) (H.⇛ (guard 𝓤 (Same ps z) (Pr (held 𝓤 (after ps z)))))
  returned_all [] fit xs z = qed 𝓛 (‵ ftrue ∷ ‵ ftrue ∷ ‵ ftrue ∷ []) ∵ updating ! $ drop ! $ drop ! $ at_once ! $ check ! tt $ done !
  returned_all (shr S κ q b o n ys ∷ ps) fit xs z =
      qed 𝓛 ((‵ (flft κ q) ⊛ tokens 𝓤 (lent ps xs)) ∷ ‵ (fsep ftrue (lefts ps xs z.1)) ∷ (‵ (ShrOwn S κ b o n ys) ⊛ kept 𝓤 ps xs) ∷ []) ∵ updating ! $ split ! $ move ! (2 ∷ []) $ fsplit ! $ drop ! $ move ! (3 ∷ []) $ split ! $
      -- [the slice; what is kept of the others; what is said of them; κ; their tokens]
      move ! (4 ∷ 2 ∷ 1 ∷ []) $ use3 𝓛 (later (given (Same ps z.1) (held 𝓤 (after ps z.1)))) (returned_all ps fit.1 xs z.1) $ await ! tt $ learn ! (λ p.
      move ! (1 ∷ 2 ∷ []) $ join ! $ join ! $ at_once ! $ check ! (tt, p) $ done !)
  returned_all (mut R κ q b o n γ l ∷ ps) fit xs z =
      qed 𝓛 ((‵ (flft (xs.0.0 ∷ []) full_share) ⊛ tokens 𝓤 (lent ps xs.1)) ∷ ‵ (fsep (fsep (fsep (finally R xs.0.1 z.0) (feq ℕ (length z.0) (length l))) (fbor (xs.0.0 ∷ []) (Held R (length l) b o xs.0.1))) (lefts ps xs.1 z.1)) ∷
      (‵ (LentAgain R κ (xs.0.0 ∷ []) q γ b o xs.0.1 l) ⊛ kept 𝓤 ps xs.1) ∷ []) ∵ updating ! $
      split ! $ move ! (2 ∷ []) $ fsplit ! $ fsplit ! $ move ! (1 ∷ []) $ drop ! $ fsplit ! $ move ! (1 ∷ []) $ feq_l ! (λ e. move ! (4 ∷ []) $ split ! $
      -- [what is kept of the slice, and of the others; what is said of it, and of them; ν; their tokens]
      move ! (5 ∷ 3 ∷ 1 ∷ []) $ use3 𝓛 (later (given (Same ps z.1) (held 𝓤 (after ps z.1)))) (returned_all ps fit.1 xs.1 z.1) $ await ! tt $ learn ! (λ p.
      move ! (3 ∷ 2 ∷ []) $ join ! $ move ! (0 ∷ 2 ∷ []) $
      use2 𝓛 (later (Mut 𝓤 R κ q b o n γ z.0)) (returned 𝓛 R κ q b o n γ l fit.0.0 xs.0 z.0 fit.0.1 (e ∙ fit.0.0)) $ await ! tt $ join ! $ at_once ! $ check ! (e ∙ fit.0.0, p) $ done !))
  returned_all (val P ∷ ps) fit xs z =
      qed 𝓛 (tokens 𝓤 (lent ps xs) ∷ ‵ (fsep ftrue (lefts ps xs z.1)) ∷ kept 𝓤 ps xs ∷ []) ∵ updating ! $ move ! (1 ∷ []) $ fsplit ! $ drop ! $ move ! (1 ∷ 0 ∷ []) $
      use3 𝓛 (later (given (Same ps z.1) (held 𝓤 (after ps z.1)))) (returned_all ps fit xs z.1) $ await ! tt $ learn ! (λ p. at_once ! $ check ! (tt, p) $ done !)

  -- ---- the callee's triple: what it takes, with what it asks, and what it gives, where its `ensures` is Φ
  abbrev pub Takes : (ps : List Par) → Loans ps → SProp 𝓤 → SProp 𝓤
  Takes ps xs Asks = sep 𝓤 (sep 𝓤 (Pr (tokens 𝓤 (lent ps xs))) ⟦ owned (lent ps xs) ⟧) Asks

  abbrev pub Gives : (ps : List Par) → Loans ps → (Res : RattleType) → (Res.Denot → Lists ps → Type 0) → Val → SProp 𝓤
  Gives ps xs Res Φ w = H.⇛ (ex 𝓤 (λ (r : Res.Denot). sep 𝓤 (sep 𝓤 (Pr (tokens 𝓤 (lent ps xs))) ⟦ Res.own_val r (w ∷ []) ⟧) (ex 𝓤 (λ (z : Lists ps). sep 𝓤 ⟦ lefts ps xs z ⟧ (fact 𝓤 (Φ r z))))))

  module _ (ps : List Par) (fit : Sized ps) (Res : RattleType) (Φ : Res.Denot → Lists ps → Type 0) where
    abbrev Told : Val → Res.Denot × Lists ps → Type 0
    Told w y = Is Res y.0 (w ∷ []) × (Φ y.0 y.1 × Same ps y.1)

    ended_all : (xs : Loans ps) (w : Val) → ent 𝓤 (sep 𝓤 (Gives ps xs Res Φ w) (Pr (kept 𝓤 ps xs))) (H.⇛ (ex 𝓤 (λ (y : Res.Denot × Lists ps). guard 𝓤 (Told w y) (Pr (held 𝓤 (after ps y.1))))))
    ended_all xs w =
        qed 𝓛 (later (some (λ (r : Res.Denot). (tokens 𝓤 (lent ps xs) ⊛ ‵ (Res.own_val r (w ∷ []))) ⊛ some (λ (z : Lists ps). ‵ (lefts ps xs z) ⊛ raw (fact 𝓤 (Φ r z))))) ∷ kept 𝓤 ps xs ∷ []) ∵ updating ! $ await ! tt $
        pick ! (λ r. split ! $ move ! (1 ∷ []) $ pick ! (λ z. split ! $ move ! (1 ∷ []) $ heard ! (Φ r z) (λ φ.
        -- [what is said of the lists; the tokens and the result; what is kept]
        move ! (1 ∷ []) $ split ! $ move ! (1 ∷ []) $ facts ! Res (Is Res) (shows 𝓛 Res) r (w ∷ []) (λ is.
        use3 𝓛 (later (given (Same ps z) (held 𝓤 (after ps z)))) (returned_all ps fit xs z) $ await ! tt $ learn ! (λ same.
        at_once ! $ show ! (λ (y : Res.Denot × Lists ps). guard 𝓤 (Told w y) (Pr (held 𝓤 (after ps y.1)))) (r, z) $ check ! (is, (φ, same)) $ done !)))))

    module _ (mk : Made 𝓛 ps) {K : Type 0} {Γ : List (Item 𝓤)} {E : Env 𝓤 H} {C : Calls 𝓤 H} {Λ : Loops 𝓤 H} {q : Post 𝓤 H} where
      pub lent-call-all : K → FmC 𝓤 H 𝓛.laws C → {f : Callee} {os : List Operand} {i : ℕ} {rest : Body} (args : List Val) (Asks : SProp 𝓤) → ent 𝓤 (emp 𝓤) Asks → ((xs : Loans ps) → ent 𝓤 (Takes ps xs Asks) (C f args (Gives ps xs Res Φ)))
          → ((j : Item 𝓤) → Opds K 𝓛 (j ∷ Γ) E os args)
          → ((w : Val) (r : Res.Denot) (z : Lists ps) → Is Res r (w ∷ []) → Φ r z → Same ps z → Seq K 𝓛 (held 𝓤 (after ps z) ∷ Γ) (lands C Λ E (place i []) w rest q))
          → Seq K 𝓛 (held 𝓤 ps ∷ Γ) (runs C Λ E (seq (call f os (place i [])) rest) q)
      lent-call-all t fm {f} args Asks asked met ops k =
          use1 𝓛 (later (some (λ (xs : Loans ps). raw (sep 𝓤 (Takes ps xs Asks) (Pr (kept 𝓤 ps xs)))))) goes $ await t tt $ pick t (λ xs.
          calls_from t fm (raw (sep 𝓤 (Takes ps xs Asks) (Pr (kept 𝓤 ps xs)))) args (λ w. sep 𝓤 (Gives ps xs Res Φ w) (Pr (kept 𝓤 ps xs)))
          (via 𝓤 (sep 𝓤 (C f args (Gives ps xs Res Φ)) (Pr (kept 𝓤 ps xs))) (mono_l 𝓤 (Pr (kept 𝓤 ps xs)) (met xs)) (fm f args (Gives ps xs Res Φ) (λ w. sep 𝓤 (Gives ps xs Res Φ w) (Pr (kept 𝓤 ps xs))) (Pr (kept 𝓤 ps xs)) (λ w. id⊢ 𝓤 _)))
          (ops (raw (sep 𝓤 (Takes ps xs Asks) (Pr (kept 𝓤 ps xs))))) (λ w.
          use1 𝓛 (later (some (λ (y : Res.Denot × Lists ps). given (Told w y) (held 𝓤 (after ps y.1))))) (ended_all xs w) $ await t tt $ pick t (λ y. learn t (λ h. k w y.0 y.1 h.0 h.1.0 h.1.1))))
        where
          goes : ent 𝓤 (Pr (held 𝓤 ps)) (H.⇛ (ex 𝓤 (λ (xs : Loans ps). sep 𝓤 (Takes ps xs Asks) (Pr (kept 𝓤 ps xs)))))
          goes =
              qed 𝓛 (held 𝓤 ps ∷ []) ∵ updating ! $ use1 𝓛 (later (some (λ (xs : Loans ps). held 𝓤 (lent ps xs) ⊛ kept 𝓤 ps xs))) (lends_all ps fit) $ await ! tt $ pick ! (λ xs. split ! $
              use1 𝓛 (tokens 𝓤 (lent ps xs) ⊛ ‵ (owned (lent ps xs))) (passed_all (lent ps xs) (made-lent ps xs mk)) $ use0 𝓛 (raw Asks) asked $ move ! (1 ∷ 0 ∷ []) $ join ! $
              at_once ! $ show ! (λ (us : Loans ps). sep 𝓤 (Takes ps us Asks) (Pr (kept 𝓤 ps us))) xs $ done !)
