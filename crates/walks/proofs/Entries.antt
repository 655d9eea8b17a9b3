-- What a walk holds of its references is an entry for each, in their order, before its locals.
--     items, puts, blanks      the entries of parameters; some put in their places, or taken out of them
--     opens, enters    a walk begins: an entry for each reference, then the locals, the parameters stored
--     ends             a walk ends: what is left of its parameters, and the result
--     End              that a walk may end at a result and at lists
-- Assumes `Logic`.
use mathlib.Core.Path.{refl}
use mathlib.Core.Option.{Option, none, some as just}
use mathlib.Core.List.{List, [], ◌∷◌, ◌++◌}
use Prim.Native.Nat.{ℕ}
use lib.Dec.{T as Holds}
use seplogic.Ra.Ura.{Ura}
use base.Fraction.{full_share}
use mir.Syntax.{Local, local, Fn}
use mir.Val.{Val, WT, has_ty}
use base.Logic.{SProp, ent, sep, emp, id⊢, via, emp∗, mono_r, snd∗, assoc', fst∗}
use base.Fml.{ftrue, fat, froom, fdies}
use prog.Wp.{Calls, Loops, WpFn}
use types.Logic.{Logic, sem}
use contract.Monad.{fact}
use types.Kit.{Item, ‵, raw, ◌⊛◌, mean, ⋆, push, pop, pull, fill, nth, put, del, Goal, prop, runs, passes, params', at_ret, Seq, Go, ◌$◌, ◌∵◌, !, qed, by, use2, move, split}
use types.Run.{init, pass1, pass0}
use denote.Triple.Walked.{says}
use Rattle.walks.proofs.Walk.{Blocks, env_of, cells, behind, before, begins}
use Rattle.walks.proofs.Hold.{Mut, Shr}
use Rattle.walks.proofs.Loans as L
use Rattle.walks.proofs.Loans.{tokens, owned, held, Lists, opened-all, shut_all}
use Rattle.walks.proofs.Types.{Plain, Row, Of, value, Has}
use Rattle.walks.proofs.Parameters.{Par, olds, made_of, made_after, Lefts, spread}

-- ---- the entries that a walk holds
module _ {M : Type 1} {𝓤 : Ura M} (𝓛 : Logic 𝓤) where
  abbrev pub items : List L.Par → List (Item 𝓤)
  items [] = []
  items (L.shr R κ q b o n l ∷ ps) = Shr 𝓤 R κ q b o n l ∷ items ps
  items (L.mut R κ q b o n γ l ∷ ps) = Mut 𝓤 R κ q b o n γ l ∷ items ps
  items (L.val P ∷ ps) = items ps

  abbrev pub joined : List (Item 𝓤) → Item 𝓤
  joined [] = ‵ ftrue
  joined (i ∷ is) = i ⊛ joined is

  -- entries are taken out, and an empty one is left in the place of each
  abbrev pub blanks : List ℕ → List (Item 𝓤) → List (Item 𝓤)
  blanks [] Γ = Γ
  blanks (i ∷ is) Γ = blanks is (put 𝓛 i (‵ ftrue) Γ)

  abbrev pub nths : List ℕ → List (Item 𝓤) → List (Item 𝓤)
  nths [] Γ = []
  nths (i ∷ is) Γ = nth 𝓛 i Γ ∷ nths is (put 𝓛 i (‵ ftrue) Γ)

  -- and put back
  abbrev pub puts : List ℕ → List L.Par → List (Item 𝓤) → List (Item 𝓤)
  puts is [] Γ = Γ
  puts is (L.val P ∷ ps) Γ = puts is ps Γ
  puts [] (L.shr R κ q b o n l ∷ ps) Γ = Γ
  puts (i ∷ is) (L.shr R κ q b o n l ∷ ps) Γ = puts is ps (put 𝓛 i (Shr 𝓤 R κ q b o n l) Γ)
  puts [] (L.mut R κ q b o n γ l ∷ ps) Γ = Γ
  puts (i ∷ is) (L.mut R κ q b o n γ l ∷ ps) Γ = puts is ps (put 𝓛 i (Mut 𝓤 R κ q b o n γ l) Γ)

  abbrev Pr : Item 𝓤 → SProp 𝓤
  Pr i = mean 𝓛 i

  pub takes_out : (is : List ℕ) (Γ : List (Item 𝓤)) → ent 𝓤 (⋆ 𝓛 Γ) (sep 𝓤 (Pr (joined (nths is Γ))) (⋆ 𝓛 (blanks is Γ)))
  takes_out [] Γ = emp∗ 𝓤 (⋆ 𝓛 Γ)
  takes_out (i ∷ is) Γ =
      via 𝓤 (sep 𝓤 (Pr (nth 𝓛 i Γ)) (⋆ 𝓛 (del 𝓛 i Γ))) (pull 𝓛 i Γ)
      (via 𝓤 (sep 𝓤 (Pr (nth 𝓛 i Γ)) (sep 𝓤 (Pr (joined (nths is (put 𝓛 i (‵ ftrue) Γ)))) (⋆ 𝓛 (blanks is (put 𝓛 i (‵ ftrue) Γ)))))
      (mono_r 𝓤 (Pr (nth 𝓛 i Γ)) (via 𝓤 _ (via 𝓤 _ (emp∗ 𝓤 (⋆ 𝓛 (del 𝓛 i Γ))) (fill 𝓛 i (‵ ftrue) Γ)) (takes_out is (put 𝓛 i (‵ ftrue) Γ))))
      (assoc' 𝓤 (Pr (nth 𝓛 i Γ)) (Pr (joined (nths is (put 𝓛 i (‵ ftrue) Γ)))) (⋆ 𝓛 (blanks is (put 𝓛 i (‵ ftrue) Γ)))))

  -- one entry replaces what stands at i
  pub replaces : (i : ℕ) (k : Item 𝓤) (Γ : List (Item 𝓤)) → ent 𝓤 (sep 𝓤 (Pr k) (⋆ 𝓛 Γ)) (⋆ 𝓛 (put 𝓛 i k Γ))
  replaces i k Γ = via 𝓤 _ (mono_r 𝓤 (Pr k) (via 𝓤 _ (pull 𝓛 i Γ) (snd∗ 𝓤 (Pr (nth 𝓛 i Γ)) (⋆ 𝓛 (del 𝓛 i Γ))))) (fill 𝓛 i k Γ)

  module _ where
    both : (is : List ℕ) (i : ℕ) (k : Item 𝓤) (ps : List L.Par) (Γ : List (Item 𝓤)) → ent 𝓤 (sep 𝓤 (Pr (held 𝓤 ps)) (⋆ 𝓛 (put 𝓛 i k Γ))) (⋆ 𝓛 (puts is ps (put 𝓛 i k Γ)))
        → ent 𝓤 (sep 𝓤 (Pr (k ⊛ held 𝓤 ps)) (⋆ 𝓛 Γ)) (⋆ 𝓛 (puts is ps (put 𝓛 i k Γ)))
    both is i k ps Γ more = qed 𝓛 ((k ⊛ held 𝓤 ps) ∷ raw (⋆ 𝓛 Γ) ∷ []) ∵ split ! $ move ! (0 ∷ 2 ∷ []) $ use2 𝓛 (raw (⋆ 𝓛 (put 𝓛 i k Γ))) (replaces i k Γ) $ move ! (1 ∷ 0 ∷ []) $ by ! more

    pub gives_back : (is : List ℕ) (ps : List L.Par) (Γ : List (Item 𝓤)) → ent 𝓤 (sep 𝓤 (Pr (held 𝓤 ps)) (⋆ 𝓛 Γ)) (⋆ 𝓛 (puts is ps Γ))
    gives_back is [] Γ = snd∗ 𝓤 (emp 𝓤) (⋆ 𝓛 Γ)
    gives_back is (L.val P ∷ ps) Γ = gives_back is ps Γ
    gives_back [] (L.shr R κ q b o n l ∷ ps) Γ = snd∗ 𝓤 (Pr (Shr 𝓤 R κ q b o n l ⊛ held 𝓤 ps)) (⋆ 𝓛 Γ)
    gives_back (i ∷ is) (L.shr R κ q b o n l ∷ ps) Γ = both is i (Shr 𝓤 R κ q b o n l) ps Γ (gives_back is ps (put 𝓛 i (Shr 𝓤 R κ q b o n l) Γ))
    gives_back [] (L.mut R κ q b o n γ l ∷ ps) Γ = snd∗ 𝓤 (Pr (Mut 𝓤 R κ q b o n γ l ⊛ held 𝓤 ps)) (⋆ 𝓛 Γ)
    gives_back (i ∷ is) (L.mut R κ q b o n γ l ∷ ps) Γ = both is i (Mut 𝓤 R κ q b o n γ l) ps Γ (gives_back is ps (put 𝓛 i (Mut 𝓤 R κ q b o n γ l) Γ))

    held_items : (ps : List L.Par) → ent 𝓤 (Pr (held 𝓤 ps)) (⋆ 𝓛 (items ps))
    held_items [] = id⊢ 𝓤 (emp 𝓤)
    held_items (L.val P ∷ ps) = held_items ps
    held_items (L.shr R κ q b o n l ∷ ps) = via 𝓤 _ (mono_r 𝓤 (Pr (Shr 𝓤 R κ q b o n l)) (held_items ps)) (push 𝓛 (Shr 𝓤 R κ q b o n l) (items ps))
    held_items (L.mut R κ q b o n γ l ∷ ps) = via 𝓤 _ (mono_r 𝓤 (Pr (Mut 𝓤 R κ q b o n γ l)) (held_items ps)) (push 𝓛 (Mut 𝓤 R κ q b o n γ l) (items ps))

    items_held : (ps : List L.Par) → ent 𝓤 (⋆ 𝓛 (items ps)) (Pr (held 𝓤 ps))
    items_held [] = id⊢ 𝓤 (emp 𝓤)
    items_held (L.val P ∷ ps) = items_held ps
    items_held (L.shr R κ q b o n l ∷ ps) = via 𝓤 _ (pop 𝓛 (Shr 𝓤 R κ q b o n l) (items ps)) (mono_r 𝓤 (Pr (Shr 𝓤 R κ q b o n l)) (items_held ps))
    items_held (L.mut R κ q b o n γ l ∷ ps) = via 𝓤 _ (pop 𝓛 (Mut 𝓤 R κ q b o n γ l) (items ps)) (mono_r 𝓤 (Pr (Mut 𝓤 R κ q b o n γ l)) (items_held ps))

    -- ---- a walk begins, and ends
    pub opened : (ps : List Par) {P : SProp 𝓤} → Seq (Go {0}) 𝓛 (items (olds ps)) (prop P) → ent 𝓤 (sep 𝓤 (Pr (tokens 𝓤 (olds ps))) (sem 𝓛 (owned (olds ps)))) P
    opened ps s = via 𝓤 _ (opened-all 𝓛 (olds ps)) (via 𝓤 _ (held_items (olds ps)) s.prf)

    pub opens : (ps : List Par) {P : SProp 𝓤} → Seq (Go {0}) 𝓛 (items (olds ps)) (prop P) → ent 𝓤 (sep 𝓤 (sep 𝓤 (Pr (tokens 𝓤 (olds ps))) (sem 𝓛 (owned (olds ps)))) (emp 𝓤)) P
    opens ps s = via 𝓤 _ (fst∗ 𝓤 _ (emp 𝓤)) (opened ps s)

    pub ends : (ps : List Par) (z : Lists (olds ps)) (P : Plain) (r : Of P) → Has P r → {φ : Type 0} → φ
        → ent 𝓤 (⋆ 𝓛 (items (L.after (olds ps) z))) (sep 𝓤 (sep 𝓤 (Pr (tokens 𝓤 (L.after (olds ps) z))) (sep 𝓤 (sem 𝓛 (owned (L.after (olds ps) z))) (sem 𝓛 ((Row P).own_val r (value P r ∷ []))))) (fact 𝓤 φ))
    ends ps z P r is x = qed 𝓛 (items (L.after (olds ps) z)) ∵ says ! x $ by ! (via 𝓤 _ (items_held (L.after (olds ps) z)) (shut_all 𝓛 (L.after (olds ps) z) (made_after 𝓛 ps z) (made_of 𝓛 P r is)))

-- ---- into a function: its parameters are stored
abbrev pub Typing : List Local → List Val → Type 0
Typing ls [] = Unit {0}
Typing [] (v ∷ vs) = ⊥
Typing (local τ h ∷ ls) (v ∷ vs) = (Holds (has_ty τ v) × WT v) × Typing ls vs

abbrev pub set : List Val → List (Option Val)
set [] = []
set (v ∷ vs) = just v ∷ set vs

-- the locals after the result
abbrev pub Stored : List Local → List Val → Type 0
Stored [] vs = ⊥
Stored (l ∷ ls) vs = Typing ls vs

module _ {M : Type 1} {𝓤 : Ura M} {𝓛 : Logic 𝓤} {K : Type 0} where
  open 𝓛 use {H}

  passes-all : K → (Γ : List (Item 𝓤)) (ls : List Local) (bs : Blocks ls) (vs : List Val) → Typing ls vs → {g : Goal 𝓤 H} → Seq K 𝓛 (Γ ++ cells 𝓛 ls bs (set vs)) g → Seq K 𝓛 (Γ ++ cells 𝓛 ls bs []) (passes (env_of 𝓛 ls bs) vs g)
  passes-all t Γ ls bs [] ok s = pass0 t $ s
  passes-all t Γ [] bs (v ∷ vs) ok s = absurd ok
  passes-all t Γ (local τ h ∷ ls) bs (v ∷ vs) ok {g} s =
      at_front (passes-all t (‵ (fat full_share τ bs.0 0 v) ∷ ‵ (fdies τ bs.0) ∷ Γ) ls bs.1 vs ok.1 {g = g}
      (by t (via 𝓤 _ (behind 𝓛 (‵ (fat full_share τ bs.0 0 v)) (‵ (fdies τ bs.0)) Γ (cells 𝓛 ls bs.1 (set vs))) s.prf)))
    where
      at_front : Seq K 𝓛 (‵ (fat full_share τ bs.0 0 v) ∷ ‵ (fdies τ bs.0) ∷ Γ ++ cells 𝓛 ls bs.1 []) (passes (env_of 𝓛 ls bs.1) vs g)
          → Seq K 𝓛 (Γ ++ ‵ (froom τ bs.0 0) ∷ ‵ (fdies τ bs.0) ∷ cells 𝓛 ls bs.1 []) (passes ((τ, bs.0) ∷ env_of 𝓛 ls bs.1) (v ∷ vs) g)
      at_front u =
          let stored : Seq K 𝓛 (‵ (froom τ bs.0 0) ∷ ‵ (fdies τ bs.0) ∷ Γ ++ cells 𝓛 ls bs.1 []) (passes ((τ, bs.0) ∷ env_of 𝓛 ls bs.1) (v ∷ vs) g) = pass1 t (init t 0 refl ok.0) $ u in
          by t (via 𝓤 _ (before 𝓛 (‵ (froom τ bs.0 0)) (‵ (fdies τ bs.0)) Γ (cells 𝓛 ls bs.1 [])) stored.prf)

  storing : K → (Γ : List (Item 𝓤)) (ls : List Local) (bs : Blocks ls) (vs : List Val) → Stored ls vs → {g : Goal 𝓤 H} → Seq K 𝓛 (Γ ++ cells 𝓛 ls bs (none ∷ set vs)) g → Seq K 𝓛 (Γ ++ cells 𝓛 ls bs []) (params' (env_of 𝓛 ls bs) vs g)
  storing t Γ [] bs vs ok s = absurd ok
  storing t Γ (local τ h ∷ ls) bs vs ok {g} s =
      let rest : Seq K 𝓛 (‵ (froom τ bs.0 0) ∷ ‵ (fdies τ bs.0) ∷ Γ ++ cells 𝓛 ls bs.1 []) (passes (env_of 𝓛 ls bs.1) vs g) =
      passes-all t (‵ (froom τ bs.0 0) ∷ ‵ (fdies τ bs.0) ∷ Γ) ls bs.1 vs ok (by t (via 𝓤 _ (behind 𝓛 (‵ (froom τ bs.0 0)) (‵ (fdies τ bs.0)) Γ (cells 𝓛 ls bs.1 (set vs))) s.prf)) in
      by t (via 𝓤 _ (before 𝓛 (‵ (froom τ bs.0 0)) (‵ (fdies τ bs.0)) Γ (cells 𝓛 ls bs.1 [])) rest.prf)

  pub enters : K → {Γ : List (Item 𝓤)} {C : Calls 𝓤 H} {Λ : Loops 𝓤 H} (f : Fn) (vs : List Val) {Kf : Val → SProp 𝓤} → Stored f.locals vs
      → ((bs : Blocks f.locals) → Seq K 𝓛 (Γ ++ cells 𝓛 f.locals bs (none ∷ set vs)) (runs C Λ (env_of 𝓛 f.locals bs) f.body (at_ret (env_of 𝓛 f.locals bs) Kf))) → Seq K 𝓛 Γ (prop (WpFn 𝓤 H C Λ f vs Kf))
  enters t {Γ} {C} {Λ} f vs {Kf} ok k = begins t C Λ f vs Kf (λ bs. storing t Γ f.locals bs vs ok (k bs))

-- a walk may end at the result r and the lists zs: what is held then shows what the contract ensures
pub record End {M : Type 1} {𝓤 : Ura M} (𝓛 : Logic 𝓤) (ps : List Par) (P : Plain) (Kf : Val → SProp 𝓤) (r : P.row.Denot) (zs : Lefts ps) : Type 1 where
  pub shown : ent 𝓤 (⋆ 𝓛 (items 𝓛 (L.after (olds ps) (spread ps zs)))) (Kf (P.val r))
