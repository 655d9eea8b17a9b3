-- A `while` in a walk by the frame (`Frame.antt`). A loop is entered at a context Γ, of which a turn changes only some locals and some lent lists. So its invariant is said by a type X, whose values are the stages of the loop with what holds at each, and by
--     μ : X → ℕ                        a measure that falls
--     vs : X → List (ℕ × Val)          what the locals that change hold, each with its number
--     ps : X → List Par                the references that change, each at its list; `is` says at which entries they stand
-- and `stage` is Γ with those in it. Locals n and those after it are the turn's own: they are forgotten on entry and after each turn.
--     while            the step. What follows has the test at a stage, the turn of a stage at which it holds, and the rest after one at which it fails
--     repeats          the last assignment of a turn, and the stage y that it leads to
-- Assumes `Logic`.
use mathlib.Core.Path.{◌≡◌, refl, ap, subst, sym}
use mathlib.Core.Option.{Option, none, some as just}
use mathlib.Core.List.{List, [], ◌∷◌, ◌++◌}
use mathlib.Core.Bool.{Bool, not}
use mathlib.Core.WellFounded.InvImage
use mathlib.Core.WellFounded.{WellFounded}
use Prim.Native.Nat.{ℕ, zero, suc, ◌+◌, ◌*◌, ◌<◌}
use lib.Dec.{T as Holds}
use lib.ListN.{take, drop as cut}
use lib.WfN.{lt-wf_rel}
use seplogic.Ra.Ura.{Ura}
use base.Fraction.{full_share}
use mir.Syntax.{Ty, ty_bool, copy, Rv as RValue, place, Body, seq, block, loop, assign, cond, skip, exit}
use mir.Val.{Val, vbool, WT, has_ty}
use base.Logic.{SProp, ent, id⊢, via, mono_r}
use base.Fml.{fat, froom, fdies}
use prog.Model.{Model}
use prog.Routine.{Env as Routines}
use prog.Wp.{Env, Calls, Loops, Out, next, spot_of, Wp, after_turn, after_block, after_seq, at_return}
use types.Logic.{Logic}
use contract.Running.{Running}
use types.Kit.{Item, ‵, mean, ⋆, push, pop, nth, put, Post, post, any_q, at_ret, Goal, prop, runs, aim, Seq, Step, step, ◌$◌, ◌∵◌, !, qed, by}
use types.Run.{Below, Rv, store, forget, stop, from, assigns_last, first, blocks, loops, again, exec}
use Rattle.walks.proofs.Over.{On, tabled}
use Rattle.walks.proofs.Walk.{State, cell, laid, states_of, var, makes, whiles}
use Rattle.walks.proofs.Parameters.{Par, olds}
use Rattle.walks.proofs.Entries.{puts}

-- ---- locals n and those after it are forgotten
abbrev keep : ℕ → List State → List State
keep n [] = []
keep zero (c ∷ cs) = (c.0, c.1, none) ∷ keep zero cs
keep (suc n) (c ∷ cs) = c ∷ keep n cs

module _ {M : Type 1} {𝓤 : Ura M} (𝓛 : Logic 𝓤) where
  -- a context with g entries before its locals, of which the first n are kept
  open 𝓛 use {H}

  abbrev pub kept : ℕ → ℕ → List (Item 𝓤) → List (Item 𝓤)
  kept g n Γ = take g Γ ++ laid 𝓛 (keep n (states_of 𝓛 (cut g Γ)))

  -- the same with all of them: it is the context itself
  abbrev pub whole_of : ℕ → List (Item 𝓤) → List (Item 𝓤)
  whole_of g Γ = take g Γ ++ laid 𝓛 (states_of 𝓛 (cut g Γ))

  abbrev pub set_locals : Env 𝓤 H → ℕ → List (ℕ × Val) → List (Item 𝓤) → List (Item 𝓤)
  set_locals E g [] Γ = Γ
  set_locals E g (x ∷ xs) Γ = set_locals E g xs (put 𝓛 (g + 2 * x.0) (‵ (fat full_share (spot_of 𝓤 H E x.0).0 (spot_of 𝓤 H E x.0).1 zero x.1)) Γ)

  -- a stage of a loop that was entered at Γ
  abbrev pub stage : Env 𝓤 H → ℕ → ℕ → List ℕ → List (Item 𝓤) → List (ℕ × Val) → List Par → List (Item 𝓤)
  stage E g n is Γ vs ps = puts 𝓛 is (olds ps) (set_locals E g vs (kept g n Γ))

  under : (Γ Δ Δ' : List (Item 𝓤)) → ent 𝓤 (⋆ 𝓛 Δ) (⋆ 𝓛 Δ') → ent 𝓤 (⋆ 𝓛 (Γ ++ Δ)) (⋆ 𝓛 (Γ ++ Δ'))
  under [] Δ Δ' h = h
  under (i ∷ Γ) Δ Δ' h = via 𝓤 _ (pop 𝓛 i (Γ ++ Δ)) (via 𝓤 _ (mono_r 𝓤 (mean 𝓛 i) (under Γ Δ Δ' h)) (push 𝓛 i (Γ ++ Δ')))

  module _ where
    clears : (τ : Ty) (b : ℕ) (v : Option Val) (Δ : List (Item 𝓤)) → ent 𝓤 (⋆ 𝓛 (cell 𝓛 τ b v ∷ Δ)) (⋆ 𝓛 (‵ (froom τ b zero) ∷ Δ))
    clears τ b none Δ = id⊢ 𝓤 _
    clears τ b (just v) Δ = qed 𝓛 (‵ (fat full_share τ b zero v) ∷ Δ) ∵ forget ! 0 refl $ by ! (id⊢ 𝓤 _)

    keeps : (n : ℕ) (cs : List State) → ent 𝓤 (⋆ 𝓛 (laid 𝓛 cs)) (⋆ 𝓛 (laid 𝓛 (keep n cs)))
    keeps n [] = id⊢ 𝓤 _
    keeps zero (c ∷ cs) = via 𝓤 _ (clears c.0 c.1 c.2 (‵ (fdies c.0 c.1) ∷ laid 𝓛 cs)) (under (‵ (froom c.0 c.1 zero) ∷ ‵ (fdies c.0 c.1) ∷ []) (laid 𝓛 cs) (laid 𝓛 (keep zero cs)) (keeps zero cs))
    keeps (suc n) (c ∷ cs) = under (cell 𝓛 c.0 c.1 c.2 ∷ ‵ (fdies c.0 c.1) ∷ []) (laid 𝓛 cs) (laid 𝓛 (keep n cs)) (keeps n cs)

module _ {M : Type 1} {𝓤 : Ura M} {𝓛 : Logic 𝓤} {K : Type 0} {Γ : List (Item 𝓤)} where
  open 𝓛 use {H}

  pub keeping : K → (g n : ℕ) {G : Goal 𝓤 H} → whole_of 𝓛 g Γ ≡ Γ → Step K 𝓛 (kept 𝓛 g n Γ) G Γ G
  keeping t g n {G} e =
      step (λ s. by t (subst (λ (Δ : List (Item 𝓤)). ent 𝓤 (⋆ 𝓛 Δ) (aim 𝓤 H G)) e
      (via 𝓤 _ (under 𝓛 (take g Γ) (laid 𝓛 (states_of 𝓛 (cut g Γ))) (laid 𝓛 (keep n (states_of 𝓛 (cut g Γ)))) (keeps 𝓛 n (states_of 𝓛 (cut g Γ)))) s.prf)))

module _ {M : Type 1} {𝓤 : Ura M} {𝓛 : Logic 𝓤} {K : Type 0} {Γ : List (Item 𝓤)} {E : Env 𝓤 𝓛.H} where
  -- the goal of the last statement of a turn is that a stage below has come
  open 𝓛 use {H}

  pub repeats : K → (g n : ℕ) {C : Calls 𝓤 H} {Λ : Loops 𝓤 H} {q : Post 𝓤 H} {i : ℕ} {rv : RValue} {v v₀ : Val} → Rv K 𝓛 Γ E rv v
      → nth 𝓛 (g + 2 * i) Γ ≡ ‵ (fat full_share (spot_of 𝓤 H E i).0 (spot_of 𝓤 H E i).1 zero v₀) → Holds (has_ty (spot_of 𝓤 H E i).0 v) × WT v
      → whole_of 𝓛 g (put 𝓛 (g + 2 * i) (‵ (fat full_share (spot_of 𝓤 H E i).0 (spot_of 𝓤 H E i).1 zero v)) Γ) ≡ put 𝓛 (g + 2 * i) (‵ (fat full_share (spot_of 𝓤 H E i).0 (spot_of 𝓤 H E i).1 zero v)) Γ
      → {Δ : List (Item 𝓤)} → Seq K 𝓛 Δ (prop (post 𝓤 H q next)) → Δ ≡ kept 𝓛 g n (put 𝓛 (g + 2 * i) (‵ (fat full_share (spot_of 𝓤 H E i).0 (spot_of 𝓤 H E i).1 zero v)) Γ) → Seq K 𝓛 Γ (runs C Λ E (assign (place i []) rv) q)
  repeats t g n {q = q} {i = i} r e wt whole back is = assigns_last t r (from t (stop t)) (store t (g + 2 * i) e wt) $ keeping t g n whole $ by t (subst (λ (Δ : List (Item 𝓤)). ent 𝓤 (⋆ 𝓛 Δ) (post 𝓤 H q next)) is back.prf)

  pub while : K → {𝓜 : Model 𝓤 H} {𝓡 : Running 𝓤 H 𝓜} {γ : Routines} (𝓣 : On 𝓛 𝓜 𝓡 γ) (g n : ℕ) (is : List ℕ) (X : Type 0) (μ : X → ℕ) (vs : X → List (ℕ × Val)) (ps : X → List Par)
      (test : X → Bool) {c : ℕ} {rv : RValue} {body rest : Body} {Kf : Val → SProp 𝓤}
      → whole_of 𝓛 g Γ ≡ Γ → (x₀ : X) → stage 𝓛 E g n is Γ (vs x₀) (ps x₀) ≡ kept 𝓛 g n Γ
      → ((x : X) → Rv K 𝓛 (stage 𝓛 E g n is Γ (vs x) (ps x)) E rv (vbool (test x)))
      → (spot_of 𝓤 H E c).0 ≡ ty_bool
      → ((x : X) → nth 𝓛 (g + 2 * c) (stage 𝓛 E g n is Γ (vs x) (ps x)) ∷ nth 𝓛 (g + 2 * c) (put 𝓛 (g + 2 * c) (‵ (fat full_share (spot_of 𝓤 H E c).0 (spot_of 𝓤 H E c).1 zero (vbool (test x)))) (stage 𝓛 E g n is Γ (vs x) (ps x))) ∷ []
      ≡ ‵ (froom (spot_of 𝓤 H E c).0 (spot_of 𝓤 H E c).1 zero) ∷ ‵ (fat full_share (spot_of 𝓤 H E c).0 (spot_of 𝓤 H E c).1 zero (vbool (test x))) ∷ [])
      → ((x : X) → Holds (test x) → (q : Post 𝓤 H) → ((y : X) → μ y < μ x → Seq K 𝓛 (stage 𝓛 E g n is Γ (vs y) (ps y)) (prop (post 𝓤 H q next)))
      → Seq K 𝓛 (put 𝓛 (g + 2 * c) (‵ (fat full_share (spot_of 𝓤 H E c).0 (spot_of 𝓤 H E c).1 zero (vbool (test x)))) (stage 𝓛 E g n is Γ (vs x) (ps x))) (runs (tabled 𝓣).C (tabled 𝓣).Λ E body q))
      → ((x : X) → Holds (not (test x)) → Seq K 𝓛 (put 𝓛 (g + 2 * c) (‵ (fat full_share (spot_of 𝓤 H E c).0 (spot_of 𝓤 H E c).1 zero (vbool (test x)))) (stage 𝓛 E g n is Γ (vs x) (ps x))) (runs (tabled 𝓣).C (tabled 𝓣).Λ E rest (at_ret E Kf)))
      → Seq K 𝓛 Γ (runs (tabled 𝓣).C (tabled 𝓣).Λ E (seq (block (loop (seq (assign (place c []) rv) (seq (cond (copy (place c [])) skip (exit 1)) body)))) rest) (at_ret E Kf))
  unfolding after_turn
  while t 𝓣 g n is X μ vs ps test {c} {rv} {body} {rest} {Kf} whole x₀ start reads bool at_c turn after =
      keeping t g n whole $ by t (subst (λ (Δ : List (Item 𝓤)). ent 𝓤 (⋆ 𝓛 Δ) (aim 𝓤 H (runs (tabled 𝓣).C (tabled 𝓣).Λ E (seq (block (loop (seq (assign (place c []) rv) (seq (cond (copy (place c [])) skip (exit 1)) body)))) rest) (at_ret E Kf)))) start begun.prf)
    where
      I : X → List (Item 𝓤)
      I x = stage 𝓛 E g n is Γ (vs x) (ps x)

      Q : Out → SProp 𝓤
      Q = after_block 𝓤 H (after_seq 𝓤 H (Wp 𝓤 H (tabled 𝓣).C (tabled 𝓣).Λ E rest (at_return 𝓤 H E Kf)) (at_return 𝓤 H E Kf))

      After : X → Post 𝓤 H
      After x = any_q (after_turn 𝓤 H (Below 𝓛 (λ (y z : X). μ y < μ z) I x) Q)

      wf : WellFounded (λ (y z : X). μ y < μ z)
      wf = InvImage.wf μ lt-wf_rel.wf

      turns : (x : X) → Seq K 𝓛 (I x) (runs (tabled 𝓣).C (tabled 𝓣).Λ E (seq (assign (place c []) rv) (seq (cond (copy (place c [])) skip (exit 1)) body)) (After x))
      turns x =
          makes t g (reads x) (ap (λ (js : List (Item 𝓤)). nth 𝓛 0 js) (at_c x)) (subst (λ (τ : Ty). Holds (has_ty τ (vbool (test x))) × WT (vbool (test x))) (sym bool) (tt, tt)) $
          whiles t (var t g (ap (λ (js : List (Item 𝓤)). nth 𝓛 1 js) (at_c x))) (λ h. turn x h (After x) (λ y less. by t (again {𝓛 = 𝓛} t (λ (y z : X). μ y < μ z) I x y less).prf)) (λ h. exec t (tabled 𝓣).C (tabled 𝓣).Λ E rest (at_ret E Kf) $ after x h)

      begun : Seq K 𝓛 (I x₀) (runs (tabled 𝓣).C (tabled 𝓣).Λ E (seq (block (loop (seq (assign (place c []) rv) (seq (cond (copy (place c [])) skip (exit 1)) body)))) rest) (at_ret E Kf))
      begun = first t $ blocks t $ loops t (tabled 𝓣) (λ (y z : X). μ y < μ z) wf I turns x₀
