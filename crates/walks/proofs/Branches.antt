-- An `if` with no `else` in a walk by the frame (`Frame.antt`), after which both ways go on. It is entered at a context Γ, of which the branch changes only
-- some locals and some lent lists. So where the ways meet is said as of a loop (`Loops.antt`): by a type X, whose values are the ways that the rest may be
-- come to, each with what holds there; by `vs` and `ps`, what the locals and the references that change hold; and locals n and those after it are forgotten.
--     if_joins         the step. What follows has the rest at each value of X, the branch, and the value of X where it is not taken.
--                      The branch ends by `repeats` of `Loops.antt`
-- Assumes `Logic`.
use mathlib.Core.Path.{◌≡◌, subst}
use mathlib.Core.List.{List}
use mathlib.Core.Bool.{Bool, not}
use Prim.Native.Nat.{ℕ}
use lib.Dec.{T as Holds}
use seplogic.Ra.Ura.{Ura}
use mir.Syntax.{Opd as Operand, Body, seq, cond, skip}
use mir.Val.{Val, vbool}
use base.Logic.{ent}
use prog.Model.{Model}
use prog.Routine.{Env as Routines}
use prog.Wp.{Env, Wp, next, after_seq}
use types.Logic.{Logic}
use contract.Running.{Running}
use types.Kit.{Item, ⋆, Post, post, any_q, prop, runs, aim, Seq, ◌$◌, by}
use types.Run.{Opd, exec}
use Rattle.walks.proofs.Over.{On, tabled}
use Rattle.walks.proofs.Walk.{tests}
use Rattle.walks.proofs.Parameters.{Par}
use Rattle.walks.proofs.Loops.{kept, whole_of, stage, keeping}

module _ {M : Type 1} {𝓤 : Ura M} {𝓛 : Logic 𝓤} {K : Type 0} {Γ : List (Item 𝓤)} {E : Env 𝓤 𝓛.H} where
  open 𝓛 use {H}

  pub if_joins : K → {𝓜 : Model 𝓤 H} {𝓡 : Running 𝓤 H 𝓜} {γ : Routines} (𝓣 : On 𝓛 𝓜 𝓡 γ) (g n : ℕ) (is : List ℕ) (X : Type 0) (vs : X → List (ℕ × Val))
      (ps : X → List Par) {c : Operand} {a b : Body} {y : Bool} {q : Post 𝓤 H}
      → Opd K 𝓛 Γ E c (vbool y)
      → (Holds y → (q' : Post 𝓤 H) → ((x : X) → Seq K 𝓛 (stage 𝓛 E g n is Γ (vs x) (ps x)) (prop (post 𝓤 H q' next))) → Seq K 𝓛 Γ (runs (tabled 𝓣).C (tabled 𝓣).Λ E a q'))
      → whole_of 𝓛 g Γ ≡ Γ → (Holds (not y) → (x : X) × (stage 𝓛 E g n is Γ (vs x) (ps x) ≡ kept 𝓛 g n Γ))
      → ((x : X) → Seq K 𝓛 (stage 𝓛 E g n is Γ (vs x) (ps x)) (runs (tabled 𝓣).C (tabled 𝓣).Λ E b q))
      → Seq K 𝓛 Γ (runs (tabled 𝓣).C (tabled 𝓣).Λ E (seq (cond c a skip) b) q)
  if_joins t 𝓣 g n is X vs ps {b = b} {q = q} test taken whole left rest =
      tests t test (λ h. taken h (any_q (after_seq 𝓤 H (Wp 𝓤 H (tabled 𝓣).C (tabled 𝓣).Λ E b (post 𝓤 H q)) (post 𝓤 H q))) (λ x. exec t (tabled 𝓣).C (tabled 𝓣).Λ E b q $ rest x))
      (λ h. let (x, e) = left h in keeping t g n whole $ by t (subst (λ (Δ : List (Item 𝓤)). ent 𝓤 (⋆ 𝓛 Δ) (aim 𝓤 H (runs (tabled 𝓣).C (tabled 𝓣).Λ E b q))) e (rest x).prf))
