-- How a walk begins and ends, and from a walk to the theorem.
--     if_returns, finish       an early return; the return
--     by_steps, by_steps_asked from a walk to the theorem: of a function that requires nothing, or a fact.        by_steps_at      of a member of a recursive group, which requires a fact
--                      The walk binds a name for each parameter, `𝓣`, by which its steps know the tables, `ends`, and bs, where its locals lie
-- Assumes `Logic`.
use mathlib.Core.Path.{◌≡◌, ap}
use mathlib.Core.Option.{none}
use mathlib.Core.List.{List, [], ◌∷◌, ◌++◌}
use mathlib.Core.Bool.{Bool, not}
use Prim.Native.Nat.{ℕ, zero}
use lib.Dec.{T as Holds, eqb, eqb→eq}
use lib.ListN.{drop as cut}
use seplogic.Ra.Ura.{Ura}
use base.Fraction.{full_share}
use mir.Syntax.{Callee, Fn, Opd as Operand, Body, seq, return, cond, skip}
use mir.Val.{Val, vbool}
use base.Logic.{SProp, ent, sep, emp, id⊢, via, never_e}
use base.Fml.{fat}
use prog.Memory.{Memory}
use prog.Model.{Model}
use prog.Routine.{Routine, Env as Routines}
use prog.Wp.{Env, Tables, spot_of, Wp, WpFn, Closed, Out, next, exits, returns as returnsᴼ, after_seq, at_return}
use types.Logic.{Logic, sem}
use sound.WpLaws.{Wp-mono, WpFn-mono}
use contract.Monad.{Fun, fact}
use contract.Lifetimes.{Lfts, Shares}
use contract.Running.{Running, tables, tables_of}
use types.Kit.{Item, ‵, mean, nth, prop, runs, at_ret, Seq, Go, ◌$◌, !, by}
use types.Run.{Opd, look, returns}
use denote.Laws.{Ises, Are, valss}
use denote.Exit.{yes}
use denote.Signature.{plain, types_at}
use denote.Triple.End.{all}
use denote.Triple.Entry.{Args as EArgs}
use denote.Triple.Spec.{triple_of}
use denote.Triple.Statement.{Contract, Triple}
use denote.Triple.Table.{entered}
use denote.Triple.Clauses.{Ended, Clauses, Lasts, closing}
use denote.Triple.Walked.{needs, Fit, Ending, walk_of, ends_at, walked, walked_at, walk_Meets, walk_meets_at}
use Rattle.lists.proofs.Tests.{T_not_not}
use Rattle.walks.proofs.Over.{over, On, on, tabled}
use Rattle.walks.proofs.Walk.{Blocks, env_of, cells, leaves, tests, laid, states_of, env_at}
use Rattle.walks.proofs.Loans as L
use Rattle.walks.proofs.Loans.{tokens, owned, Lists, Same}
use Rattle.walks.proofs.Types.{Plain, Has, Kind, refs, slots, stays, spells, tells, goes, Names, Each, each_at}
use Rattle.walks.proofs.Parameters.{Par, pars, olds, values, Fits, fits, Lefts, Sames, spread, spread_same}
use Rattle.walks.proofs.Entries.{items, opened, opens, ends, set, Stored, enters, End}
use Rattle.walks.proofs.Calls.{first, others}

module _ {M : Type 1} {𝓤 : Ura M} {𝓛 : Logic 𝓤} {K : Type 0} where
  open 𝓛 use {H}

  module _ {Γ : List (Item 𝓤)} {E : Env 𝓤 H} {𝓜 : Model 𝓤 H} {𝓡 : Running 𝓤 H 𝓜} {γ : Routines} (𝓣 : On 𝓛 𝓜 𝓡 γ) where
    -- an `if` with no `else`, whose body returns
    pub if_returns : K → {Kf : Val → SProp 𝓤} {c : Operand} {a b : Body} {y : Bool} → Opd K 𝓛 Γ E c (vbool y) → (Holds y → Seq K 𝓛 Γ (runs (tabled 𝓣).C (tabled 𝓣).Λ E a (at_ret E Kf)))
        → (Holds (not y) → Seq K 𝓛 Γ (runs (tabled 𝓣).C (tabled 𝓣).Λ E b (at_ret E Kf))) → Seq K 𝓛 Γ (runs (tabled 𝓣).C (tabled 𝓣).Λ E (seq (cond c a skip) b) (at_ret E Kf))
    if_returns t {Kf} {a = a} {b} o held failed = tests t o (λ h. by t (via 𝓤 _ (held h).prf (Wp-mono 𝓤 H 𝓛.laws (tabled 𝓣) E a (at_return 𝓤 H E Kf) (after_seq 𝓤 H (Wp 𝓤 H (tabled 𝓣).C (tabled 𝓣).Λ E b (at_return 𝓤 H E Kf)) (at_return 𝓤 H E Kf)) way))) failed
      where
        way : (out : Out) → ent 𝓤 (at_return 𝓤 H E Kf out) (after_seq 𝓤 H (Wp 𝓤 H (tabled 𝓣).C (tabled 𝓣).Λ E b (at_return 𝓤 H E Kf)) (at_return 𝓤 H E Kf) out)
        way next = never_e 𝓤 _
        way (exits n) = id⊢ 𝓤 _
        way returnsᴼ = id⊢ 𝓤 _

    -- a walk returns the result r, which is in local 0, with the lists zs, where it may end
    pub finish : K → (g : ℕ) {ps : List Par} {P : Plain} {Kf : Val → SProp 𝓤} {r : P.row.Denot} {zs : Lefts ps} → End 𝓛 ps P Kf r zs
        → ◌≡◌ {A = List (Item 𝓤) × Env 𝓤 H} (nth 𝓛 g Γ ∷ items 𝓛 (L.after (olds ps) (spread ps zs)) ++ laid 𝓛 (states_of 𝓛 (cut g Γ)), env_at 𝓛 (states_of 𝓛 (cut g Γ)))
        (‵ (fat full_share (spot_of 𝓤 H E zero).0 (spot_of 𝓤 H E zero).1 zero (P.val r)) ∷ Γ, E)
        → Seq K 𝓛 Γ (runs (tabled 𝓣).C (tabled 𝓣).Λ E return (at_ret E Kf))
    finish t g {ps} {zs = zs} end eq =
        let e = ap (λ (x : List (Item 𝓤) × Env 𝓤 H). x.0) eq in
        returns t (look t g (ap (first 𝓛) e)) $ leaves t g (items 𝓛 (L.after (olds ps) (spread ps zs))) (ap (others 𝓛) e) (ap (λ (x : List (Item 𝓤) × Env 𝓤 H). x.1) eq) $ by t end.shown

-- a test `x != 0` that failed
pub is_zero : (x : ℕ) → Holds (not (not (eqb x 0))) → x ≡ 0
is_zero x h = eqb→eq x 0 (T_not_not (eqb x 0) h)

-- ---- from a walk to the theorem
module _ {M : Type 1} {𝓤 : Ura M} (𝓛 : Logic 𝓤) (𝓜 : Model 𝓤 𝓛.H) (𝓡 : Running 𝓤 𝓛.H 𝓜) (γ : Routines) where
  open 𝓛 use {H}

  abbrev 𝓞 : Tables 𝓤 H
  𝓞 = over 𝓛 𝓜 𝓡 γ

  module _ (ks : List Kind) (P : Plain) where
    -- the signature of a function with these parameters and this result
    abbrev shape : Ended
    shape = record { signature = record { lifetimes = refs ks; outlives = []; params = slots ks; result = plain (λ _. P.row) }; kept = all yes (slots ks) }

    -- `said` is the function's `clauses 𝓛`
    module _ (said : (Memory → SProp 𝓤) → (Routine → Fun 𝓤) → Clauses 𝓤 shape) (f : Fn) where
      abbrev c : Clauses 𝓤 shape
      c = said 𝓜.mem 𝓡.returns

      abbrev Walked : Contract 𝓤
      Walked = walk_of 𝓛 shape (stays ks) c

      abbrev at_entry : (κs : Lfts (refs ks)) (qs : Shares (refs ks)) (a : EArgs shape.signature κs) → (c κs a).ghost → Walked.Ghost
      at_entry κs qs a g = ((κs, qs, tt, a, valss (types_at (slots ks) κs) (spells ks κs) a), g)

      -- what a walk shows
      abbrev Walking : (κs : Lfts (refs ks)) (qs : Shares (refs ks)) (a : EArgs shape.signature κs) → (c κs a).ghost → Type 1
      Walking κs qs a g = ent 𝓤 (Walked.pre (at_entry κs qs a g)) (WpFn 𝓤 H 𝓞.C 𝓞.Λ f (Walked.args (at_entry κs qs a g)) (Walked.post (at_entry κs qs a g)))

      by_walk : (k : Callee) → Closed 𝓤 H (tables 𝓤 H 𝓜 𝓡 γ).C (tables 𝓤 H 𝓜 𝓡 γ).Λ k f
          → ((κs : Lfts (refs ks)) (qs : Shares (refs ks)) (a : EArgs shape.signature κs) (g : (c κs a).ghost) → Are (types_at (slots ks) κs) (Ises (types_at (slots ks) κs)) a (valss (types_at (slots ks) κs) (spells ks κs) a) → Walking κs qs a g)
          → Triple 𝓤 ((tables 𝓤 H 𝓜 𝓡 γ).C k) (triple_of 𝓛 shape.signature (closing 𝓛 shape c))
      unfolding tables_of
      by_walk k closed walk =
          entered 𝓤 H (triple_of 𝓛 shape.signature (closing 𝓛 shape c)) (tables 𝓤 H 𝓜 𝓡 γ).C (tables 𝓤 H 𝓜 𝓡 γ).Λ k f closed
          (walk_Meets 𝓛 shape (stays ks) (goes 𝓛 ks) c (WpFn 𝓤 H 𝓞.C 𝓞.Λ f) (WpFn-mono 𝓤 H 𝓛.laws 𝓞 f)
          (walked 𝓛 shape (stays ks) c (WpFn 𝓤 H 𝓞.C 𝓞.Λ f) (spells ks) (tells ks) (λ κs qs bounds a g are. walk κs qs a g are)))

      -- of one member of a recursive group, at the calls of size t
      by_walk_at : (k : Callee) → Closed 𝓤 H (tables 𝓤 H 𝓜 𝓡 γ).C (tables 𝓤 H 𝓜 𝓡 γ).Λ k f → (size : (κs : Lfts (refs ks)) → EArgs shape.signature κs → ℕ) (t : ℕ)
          → ((κs : Lfts (refs ks)) (qs : Shares (refs ks)) (a : EArgs shape.signature κs) (g : (c κs a).ghost) → Are (types_at (slots ks) κs) (Ises (types_at (slots ks) κs)) a (valss (types_at (slots ks) κs) (spells ks κs) a) → size κs a ≡ t → Walking κs qs a g)
          → (y : (triple_of 𝓛 shape.signature (closing 𝓛 shape c)).Ghost) → size y.0.0 y.0.3 ≡ t
          → ent 𝓤 ((triple_of 𝓛 shape.signature (closing 𝓛 shape c)).pre y)
          (𝓞.C k ((triple_of 𝓛 shape.signature (closing 𝓛 shape c)).args y) ((triple_of 𝓛 shape.signature (closing 𝓛 shape c)).post y))
      unfolding tables_of
      by_walk_at k closed size t walk y e =
          via 𝓤 _ (walk_meets_at 𝓛 shape (stays ks) (goes 𝓛 ks) c (WpFn 𝓤 H 𝓞.C 𝓞.Λ f) (WpFn-mono 𝓤 H 𝓛.laws 𝓞 f) y
          (walked_at 𝓛 shape (stays ks) c (WpFn 𝓤 H 𝓞.C 𝓞.Λ f) y (spells ks y.0.0) (tells ks y.0.0) (λ are. walk y.0.0 y.0.1 y.0.3 y.1 are e))) (closed _ _)

      -- how one ends: at the result r and the lists z
      abbrev Closes : Walked.Ghost → Type 1
      Closes y = (r : P.row.Denot) (z : Lasts shape y.0.0 y.0.3) → Fit shape (stays ks) y.0.0 y.0.3 z → ent 𝓤 (Ending 𝓛 shape (stays ks) c y (P.val r) r z) (Walked.post y (P.val r))

      closes : (y : Walked.Ghost) → Closes y
      closes y r z fit = ends_at 𝓛 shape (stays ks) c y (P.val r) r z fit

      -- ---- the steps of a walk. y is what the contract binds, `own_bound`; `(λ e ok. ok)` and `(λ e c. c)` say that the parameters are those of the kinds ks, and `(λ w κs qs a g are. w (names ks κs qs a are))` that the contract binds them.
      -- A walk has `ends`: it may end at a result and lists of which its contract's `ensures` is shown
      module _ (y : Names ks → Walked.Ghost) where
        abbrev Ensures : Type 1
        Ensures = (e : Names ks) → P.row.Denot → Lists (olds (pars ks e)) → Type 0

        abbrev Fitting : Type 0
        Fitting = (e : Names ks) → Fits (pars ks e) → Stored f.locals (values (pars ks e))

        abbrev Closing : Ensures → Type 1
        Closing Φ = (e : Names ks) → Closes (y e) → (r : P.row.Denot) (z : Lists (olds (pars ks e))) → Same (olds (pars ks e)) z
            → ent 𝓤 (sep 𝓤 (sep 𝓤 (mean 𝓛 (tokens 𝓤 (L.after (olds (pars ks e)) z))) (sep 𝓤 (sem 𝓛 (owned (L.after (olds (pars ks e)) z))) (sem 𝓛 (P.row.own_val r (P.val r ∷ []))))) (fact 𝓤 (Φ e r z))) (Walked.post (y e) (P.val r))

        abbrev Ends : Ensures → Names ks → Type 1
        Ends Φ e = (r : P.row.Denot) → Has P r → (zs : Lefts (pars ks e)) → Sames (pars ks e) zs → Φ e r (spread (pars ks e) zs) → End 𝓛 (pars ks e) P (Walked.post (y e)) r zs

        abbrev Steps : Names ks → Type 1
        Steps e =
            (bs : Blocks f.locals) → Seq (Go {0}) 𝓛 (items 𝓛 (olds (pars ks e)) ++ cells 𝓛 f.locals bs (none ∷ set (values (pars ks e))))
            (runs 𝓞.C 𝓞.Λ (env_of 𝓛 f.locals bs) f.body (at_ret (env_of 𝓛 f.locals bs) (Walked.post (y e))))

        -- from what there is on entry, with R
        abbrev Entered : Names ks → SProp 𝓤 → Type 1
        Entered e R = ent 𝓤 (sep 𝓤 (sep 𝓤 (mean 𝓛 (tokens 𝓤 (olds (pars ks e)))) (sem 𝓛 (owned (olds (pars ks e))))) R) (WpFn 𝓤 H 𝓞.C 𝓞.Λ f (values (pars ks e)) (Walked.post (y e)))

        abbrev Shows : Type 1
        Shows = (κs : Lfts (refs ks)) (qs : Shares (refs ks)) (a : EArgs shape.signature κs) (g : (c κs a).ghost) → Are (types_at (slots ks) κs) (Ises (types_at (slots ks) κs)) a (valss (types_at (slots ks) κs) (spells ks κs) a) → Walking κs qs a g

        abbrev Met : Names ks → Type 1
        Met e = ent 𝓤 (Walked.pre (y e)) (WpFn 𝓤 H 𝓞.C 𝓞.Λ f (Walked.args (y e)) (Walked.post (y e)))

        module _ {Φ : Ensures} (fit : Fitting) (closing' : Closing Φ) where
          end : (e : Names ks) → Ends Φ e
          end e r is zs same x = record { shown = via 𝓤 _ (ends 𝓛 (pars ks e) (spread (pars ks e) zs) P r is x) (closing' e (closes (y e)) r (spread (pars ks e) zs) (spread_same (pars ks e) zs same)) }

          enter : (e : Names ks) → Steps e → Seq (Go {0}) 𝓛 (items 𝓛 (olds (pars ks e))) (prop (WpFn 𝓤 H 𝓞.C 𝓞.Λ f (values (pars ks e)) (Walked.post (y e))))
          enter e k = enters ! f (values (pars ks e)) (fit e (fits 𝓛 (pars ks e))) k

          module _ (k : Callee) (closed : Closed 𝓤 H (tables 𝓤 H 𝓜 𝓡 γ).C (tables 𝓤 H 𝓜 𝓡 γ).Λ k f) where
            pub by_steps : (((e : Names ks) → Entered e (emp 𝓤)) → Shows) → Each ks (λ e. On 𝓛 𝓜 𝓡 γ → Ends Φ e → Steps e) → Triple 𝓤 ((tables 𝓤 H 𝓜 𝓡 γ).C k) (triple_of 𝓛 shape.signature (closing 𝓛 shape c))
            by_steps shows walk = by_walk k closed (shows (λ e. opens 𝓛 (pars ks e) (enter e (each_at ks _ walk e on (end e)))))

            -- `(λ e x. x)` says that φ is what it requires
            pub by_steps_asked : {φ : Names ks → Type 0} → ((e : Names ks) → Entered e (fact 𝓤 (φ e)) → Met e) → (((e : Names ks) → Met e) → Shows) → Each ks (λ e. On 𝓛 𝓜 𝓡 γ → Ends Φ e → φ e → Steps e)
                → Triple 𝓤 ((tables 𝓤 H 𝓜 𝓡 γ).C k) (triple_of 𝓛 shape.signature (closing 𝓛 shape c))
            by_steps_asked {φ} asks shows walk = by_walk k closed (shows (λ e. asks e (needs 𝓤 (φ e) _ (λ x. opened 𝓛 (pars ks e) (enter e (each_at ks _ walk e on (end e) x))))))

            -- of one member of a recursive group, at the calls of size t; S is what it knows of smaller ones
            pub by_steps_at : {φ : Names ks → Type 0} → ((e : Names ks) → Entered e (fact 𝓤 (φ e)) → Met e) → (size : (κs : Lfts (refs ks)) → EArgs shape.signature κs → ℕ) (t : ℕ) (S : Names ks → Type 1)
                → (((e : Names ks) → S e → Met e) → (κs : Lfts (refs ks)) (qs : Shares (refs ks)) (a : EArgs shape.signature κs) (g : (c κs a).ghost) → Are (types_at (slots ks) κs) (Ises (types_at (slots ks) κs)) a (valss (types_at (slots ks) κs) (spells ks κs) a)
                → size κs a ≡ t → Walking κs qs a g)
                → Each ks (λ e. S e → On 𝓛 𝓜 𝓡 γ → Ends Φ e → φ e → Steps e)
                → (x : (triple_of 𝓛 shape.signature (closing 𝓛 shape c)).Ghost) → size x.0.0 x.0.3 ≡ t
                → ent 𝓤 ((triple_of 𝓛 shape.signature (closing 𝓛 shape c)).pre x)
                (𝓞.C k ((triple_of 𝓛 shape.signature (closing 𝓛 shape c)).args x) ((triple_of 𝓛 shape.signature (closing 𝓛 shape c)).post x))
            by_steps_at {φ} asks size t S shows walk = by_walk_at k closed size t (shows (λ e self. asks e (needs 𝓤 (φ e) _ (λ x. opened 𝓛 (pars ks e) (enter e (each_at ks _ walk e self on (end e) x))))))
