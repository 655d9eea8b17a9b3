-- A call as one step of a walk, and what comes before it.
--     calls            `at` says where the references that it takes stand, and they are back there, at the lists that were left. It takes the callee's theorem, `met 𝓤 𝓛 𝓜 𝓡 (code.calls-F 𝓡.env wired)`
--     calls_asked      the same of a callee that requires a fact.        recalls, recalls_asked    the same where the local of the result held something
--     calls_into, calls_by     the same by the callee's theorem at the loans of the call, as that of a recursive call; by operands that are shown by hand
--     relend           the two statements before a `&mut` slice is passed on.        counts       the count of a slice is read
--     shares_at, unshares_at   a `&mut` slice is lent as a shared one, and comes back as it was
-- Assumes `Logic`.
use mathlib.Core.Path.{◌≡◌, refl, sym, ap, subst}
use mathlib.Core.Bool.{Bool, true, false, ◌&&◌}
use mathlib.Core.Option.{Option, none, some as just}
use mathlib.Core.List.{List, [], ◌∷◌}
use Prim.Native.Nat.{ℕ, zero, suc, ◌+◌, ◌*◌, ◌^◌}
use lib.Dec.{T as Holds, ltb}
use lib.ListN.{length}
use seplogic.Ra.Ura.{Ura}
use base.Fraction.{full_share}
use mir.Syntax.{Callee, Lifetime, Mutability, w64, Ty, ty_unit, ty_int, ty_ref, rv_opd, Opd as Operand, copy, int, int_neg, int_big, float, opd_true, opd_false, opd_unit, ptr_const, size_of, align_of, num_of, fn_addr, vtable, Body, place, field, deref, seq, call, assign, addr_of, aggregate}
use mir.Val.{Val, vunit, vptr, vint, bits, WT, has_ty}
use base.Logic.{SProp, ent, sep, emp, id⊢, via, mono_r}
use base.Fml.{ftrue, fat, froom}
use prog.Model.{Model}
use prog.Routine.{Routine, Env as Routines}
use prog.Wp.{Env, Calls, Loops, Tables, spot_of}
use types.Logic.{Logic, sem}
use sound.WpLaws.{fm_of}
use contract.Monad.{fact, fact_i}
use contract.Running.{Running, tables_of}
use types.Kit.{Item, ‵, raw, mean, ⋆, push, pop, pull, fill, nth, put, del, Post, Goal, Soaks, runs, lands, Seq, Step, step, ◌$◌, by, use2, move}
use types.Run.{lit, of_opd, Opd, Opds, Writes, look, init, store, stop, from, load, and_then, no_more, land}
use denote.RattleType.{RattleType}
use denote.Laws.{Is}
use denote.Slice.{slice_ty}
use denote.Shares.{Shares}
use denote.Steps.{only}
use Rattle.lists.proofs.Tests.{T_and}
use Rattle.walks.proofs.Over.{On, tabled}
use Rattle.walks.proofs.Walk.{item_state, part_of, makes, relends}
use Rattle.walks.proofs.Hold.{Mut, Shr, Kept, shared as sharing, unshared as unsharing}
use Rattle.walks.proofs.Loans as L
use Rattle.walks.proofs.Loans.{held, tokens, owned, Lists, Loans, Same, Takes, Gives, lent-call-all}
use Rattle.walks.proofs.Types.{Plain, Has, Slice, count, slice_of}
use Rattle.walks.proofs.Parameters.{Par, Bound, bound, own_bound, Meeting, meets_at, olds, values, sized, typed, slice_fits, made, Lefts, Sames, spread, compact, compact_same, spread_compact}
use Rattle.walks.proofs.Entries.{joined, blanks, nths, puts, takes_out, gives_back}

-- what a callee asks for, once it is known
pub asks : {M : Type 1} {𝓤 : Ura M} (𝓛 : Logic 𝓤) {φ : Type 0} → φ → ent 𝓤 (emp 𝓤) (fact 𝓤 φ)
asks {𝓤 = 𝓤} 𝓛 {φ} x = fact_i 𝓤 φ (emp 𝓤) x

-- ---- a call: its operands are locals and literals
abbrev pub vars? : List Operand → List Val → Bool
vars? [] [] = true
vars? [] (v ∷ vs) = false
vars? (copy (place i []) ∷ os) [] = false
vars? (copy (place i []) ∷ os) (v ∷ vs) = vars? os vs
vars? (copy (place i (s ∷ ss)) ∷ os) vs = false
vars? (int w n ∷ os) [] = false
vars? (int w n ∷ os) (v ∷ vs) = ltb n (2 ^ bits w) && vars? os vs
vars? (int_neg w n ∷ os) vs = false
vars? (int_big w n ∷ os) vs = false
vars? (float f n ∷ os) vs = false
vars? (opd_true ∷ os) vs = false
vars? (opd_false ∷ os) vs = false
vars? (opd_unit ∷ os) vs = false
vars? (ptr_const n ∷ os) vs = false
vars? (size_of τ ∷ os) vs = false
vars? (align_of τ ∷ os) vs = false
vars? (num_of w τ ∷ os) vs = false
vars? (fn_addr f g ∷ os) vs = false
vars? (vtable τ ss ∷ os) vs = false

abbrev pub first_ty : List Ty → Ty
first_ty [] = ty_unit
first_ty (τ ∷ τs) = τ

abbrev pub other_tys : List Ty → List Ty
other_tys [] = []
other_tys (τ ∷ τs) = τs

abbrev told_of : Option Val → Val
told_of none = vunit
told_of (just v) = v

module _ {M : Type 1} {𝓤 : Ura M} (𝓛 : Logic 𝓤) where
  -- the cells of the operands, and what they are to hold. A literal stands in one of its own
  open 𝓛 use {H}

  abbrev literal : Val → Item 𝓤
  literal v = ‵ (fat full_share ty_unit 0 zero v)

  abbrev lit_of : Item 𝓤 → Val
  lit_of i = told_of (item_state 𝓛 i).2

  abbrev read_cell : List (Item 𝓤) → ℕ → Operand → Item 𝓤
  read_cell Γ g (copy (place i ss)) = nth 𝓛 (g + 2 * i) Γ
  read_cell Γ g (int w n) = literal (vint w n)
  read_cell Γ g (int_neg w n) = ‵ ftrue
  read_cell Γ g (int_big w n) = ‵ ftrue
  read_cell Γ g (float f n) = ‵ ftrue
  read_cell Γ g opd_true = ‵ ftrue
  read_cell Γ g opd_false = ‵ ftrue
  read_cell Γ g opd_unit = ‵ ftrue
  read_cell Γ g (ptr_const n) = ‵ ftrue
  read_cell Γ g (size_of τ) = ‵ ftrue
  read_cell Γ g (align_of τ) = ‵ ftrue
  read_cell Γ g (num_of w τ) = ‵ ftrue
  read_cell Γ g (fn_addr f h) = ‵ ftrue
  read_cell Γ g (vtable τ ss) = ‵ ftrue

  abbrev hold_cell : Env 𝓤 H → Operand → Val → Item 𝓤
  hold_cell E (copy (place i ss)) v = ‵ (fat full_share (spot_of 𝓤 H E i).0 (spot_of 𝓤 H E i).1 zero v)
  hold_cell E (int w n) v = literal v
  hold_cell E (int_neg w n) v = ‵ ftrue
  hold_cell E (int_big w n) v = ‵ ftrue
  hold_cell E (float f n) v = ‵ ftrue
  hold_cell E opd_true v = ‵ ftrue
  hold_cell E opd_false v = ‵ ftrue
  hold_cell E opd_unit v = ‵ ftrue
  hold_cell E (ptr_const n) v = ‵ ftrue
  hold_cell E (size_of τ) v = ‵ ftrue
  hold_cell E (align_of τ) v = ‵ ftrue
  hold_cell E (num_of w τ) v = ‵ ftrue
  hold_cell E (fn_addr f h) v = ‵ ftrue
  hold_cell E (vtable τ ss) v = ‵ ftrue

  abbrev pub read_cells : List (Item 𝓤) → ℕ → List Operand → List (Item 𝓤)
  read_cells Γ g [] = []
  read_cells Γ g (o ∷ os) = read_cell Γ g o ∷ read_cells Γ g os

  abbrev pub hold_cells : Env 𝓤 H → List Operand → List Val → List (Item 𝓤)
  hold_cells E [] vs = []
  hold_cells E (o ∷ os) [] = []
  hold_cells E (o ∷ os) (v ∷ vs) = hold_cell E o v ∷ hold_cells E os vs

  abbrev pub first : List (Item 𝓤) → Item 𝓤
  first [] = ‵ ftrue
  first (i ∷ is) = i

  abbrev pub others : List (Item 𝓤) → List (Item 𝓤)
  others [] = []
  others (i ∷ is) = is

  -- the references that a call takes, the cell of its result, and those of its operands
  abbrev pub Shape : List (Item 𝓤) → ℕ → List ℕ → ℕ → List Operand → List (Item 𝓤)
  Shape Γ g is i os = joined 𝓛 (nths 𝓛 is Γ) ∷ nth 𝓛 (g + 2 * i) (blanks 𝓛 is Γ) ∷ read_cells (blanks 𝓛 is Γ) g os

  abbrev pub cell_of : Ty → ℕ → Option Val → Item 𝓤
  cell_of τ b none = ‵ (froom τ b zero)
  cell_of τ b (just v) = ‵ (fat full_share τ b zero v)

  abbrev pub Shown : Env 𝓤 H → List Par → ℕ → Option Val → List Operand → List (Item 𝓤)
  Shown E ps i had os = held 𝓤 (olds ps) ∷ cell_of (spot_of 𝓤 H E i).0 (spot_of 𝓤 H E i).1 had ∷ hold_cells E os (values ps)

  -- the same with the type of the result, and that the operands are locals and literals
  abbrev pub Ty_and_cells : Env 𝓤 H → List (Item 𝓤) → ℕ → List ℕ → List Par → ℕ → List Operand → Ty × List (Item 𝓤) × Bool
  Ty_and_cells E Γ g at ps i os = ((spot_of 𝓤 H E i).0, Shape Γ g at i os, vars? os (values ps))

  abbrev pub Those : Env 𝓤 H → List Par → Plain → ℕ → Option Val → List Operand → Ty × List (Item 𝓤) × Bool
  Those E ps P i had os = (P.ty, Shown E ps i had os, true)

  -- the same with what the callee ensures at the loans of the call, and with what it asks
  abbrev Telling : List Par → Plain → Type 2
  Telling ps P = Ty × List (Item 𝓤) × Bool × (Loans (olds ps) → P.row.Denot → Lists (olds ps) → Type 0)

  abbrev Asking : List Par → Plain → Type 2
  Asking ps P = Ty × List (Item 𝓤) × Bool × (Loans (olds ps) → P.row.Denot → Lists (olds ps) → Type 0) × (Loans (olds ps) → Type 0)

  -- after the call: r is in local i, and the references are back at the lists z
  abbrev Back : Env 𝓤 H → List (Item 𝓤) → ℕ → List ℕ → (ps : List Par) (P : Plain) → ℕ → P.row.Denot → Lists (olds ps) → List (Item 𝓤)
  Back E Γ g at ps P i r z = puts 𝓛 at (L.after (olds ps) z) (put 𝓛 (g + 2 * i) (‵ (fat full_share (spot_of 𝓤 H E i).0 (spot_of 𝓤 H E i).1 zero (P.val r))) (blanks 𝓛 at Γ))

module _ {M : Type 1} {𝓤 : Ura M} {𝓛 : Logic 𝓤} {K : Type 0} where
  open 𝓛 use {H}

  writes : K → (Γ : List (Item 𝓤)) (n : ℕ) {τ : Ty} {b : ℕ} {v : Val} (had : Option Val) → nth 𝓛 n Γ ≡ cell_of 𝓛 τ b had → Holds (has_ty τ v) × WT v → Writes K 𝓛 Γ τ b zero v (put 𝓛 n (‵ (fat full_share τ b zero v)) Γ)
  writes t Γ n none e ok = init t n e ok
  writes t Γ n (just u) e ok = store t n e ok

  vars : K → (j : Item 𝓤) (Γ : List (Item 𝓤)) (E : Env 𝓤 H) (g : ℕ) (os : List Operand) (vs : List Val) → Holds (vars? os vs) → read_cells 𝓛 Γ g os ≡ hold_cells 𝓛 E os vs → Opds K 𝓛 (j ∷ Γ) E os vs
  vars t j Γ E g [] [] ok e = no_more t
  vars t j Γ E g [] (v ∷ vs) ok e = absurd ok
  vars t j Γ E g (copy (place i []) ∷ os) [] ok e = absurd ok
  vars t j Γ E g (copy (place i []) ∷ os) (v ∷ vs) ok e = and_then t (load t (from t (stop t)) (look t (suc (g + 2 * i)) (ap (first 𝓛) e))) (vars t j Γ E g os vs ok (ap (others 𝓛) e))
  vars t j Γ E g (copy (place i (s ∷ ss)) ∷ os) vs ok e = absurd ok
  vars t j Γ E g (int w x ∷ os) [] ok e = absurd ok
  vars t j Γ E g (int w x ∷ os) (v ∷ vs) ok e =
      and_then t (subst (λ (u : Val). Opd K 𝓛 (j ∷ Γ) E (int w x) u) (ap (λ (js : List (Item 𝓤)). lit_of 𝓛 (first 𝓛 js)) e) (lit t ((T_and (ltb x (2 ^ bits w)) (vars? os vs)).0 ok).0))
      (vars t j Γ E g os vs ((T_and (ltb x (2 ^ bits w)) (vars? os vs)).0 ok).1 (ap (others 𝓛) e))
  vars t j Γ E g (int_neg w x ∷ os) vs ok e = absurd ok
  vars t j Γ E g (int_big w x ∷ os) vs ok e = absurd ok
  vars t j Γ E g (float f x ∷ os) vs ok e = absurd ok
  vars t j Γ E g (opd_true ∷ os) vs ok e = absurd ok
  vars t j Γ E g (opd_false ∷ os) vs ok e = absurd ok
  vars t j Γ E g (opd_unit ∷ os) vs ok e = absurd ok
  vars t j Γ E g (ptr_const x ∷ os) vs ok e = absurd ok
  vars t j Γ E g (size_of τ ∷ os) vs ok e = absurd ok
  vars t j Γ E g (align_of τ ∷ os) vs ok e = absurd ok
  vars t j Γ E g (num_of w τ ∷ os) vs ok e = absurd ok
  vars t j Γ E g (fn_addr f h ∷ os) vs ok e = absurd ok
  vars t j Γ E g (vtable τ ss ∷ os) vs ok e = absurd ok

  module _ {Γ : List (Item 𝓤)} {E : Env 𝓤 H} {C : Calls 𝓤 H} {Λ : Loops 𝓤 H} {q : Post 𝓤 H} where
    -- `p = &mut *s.0;  t = (p, s.1)`, the two statements before the slice s is passed on as t: p is local j
    pub relend : K → (g : ℕ) {R : RattleType} (s : Slice R) {i j t : ℕ} {ℓ ℓ' ℓ'' : Lifetime} {μ μ' μ'' : Mutability} {σ σ' σ'' τ : Ty} {rest : Body}
        → ◌≡◌ {A = List Ty × List (Item 𝓤)} (
          (spot_of 𝓤 H E i).0 ∷ (spot_of 𝓤 H E j).0 ∷ (spot_of 𝓤 H E t).0 ∷ [],
          nth 𝓛 (g + 2 * i) Γ ∷ nth 𝓛 (g + 2 * j) Γ ∷
              read_cells 𝓛 (put 𝓛 (g + 2 * j) (‵ (fat full_share (spot_of 𝓤 H E j).0 (spot_of 𝓤 H E j).1 zero (vptr s.block s.off))) Γ) g (copy (place j []) ∷ copy (place i []) ∷ copy (place t []) ∷ []),
        ) (
          slice_ty (ty_ref ℓ μ σ) ∷ ty_ref ℓ' μ' σ' ∷ slice_ty (ty_ref ℓ'' μ'' σ'') ∷ [],
          ‵ (fat full_share (slice_ty (ty_ref ℓ μ σ)) (spot_of 𝓤 H E i).1 zero (slice_of s)) ∷ ‵ (froom (spot_of 𝓤 H E j).0 (spot_of 𝓤 H E j).1 zero) ∷
              ‵ (fat full_share (spot_of 𝓤 H E j).0 (spot_of 𝓤 H E j).1 zero (vptr s.block s.off)) ∷ ‵ (fat full_share (slice_ty (ty_ref ℓ μ σ)) (spot_of 𝓤 H E i).1 zero (slice_of s)) ∷ ‵ (froom (spot_of 𝓤 H E t).0 (spot_of 𝓤 H E t).1 zero) ∷ [],
        )
        → Step K 𝓛 (put 𝓛 (g + 2 * t) (‵ (fat full_share (spot_of 𝓤 H E t).0 (spot_of 𝓤 H E t).1 zero (slice_of s))) (put 𝓛 (g + 2 * j) (‵ (fat full_share (spot_of 𝓤 H E j).0 (spot_of 𝓤 H E j).1 zero (vptr s.block s.off))) Γ)) (runs C Λ E rest q)
        Γ (runs C Λ E (seq (assign (place j []) (addr_of (place i (field 0 ∷ deref τ ∷ [])))) (seq (assign (place t []) (aggregate (copy (place j []) ∷ copy (place i (field 1 ∷ [])) ∷ []))) rest)) q)
    relend k g s eq =
        let tys = ap (λ (x : List Ty × List (Item 𝓤)). x.0) eq in
        let e = ap (λ (x : List Ty × List (Item 𝓤)). x.1) eq in
        let nd : List (Item 𝓤) → Item 𝓤 = λ js. first 𝓛 (others 𝓛 js) in
        relends k g (ap (first 𝓛) e) (ap first_ty tys) (ap nd e)
        (subst (λ (σ : Ty). Holds (has_ty σ (vptr s.block s.off)) × WT (vptr s.block s.off)) (sym (ap (λ (τs : List Ty). first_ty (other_tys τs)) tys)) (tt, tt))
        (ap (λ (js : List (Item 𝓤)). nd (others 𝓛 js)) e) (ap (λ (js : List (Item 𝓤)). nd (others 𝓛 (others 𝓛 js))) e)
        (ap (λ (js : List (Item 𝓤)). nd (others 𝓛 (others 𝓛 (others 𝓛 js)))) e)
        (subst (λ (σ : Ty). Holds (has_ty σ (slice_of s)) × WT (slice_of s)) (sym (ap (λ (τs : List Ty). first_ty (other_tys (other_tys τs))) tys)) (slice_fits 𝓛 s))

    -- `n = s.1`
    pub counts : K → (g : ℕ) {R : RattleType} (s : Slice R) {i j : ℕ} {ℓ : Lifetime} {μ : Mutability} {σ : Ty} {rest : Body}
        → ◌≡◌ {A = List Ty × List (Item 𝓤)} ((spot_of 𝓤 H E i).0 ∷ (spot_of 𝓤 H E j).0 ∷ [], nth 𝓛 (g + 2 * i) Γ ∷ nth 𝓛 (g + 2 * j) Γ ∷ [])
        (slice_ty (ty_ref ℓ μ σ) ∷ ty_int w64 ∷ [], ‵ (fat full_share (slice_ty (ty_ref ℓ μ σ)) (spot_of 𝓤 H E i).1 zero (slice_of s)) ∷ ‵ (froom (spot_of 𝓤 H E j).0 (spot_of 𝓤 H E j).1 zero) ∷ [])
        → Step K 𝓛 (put 𝓛 (g + 2 * j) (‵ (fat full_share (spot_of 𝓤 H E j).0 (spot_of 𝓤 H E j).1 zero (vint w64 (count s)))) Γ) (runs C Λ E rest q) Γ (runs C Λ E (seq (assign (place j []) (rv_opd (copy (place i (field 1 ∷ []))))) rest) q)
    counts k g s eq =
        let tys = ap (λ (x : List Ty × List (Item 𝓤)). x.0) eq in
        let e = ap (λ (x : List Ty × List (Item 𝓤)). x.1) eq in
        makes k g (of_opd k (part_of k g 1 (ap (first 𝓛) e) (ap (λ (τs : List Ty). first_ty τs) tys) refl)) (ap (λ (js : List (Item 𝓤)). first 𝓛 (others 𝓛 js)) e)
        (subst (λ (σ : Ty). Holds (has_ty σ (vint w64 (count s))) × WT (vint w64 (count s))) (sym (ap (λ (τs : List Ty). first_ty (other_tys τs)) tys)) (tt, record { fits = s.room.0 }))

  module _ {Γ : List (Item 𝓤)} {E : Env 𝓤 H} {q : Post 𝓤 H} (𝓣 : Tables 𝓤 H) where
    -- `had` is what its result's local held before; the operands are shown by hand
    pub calls_by : K → (g : ℕ) (is : List ℕ) (ps : List Par) (P : Plain) (had : Option Val) {Asks : SProp 𝓤} (Φ : P.row.Denot → Lists (olds ps) → Type 0) {f : Callee} {os : List Operand} {i : ℕ} {rest : Body}
        → ((xs : Loans (olds ps)) → ent 𝓤 (Takes 𝓛 (olds ps) xs Asks) (𝓣.C f (values ps) (Gives 𝓛 (olds ps) xs P.row Φ)))
        → ent 𝓤 (emp 𝓤) Asks → ((j : Item 𝓤) → Opds K 𝓛 (j ∷ blanks 𝓛 is Γ) E os (values ps)) → (spot_of 𝓤 H E i).0 ≡ P.ty
        → joined 𝓛 (nths 𝓛 is Γ) ∷ nth 𝓛 (g + 2 * i) (blanks 𝓛 is Γ) ∷ [] ≡ held 𝓤 (olds ps) ∷ cell_of 𝓛 (spot_of 𝓤 H E i).0 (spot_of 𝓤 H E i).1 had ∷ []
        → ((r : P.row.Denot) → Has P r → (zs : Lefts ps) → Φ r (spread ps zs) → Sames ps zs
        → Seq K 𝓛 (puts 𝓛 is (L.after (olds ps) (spread ps zs)) (put 𝓛 (g + 2 * i) (‵ (fat full_share (spot_of 𝓤 H E i).0 (spot_of 𝓤 H E i).1 zero (P.val r))) (blanks 𝓛 is Γ))) (runs 𝓣.C 𝓣.Λ E rest q))
        → Seq K 𝓛 Γ (runs 𝓣.C 𝓣.Λ E (seq (call f os (place i [])) rest) q)
    calls_by t g is ps P had {Asks} Φ {f} {os} {i} {rest} met asked opds τ e k =
        by t (via 𝓤 _ (subst (λ (j : Item 𝓤). ent 𝓤 (⋆ 𝓛 Γ) (sep 𝓤 (mean 𝓛 j) (⋆ 𝓛 (blanks 𝓛 is Γ)))) (ap (first 𝓛) e) (takes_out 𝓛 is Γ)) (via 𝓤 _ (push 𝓛 (held 𝓤 (olds ps)) (blanks 𝓛 is Γ)) called.prf))
      where
        -- the result is stored, and the references are put back
        stored : (r : P.row.Denot) (z : Lists (olds ps)) → Has P r → Φ r z → Same (olds ps) z → Seq K 𝓛 (held 𝓤 (L.after (olds ps) z) ∷ blanks 𝓛 is Γ) (lands 𝓣.C 𝓣.Λ E (place i []) (P.val r) rest q)
        stored r z has φ same =
            land t (from t (stop t)) (writes t (held 𝓤 (L.after (olds ps) z) ∷ blanks 𝓛 is Γ) (suc (g + 2 * i)) had (ap (λ (js : List (Item 𝓤)). first 𝓛 (others 𝓛 js)) e) (subst (λ (σ : Ty). Holds (has_ty σ (P.val r)) × WT (P.val r)) (sym τ) (typed 𝓛 P r has))) $
            by t (via 𝓤 _ (pop 𝓛 (held 𝓤 (L.after (olds ps) z)) (put 𝓛 (g + 2 * i) (‵ (fat full_share (spot_of 𝓤 H E i).0 (spot_of 𝓤 H E i).1 zero (P.val r))) (blanks 𝓛 is Γ)))
            (via 𝓤 _ (gives_back 𝓛 is (L.after (olds ps) z) (put 𝓛 (g + 2 * i) (‵ (fat full_share (spot_of 𝓤 H E i).0 (spot_of 𝓤 H E i).1 zero (P.val r))) (blanks 𝓛 is Γ)))
            (subst (λ (y : Lists (olds ps)). Φ r y → Seq K 𝓛 (Back 𝓛 E Γ g is ps P i r y) (runs 𝓣.C 𝓣.Λ E rest q)) (spread_compact ps z) (λ ψ. k r has (compact ps z) ψ (compact_same ps z same)) φ).prf))

        told : (w : Val) (r : P.row.Denot) (z : Lists (olds ps)) → Is P.row r (w ∷ []) → Φ r z → Same (olds ps) z → Seq K 𝓛 (held 𝓤 (L.after (olds ps) z) ∷ blanks 𝓛 is Γ) (lands 𝓣.C 𝓣.Λ E (place i []) w rest q)
        told w r z is' φ same = subst (λ (u : Val). Is P.row r (u ∷ []) → Seq K 𝓛 (held 𝓤 (L.after (olds ps) z) ∷ blanks 𝓛 is Γ) (lands 𝓣.C 𝓣.Λ E (place i []) u rest q)) (sym (ap only (P.tells r (w ∷ []) is'))) (λ has. stored r z has φ same) is'

        called : Seq K 𝓛 (held 𝓤 (olds ps) ∷ blanks 𝓛 is Γ) (runs 𝓣.C 𝓣.Λ E (seq (call f os (place i [])) rest) q)
        called = lent-call-all 𝓛 (olds ps) (sized ps) P.row Φ (made 𝓛 ps) t (fm_of 𝓤 H 𝓛.laws 𝓣) (values ps) Asks asked met opds told

    -- its operands are locals and literals
    pub calls_into : K → (g : ℕ) (at : List ℕ) (ps : List Par) (P : Plain) (had : Option Val) {Asks : SProp 𝓤} (Φ : P.row.Denot → Lists (olds ps) → Type 0) {f : Callee} {os : List Operand} {i : ℕ} {rest : Body}
        → ((xs : Loans (olds ps)) → ent 𝓤 (Takes 𝓛 (olds ps) xs Asks) (𝓣.C f (values ps) (Gives 𝓛 (olds ps) xs P.row Φ)))
        → ent 𝓤 (emp 𝓤) Asks → Ty_and_cells 𝓛 E Γ g at ps i os ≡ Those 𝓛 E ps P i had os
        → ((r : P.row.Denot) → Has P r → (zs : Lefts ps) → Φ r (spread ps zs) → Sames ps zs
        → Seq K 𝓛 (Back 𝓛 E Γ g at ps P i r (spread ps zs)) (runs 𝓣.C 𝓣.Λ E rest q))
        → Seq K 𝓛 Γ (runs 𝓣.C 𝓣.Λ E (seq (call f os (place i [])) rest) q)
    calls_into t g at ps P had Φ {os = os} met asked eq k =
        let e = ap (λ (x : Ty × List (Item 𝓤) × Bool). x.1) eq in
        let ok = subst (λ (y : Bool). Holds y) (sym (ap (λ (x : Ty × List (Item 𝓤) × Bool). x.2) eq)) tt in
        calls_by t g at ps P had Φ met asked (λ j. vars t j (blanks 𝓛 at Γ) E g os (values ps) ok (ap (λ (js : List (Item 𝓤)). others 𝓛 (others 𝓛 js)) e)) (ap (λ (x : Ty × List (Item 𝓤) × Bool). x.0) eq)
        (ap (λ (js : List (Item 𝓤)). first 𝓛 js ∷ first 𝓛 (others 𝓛 js) ∷ []) e) k

-- ---- a call, by the callee's theorem
-- what a function of these parameters is proved to meet, where it asks R and ensures Φ: its `met`, at what the walk is over
abbrev Met : {M : Type 1} {𝓤 : Ura M} (𝓛 : Logic 𝓤) (𝓜 : Model 𝓤 𝓛.H) (𝓡 : Running 𝓤 𝓛.H 𝓜) (ps : List Par) (P : Plain) → (Bound ps → SProp 𝓤) → (Bound ps → P.row.Denot → Lists (olds ps) → Type 0) → Routine → Type 1
Met 𝓛 𝓜 𝓡 ps P R Φ f = (y : Bound ps) → Meeting 𝓛 ps P.row (Φ y) (R y) (𝓡.run f) y

module _ {M : Type 1} {𝓤 : Ura M} {𝓛 : Logic 𝓤} {𝓜 : Model 𝓤 𝓛.H} {𝓡 : Running 𝓤 𝓛.H 𝓜} {γ : Routines} (𝓣 : On 𝓛 𝓜 𝓡 γ) {K : Type 0} {Γ : List (Item 𝓤)} {E : Env 𝓤 𝓛.H} {q : Post 𝓤 𝓛.H} where
  -- `same`: neither what it asks nor what it ensures has a name of a loan
  met_call : K → (g : ℕ) (at : List ℕ) (ps : List Par) (P : Plain) (had : Option Val) (R : Bound ps → SProp 𝓤) {Φ : Bound ps → P.row.Denot → Lists (olds ps) → Type 0} {f : Callee} {os : List Operand} {i : ℕ} {rest : Body}
      → Met 𝓛 𝓜 𝓡 ps P R Φ (γ f) → ((xs : Loans (olds ps)) → ent 𝓤 (emp 𝓤) (R (bound ps xs))) → ((xs : Loans (olds ps)) → Φ (bound ps xs) ≡ Φ (own_bound ps)) → Ty_and_cells 𝓛 E Γ g at ps i os ≡ Those 𝓛 E ps P i had os
      → ((r : P.row.Denot) → Has P r → (zs : Lefts ps) → Φ (own_bound ps) r (spread ps zs) → Sames ps zs
      → Seq K 𝓛 (Back 𝓛 E Γ g at ps P i r (spread ps zs)) (runs (tabled 𝓣).C (tabled 𝓣).Λ E rest q))
      → Seq K 𝓛 Γ (runs (tabled 𝓣).C (tabled 𝓣).Λ E (seq (call f os (place i [])) rest) q)
  unfolding tables_of
  met_call t g at ps P had R {Φ} {f} met asked same eq k =
      calls_into (tabled 𝓣) t g at ps P had (Φ (own_bound ps))
      (λ xs. subst (λ (Ψ : P.row.Denot → Lists (olds ps) → Type 0). ent 𝓤 (Takes 𝓛 (olds ps) xs (emp 𝓤)) ((tabled 𝓣).C f (values ps) (Gives 𝓛 (olds ps) xs P.row Ψ))) (same xs)
      (via 𝓤 (Takes 𝓛 (olds ps) xs (R (bound ps xs))) (mono_r 𝓤 (sep 𝓤 (mean 𝓛 (tokens 𝓤 (L.lent (olds ps) xs))) (sem 𝓛 (owned (L.lent (olds ps) xs)))) (asked xs))
      (meets_at 𝓛 ps P.row (Φ (bound ps xs)) (R (bound ps xs)) (𝓡.run (γ f)) xs (met (bound ps xs))))) (id⊢ 𝓤 (emp 𝓤)) eq k

  -- of a callee that requires nothing, whose result goes to a local that held nothing
  pub calls : K → (g : ℕ) (at : List ℕ) (ps : List Par) (P : Plain) {Φ : Bound ps → P.row.Denot → Lists (olds ps) → Type 0} {f : Callee} {os : List Operand} {i : ℕ} {rest : Body}
      → Met 𝓛 𝓜 𝓡 ps P (λ y. emp 𝓤) Φ (γ f) → ◌≡◌ {A = Telling 𝓛 ps P}
      ((Ty_and_cells 𝓛 E Γ g at ps i os).0, (Ty_and_cells 𝓛 E Γ g at ps i os).1, (Ty_and_cells 𝓛 E Γ g at ps i os).2, λ xs. Φ (bound ps xs))
      ((Those 𝓛 E ps P i none os).0, (Those 𝓛 E ps P i none os).1, true, λ xs. Φ (own_bound ps))
      → ((r : P.row.Denot) → Has P r → (zs : Lefts ps) → Φ (own_bound ps) r (spread ps zs) → Sames ps zs
      → Seq K 𝓛 (Back 𝓛 E Γ g at ps P i r (spread ps zs)) (runs (tabled 𝓣).C (tabled 𝓣).Λ E rest q))
      → Seq K 𝓛 Γ (runs (tabled 𝓣).C (tabled 𝓣).Λ E (seq (call f os (place i [])) rest) q)
  calls t g at ps P {Φ} met eq k = met_call t g at ps P none (λ y. emp 𝓤) {Φ = Φ} met (λ xs. id⊢ 𝓤 (emp 𝓤)) (λ xs. ap (λ (x : Telling 𝓛 ps P). x.3 xs) eq) (ap (λ (x : Telling 𝓛 ps P). (x.0, x.1, x.2)) eq) k

  -- the same where that local held something
  pub recalls : K → (g : ℕ) (at : List ℕ) (ps : List Par) (P : Plain) (had : Val) {Φ : Bound ps → P.row.Denot → Lists (olds ps) → Type 0} {f : Callee} {os : List Operand} {i : ℕ} {rest : Body}
      → Met 𝓛 𝓜 𝓡 ps P (λ y. emp 𝓤) Φ (γ f) → ◌≡◌ {A = Telling 𝓛 ps P}
      ((Ty_and_cells 𝓛 E Γ g at ps i os).0, (Ty_and_cells 𝓛 E Γ g at ps i os).1, (Ty_and_cells 𝓛 E Γ g at ps i os).2, λ xs. Φ (bound ps xs))
      ((Those 𝓛 E ps P i (just had) os).0, (Those 𝓛 E ps P i (just had) os).1, true, λ xs. Φ (own_bound ps))
      → ((r : P.row.Denot) → Has P r → (zs : Lefts ps) → Φ (own_bound ps) r (spread ps zs) → Sames ps zs
      → Seq K 𝓛 (Back 𝓛 E Γ g at ps P i r (spread ps zs)) (runs (tabled 𝓣).C (tabled 𝓣).Λ E rest q))
      → Seq K 𝓛 Γ (runs (tabled 𝓣).C (tabled 𝓣).Λ E (seq (call f os (place i [])) rest) q)
  recalls t g at ps P had {Φ} met eq k = met_call t g at ps P (just had) (λ y. emp 𝓤) {Φ = Φ} met (λ xs. id⊢ 𝓤 (emp 𝓤)) (λ xs. ap (λ (x : Telling 𝓛 ps P). x.3 xs) eq) (ap (λ (x : Telling 𝓛 ps P). (x.0, x.1, x.2)) eq) k

  -- of a callee that requires a fact
  pub calls_asked : K → (g : ℕ) (at : List ℕ) (ps : List Par) (P : Plain) {φ : Bound ps → Type 0} {Φ : Bound ps → P.row.Denot → Lists (olds ps) → Type 0} {f : Callee} {os : List Operand} {i : ℕ} {rest : Body}
      → Met 𝓛 𝓜 𝓡 ps P (λ y. fact 𝓤 (φ y)) Φ (γ f) → φ (own_bound ps) → ◌≡◌ {A = Asking 𝓛 ps P}
      ((Ty_and_cells 𝓛 E Γ g at ps i os).0, (Ty_and_cells 𝓛 E Γ g at ps i os).1, (Ty_and_cells 𝓛 E Γ g at ps i os).2, λ xs. Φ (bound ps xs), λ xs. φ (bound ps xs))
      ((Those 𝓛 E ps P i none os).0, (Those 𝓛 E ps P i none os).1, true, λ xs. Φ (own_bound ps), λ xs. φ (own_bound ps))
      → ((r : P.row.Denot) → Has P r → (zs : Lefts ps) → Φ (own_bound ps) r (spread ps zs) → Sames ps zs
      → Seq K 𝓛 (Back 𝓛 E Γ g at ps P i r (spread ps zs)) (runs (tabled 𝓣).C (tabled 𝓣).Λ E rest q))
      → Seq K 𝓛 Γ (runs (tabled 𝓣).C (tabled 𝓣).Λ E (seq (call f os (place i [])) rest) q)
  calls_asked t g at ps P {φ} {Φ} met x eq k =
      met_call t g at ps P none (λ y. fact 𝓤 (φ y)) {Φ = Φ} met (λ xs. fact_i 𝓤 _ (emp 𝓤) (subst (λ (ψ : Type 0). ψ) (sym (ap (λ (x : Asking 𝓛 ps P). x.4 xs) eq)) x)) (λ xs. ap (λ (x : Asking 𝓛 ps P). x.3 xs) eq)
      (ap (λ (x : Asking 𝓛 ps P). (x.0, x.1, x.2)) eq) k

  -- the same where the local of the result held something
  pub recalls_asked : K → (g : ℕ) (at : List ℕ) (ps : List Par) (P : Plain) (had : Val) {φ : Bound ps → Type 0} {Φ : Bound ps → P.row.Denot → Lists (olds ps) → Type 0} {f : Callee} {os : List Operand} {i : ℕ} {rest : Body}
      → Met 𝓛 𝓜 𝓡 ps P (λ y. fact 𝓤 (φ y)) Φ (γ f) → φ (own_bound ps) → ◌≡◌ {A = Asking 𝓛 ps P}
      ((Ty_and_cells 𝓛 E Γ g at ps i os).0, (Ty_and_cells 𝓛 E Γ g at ps i os).1, (Ty_and_cells 𝓛 E Γ g at ps i os).2, λ xs. Φ (bound ps xs), λ xs. φ (bound ps xs))
      ((Those 𝓛 E ps P i (just had) os).0, (Those 𝓛 E ps P i (just had) os).1, true, λ xs. Φ (own_bound ps), λ xs. φ (own_bound ps))
      → ((r : P.row.Denot) → Has P r → (zs : Lefts ps) → Φ (own_bound ps) r (spread ps zs) → Sames ps zs
      → Seq K 𝓛 (Back 𝓛 E Γ g at ps P i r (spread ps zs)) (runs (tabled 𝓣).C (tabled 𝓣).Λ E rest q))
      → Seq K 𝓛 Γ (runs (tabled 𝓣).C (tabled 𝓣).Λ E (seq (call f os (place i [])) rest) q)
  recalls_asked t g at ps P had {φ} {Φ} met x eq k =
      met_call t g at ps P (just had) (λ y. fact 𝓤 (φ y)) {Φ = Φ} met (λ xs. fact_i 𝓤 _ (emp 𝓤) (subst (λ (ψ : Type 0). ψ) (sym (ap (λ (x : Asking 𝓛 ps P). x.4 xs) eq)) x)) (λ xs. ap (λ (x : Asking 𝓛 ps P). x.3 xs) eq)
      (ap (λ (x : Asking 𝓛 ps P). (x.0, x.1, x.2)) eq) k

-- ---- the `&mut` slice at entry k is lent as a shared one, for a lifetime that is made for it, and comes back as it was; what is kept meanwhile is the first entry
module _ {M : Type 1} {𝓤 : Ura M} {𝓛 : Logic 𝓤} {K : Type 0} {Γ : List (Item 𝓤)} {G : Goal 𝓤 𝓛.H} where
  pub shares_at : K → Soaks G → (k : ℕ) {R : RattleType} → Shares 𝓛 R [] → (s : Slice R) (l : List R.Denot) → length l ≡ count s → nth 𝓛 k Γ ≡ Mut 𝓤 R s.lft s.share s.block s.off (length s.was) s.name l
      → ((ν : ℕ) → Seq K 𝓛 (‵ (Kept R s.lft s.share s.block s.off (length s.was) s.name l ν) ∷ put 𝓛 k (Shr 𝓤 R (ν ∷ []) full_share s.block s.off (length s.was) l) Γ) G) → Seq K 𝓛 Γ G
  shares_at t z k {R} law s l e at next' =
      by t (via 𝓤 _ (subst (λ (j : Item 𝓤). ent 𝓤 (⋆ 𝓛 Γ) (sep 𝓤 (mean 𝓛 j) (⋆ 𝓛 (del 𝓛 k Γ)))) at (pull 𝓛 k Γ)) walk.prf)
    where
      walk : Seq K 𝓛 (Mut 𝓤 R s.lft s.share s.block s.off (length s.was) s.name l ∷ raw (⋆ 𝓛 (del 𝓛 k Γ)) ∷ []) G
      walk = sharing R s.lft s.share s.block s.off (length s.was) s.name l t z law e (λ ν. move t (0 ∷ 2 ∷ []) $
          use2 𝓛 (raw (⋆ 𝓛 (put 𝓛 k (Shr 𝓤 R (ν ∷ []) full_share s.block s.off (length s.was) l) Γ))) (fill 𝓛 k (Shr 𝓤 R (ν ∷ []) full_share s.block s.off (length s.was) l) Γ) $ move t (1 ∷ 0 ∷ []) $
          by t (via 𝓤 _ (push 𝓛 (‵ (Kept R s.lft s.share s.block s.off (length s.was) s.name l ν)) (put 𝓛 k (Shr 𝓤 R (ν ∷ []) full_share s.block s.off (length s.was) l) Γ)) (next' ν).prf))

  pub unshares_at : K → Soaks G → (k : ℕ) {R : RattleType} (s : Slice R) (l : List R.Denot) → length l ≡ count s → (ν : ℕ) → nth 𝓛 k Γ ≡ Shr 𝓤 R (ν ∷ []) full_share s.block s.off (length s.was) l
      → Step K 𝓛 (put 𝓛 k (Mut 𝓤 R s.lft s.share s.block s.off (length s.was) s.name l) Γ) G (‵ (Kept R s.lft s.share s.block s.off (length s.was) s.name l ν) ∷ Γ) G
  unshares_at t z k {R} s l e ν at = step (λ u.
      by t (via 𝓤 _ (pop 𝓛 (‵ (Kept R s.lft s.share s.block s.off (length s.was) s.name l ν)) Γ)
      (via 𝓤 _ (mono_r 𝓤 (mean 𝓛 (‵ (Kept R s.lft s.share s.block s.off (length s.was) s.name l ν))) (subst (λ (j : Item 𝓤). ent 𝓤 (⋆ 𝓛 Γ) (sep 𝓤 (mean 𝓛 j) (⋆ 𝓛 (del 𝓛 k Γ)))) at (pull 𝓛 k Γ))) (walk u).prf)))
    where
      walk : Seq K 𝓛 (put 𝓛 k (Mut 𝓤 R s.lft s.share s.block s.off (length s.was) s.name l) Γ) G
          → Seq K 𝓛 (‵ (Kept R s.lft s.share s.block s.off (length s.was) s.name l ν) ∷ Shr 𝓤 R (ν ∷ []) full_share s.block s.off (length s.was) l ∷ raw (⋆ 𝓛 (del 𝓛 k Γ)) ∷ []) G
      walk u = move t (1 ∷ 0 ∷ []) $ unsharing R s.lft s.share s.block s.off (length s.was) s.name l t z e s.room ν $
          use2 𝓛 (raw (⋆ 𝓛 (put 𝓛 k (Mut 𝓤 R s.lft s.share s.block s.off (length s.was) s.name l) Γ))) (fill 𝓛 k (Mut 𝓤 R s.lft s.share s.block s.off (length s.was) s.name l) Γ) $ by t u.prf
