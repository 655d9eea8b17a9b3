-- Every `&mut` slice of a call is passed on before it, in the order of the parameters: the statements `p = &mut *s.0;  t = (p, s.1)` of each, or `p = &mut a;  t = (p, n)` where it is a local array on loan (`Local.antt`). Which locals they are is read off the code.
--     relend_all ! g ps refl       the step, where ps are the call's parameters
-- Assumes `Logic`.
use mathlib.Core.Path.{◌≡◌, sym, ap, subst}
use mathlib.Core.Bool.{Bool, true, false}
use mathlib.Core.List.{List, [], ◌∷◌}
use Prim.Native.Nat.{ℕ, zero, ◌+◌, ◌*◌}
use lib.Dec.{T as Holds, lt→ltb}
use lib.ListN.{length}
use seplogic.Ra.Ura.{Ura}
use base.Fraction.{full_share}
use mir.Syntax.{Lifetime, erased, Mutability, imm, Ty, tnil, tcons, ty_int, ty_bool, ty_float, ty_ptr, ty_ref, ty_array, ty_unit, ty_struct, ty_enum, ty_param, ty_const, ty_array_p, ty_named}
use mir.Syntax.{Step as Hop, field, deref, variant, place, w64, copy, int, Rv as RValue, rv_opd, op2, op1, addr_of, aggregate, repeat, repeat_p, select, Body, skip, seq, assign, block, loop, cond, switch, exit, return, call, unreachable, call_v, lend_static}
use mir.Val.{vptr, WT, has_ty}
use base.Fml.{fat, froom}
use prog.Wp.{Env, Calls, Loops, spot_of}
use types.Logic.{Logic}
use types.Kit.{Item, ‵, nth, put, Post, runs, Seq, Step, step, ◌$◌}
use types.Part.{agg}
use types.Run.{Rv, lit, stop, from, addr, and_then, no_more}
use denote.RattleType.{RattleType}
use denote.Slice.{slice_ty}
use Rattle.walks.proofs.Walk.{var, makes}
use Rattle.walks.proofs.Types.{Slice, slice_of}
use Rattle.walks.proofs.Parameters.{Par, val, shr, mut, slice_fits}
use Rattle.walks.proofs.Calls.{first_ty, other_tys, first, others, read_cells, relend}

-- ---- read off the code
abbrev first_of : Body → Body
first_of skip = skip
first_of (seq a b) = a
first_of (assign p r) = skip
first_of (block a) = skip
first_of (loop a) = skip
first_of (cond o a b) = skip
first_of (switch o a) = skip
first_of (exit n) = skip
first_of return = skip
first_of (call f os p) = skip
first_of unreachable = skip
first_of (call_v o h os p) = skip
first_of (lend_static p τ c) = skip

abbrev rest_of : Body → Body
rest_of skip = skip
rest_of (seq a b) = b
rest_of (assign p r) = skip
rest_of (block a) = skip
rest_of (loop a) = skip
rest_of (cond o a b) = skip
rest_of (switch o a) = skip
rest_of (exit n) = skip
rest_of return = skip
rest_of (call f os p) = skip
rest_of unreachable = skip
rest_of (call_v o h os p) = skip
rest_of (lend_static p τ c) = skip

abbrev target : Body → ℕ
target skip = zero
target (seq a b) = zero
target (assign (place i ss) r) = i
target (block a) = zero
target (loop a) = zero
target (cond o a b) = zero
target (switch o a) = zero
target (exit n) = zero
target return = zero
target (call f os p) = zero
target unreachable = zero
target (call_v o h os p) = zero
target (lend_static p τ c) = zero

abbrev source_of : RValue → ℕ
source_of (rv_opd o) = zero
source_of (op2 x o u) = zero
source_of (op1 x o) = zero
source_of (addr_of (place i ss)) = i
source_of (aggregate os) = zero
source_of (repeat o n) = zero
source_of (repeat_p o n) = zero
source_of (select o u v) = zero

abbrev last_ty : List Hop → Ty
last_ty [] = ty_unit
last_ty (field k ∷ ss) = last_ty ss
last_ty (variant k ∷ ss) = last_ty ss
last_ty (deref τ ∷ ss) = τ

abbrev pointee : RValue → Ty
pointee (rv_opd o) = ty_unit
pointee (op2 x o u) = ty_unit
pointee (op1 x o) = ty_unit
pointee (addr_of (place i ss)) = last_ty ss
pointee (aggregate os) = ty_unit
pointee (repeat o n) = ty_unit
pointee (repeat_p o n) = ty_unit
pointee (select o u v) = ty_unit

abbrev source : Body → ℕ
source skip = zero
source (seq a b) = zero
source (assign p r) = source_of r
source (block a) = zero
source (loop a) = zero
source (cond o a b) = zero
source (switch o a) = zero
source (exit n) = zero
source return = zero
source (call f os p) = zero
source unreachable = zero
source (call_v o h os p) = zero
source (lend_static p τ c) = zero

abbrev pointed : Body → Ty
pointed skip = ty_unit
pointed (seq a b) = ty_unit
pointed (assign p r) = pointee r
pointed (block a) = ty_unit
pointed (loop a) = ty_unit
pointed (cond o a b) = ty_unit
pointed (switch o a) = ty_unit
pointed (exit n) = ty_unit
pointed return = ty_unit
pointed (call f os p) = ty_unit
pointed unreachable = ty_unit
pointed (call_v o h os p) = ty_unit
pointed (lend_static p τ c) = ty_unit

-- the address that is taken is that of a local
abbrev whole : List Hop → Bool
whole [] = true
whole (h ∷ hs) = false

abbrev address : RValue → Bool
address (rv_opd o) = false
address (op2 x o u) = false
address (op1 x o) = false
address (addr_of (place i ss)) = whole ss
address (aggregate os) = false
address (repeat o n) = false
address (repeat_p o n) = false
address (select o u v) = false

abbrev own_array : Body → Bool
own_array skip = false
own_array (seq a b) = false
own_array (assign p r) = address r
own_array (block a) = false
own_array (loop a) = false
own_array (cond o a b) = false
own_array (switch o a) = false
own_array (exit n) = false
own_array return = false
own_array (call f os p) = false
own_array unreachable = false
own_array (call_v o h os p) = false
own_array (lend_static p τ c) = false

abbrev Ref : Type 0
Ref = Lifetime × Mutability × Ty

abbrev of_ref : Ty → Ref
of_ref (ty_int w) = (erased, imm, ty_unit)
of_ref ty_bool = (erased, imm, ty_unit)
of_ref (ty_float f) = (erased, imm, ty_unit)
of_ref ty_ptr = (erased, imm, ty_unit)
of_ref (ty_ref ℓ μ σ) = (ℓ, μ, σ)
of_ref (ty_array σ n) = (erased, imm, ty_unit)
of_ref ty_unit = (erased, imm, ty_unit)
of_ref (ty_struct ν τs) = (erased, imm, ty_unit)
of_ref (ty_enum ν τss) = (erased, imm, ty_unit)
of_ref (ty_param n) = (erased, imm, ty_unit)
of_ref (ty_const n) = (erased, imm, ty_unit)
of_ref (ty_array_p σ n) = (erased, imm, ty_unit)
of_ref (ty_named h τs) = (erased, imm, ty_unit)

abbrev of_slice : Ty → Ref
of_slice (ty_int w) = (erased, imm, ty_unit)
of_slice ty_bool = (erased, imm, ty_unit)
of_slice (ty_float f) = (erased, imm, ty_unit)
of_slice ty_ptr = (erased, imm, ty_unit)
of_slice (ty_ref ℓ μ σ) = (erased, imm, ty_unit)
of_slice (ty_array σ n) = (erased, imm, ty_unit)
of_slice ty_unit = (erased, imm, ty_unit)
of_slice (ty_struct ν tnil) = (erased, imm, ty_unit)
of_slice (ty_struct ν (tcons τ τs)) = of_ref τ
of_slice (ty_enum ν τss) = (erased, imm, ty_unit)
of_slice (ty_param n) = (erased, imm, ty_unit)
of_slice (ty_const n) = (erased, imm, ty_unit)
of_slice (ty_array_p σ n) = (erased, imm, ty_unit)
of_slice (ty_named h τs) = (erased, imm, ty_unit)

abbrev ref_ty : Ref → Ty
ref_ty x = ty_ref x.0 x.1 x.2

-- ---- one slice
module _ {M : Type 1} {𝓤 : Ura M} (𝓛 : Logic 𝓤) (E : Env 𝓤 𝓛.H) (g : ℕ) where
  open 𝓛 use {H}

  abbrev Check : Type 2
  Check = Body × List Ty × List (Item 𝓤) × List ℕ

  module _ (b : Body) where
    abbrev s# : ℕ
    s# = source (first_of b)

    abbrev p# : ℕ
    p# = target (first_of b)

    abbrev t# : ℕ
    t# = target (first_of (rest_of b))

    abbrev after : Body
    after = rest_of (rest_of b)

    module _ {R : RattleType} (s : Slice R) (Γ : List (Item 𝓤)) where
      abbrev pointing : List (Item 𝓤)
      pointing = put 𝓛 (g + 2 * p#) (‵ (fat full_share (spot_of 𝓤 H E p#).0 (spot_of 𝓤 H E p#).1 zero (vptr s.block s.off))) Γ

      abbrev passed : List (Item 𝓤)
      passed = put 𝓛 (g + 2 * t#) (‵ (fat full_share (spot_of 𝓤 H E t#).0 (spot_of 𝓤 H E t#).1 zero (slice_of s))) pointing

      -- whether it is a local array; the numbers are where its pointer points
      abbrev there_if : Bool → Check
      there_if false = (
        b,
        (spot_of 𝓤 H E s#).0 ∷ (spot_of 𝓤 H E p#).0 ∷ (spot_of 𝓤 H E t#).0 ∷ [],
        nth 𝓛 (g + 2 * s#) Γ ∷ nth 𝓛 (g + 2 * p#) Γ ∷ read_cells 𝓛 pointing g (copy (place p# []) ∷ copy (place s# []) ∷ copy (place t# []) ∷ []),
        [],
      )
      there_if true = (
        b,
        (spot_of 𝓤 H E p#).0 ∷ (spot_of 𝓤 H E t#).0 ∷ [],
        nth 𝓛 (g + 2 * p#) Γ ∷ read_cells 𝓛 pointing g (copy (place p# []) ∷ copy (place t# []) ∷ []),
        (spot_of 𝓤 H E s#).1 ∷ zero ∷ [],
      )

      abbrev room_at : ℕ → Item 𝓤
      room_at i = ‵ (froom (spot_of 𝓤 H E i).0 (spot_of 𝓤 H E i).1 zero)

      abbrev pointer : Item 𝓤
      pointer = ‵ (fat full_share (spot_of 𝓤 H E p#).0 (spot_of 𝓤 H E p#).1 zero (vptr s.block s.off))

      abbrev slice : Item 𝓤
      slice = ‵ (fat full_share (slice_ty (ref_ty (of_slice (spot_of 𝓤 H E s#).0))) (spot_of 𝓤 H E s#).1 zero (slice_of s))

      abbrev due_if : Bool → Check
      due_if false = (
        seq (assign (place p# []) (addr_of (place s# (field 0 ∷ deref (pointed (first_of b)) ∷ [])))) (seq (assign (place t# []) (aggregate (copy (place p# []) ∷ copy (place s# (field 1 ∷ [])) ∷ []))) after),
        slice_ty (ref_ty (of_slice (spot_of 𝓤 H E s#).0)) ∷ ref_ty (of_ref (spot_of 𝓤 H E p#).0) ∷ slice_ty (ref_ty (of_slice (spot_of 𝓤 H E t#).0)) ∷ [],
        slice ∷ room_at p# ∷ pointer ∷ slice ∷ room_at t# ∷ [],
        [],
      )
      due_if true = (
        seq (assign (place p# []) (addr_of (place s# []))) (seq (assign (place t# []) (aggregate (copy (place p# []) ∷ int w64 (length s.was) ∷ []))) after),
        ref_ty (of_ref (spot_of 𝓤 H E p#).0) ∷ slice_ty (ref_ty (of_slice (spot_of 𝓤 H E t#).0)) ∷ [],
        room_at p# ∷ pointer ∷ room_at t# ∷ [],
        s.block ∷ s.off ∷ [],
      )

      abbrev there : Check
      there = there_if (own_array (first_of b))

      abbrev due : Check
      due = due_if (own_array (first_of b))

  -- ---- all
  abbrev Checks : List Par → Type 2
  Checks [] = Unit {2}
  Checks (val x ∷ ps) = Checks ps
  Checks (shr W s l e ∷ ps) = Checks ps
  Checks (mut s l e ∷ ps) = Check × Checks ps

  abbrev rest_after : List Par → Body → Body
  rest_after [] b = b
  rest_after (val x ∷ ps) b = rest_after ps b
  rest_after (shr W s l e ∷ ps) b = rest_after ps b
  rest_after (mut s l e ∷ ps) b = rest_after ps (after b)

  abbrev all_passed : List Par → Body → List (Item 𝓤) → List (Item 𝓤)
  all_passed [] b Γ = Γ
  all_passed (val x ∷ ps) b Γ = all_passed ps b Γ
  all_passed (shr W s l e ∷ ps) b Γ = all_passed ps b Γ
  all_passed (mut s l e ∷ ps) b Γ = all_passed ps (after b) (passed b s Γ)

  abbrev all_there : (ps : List Par) → Body → List (Item 𝓤) → Checks ps
  all_there [] b Γ = tt
  all_there (val x ∷ ps) b Γ = all_there ps b Γ
  all_there (shr W s l e ∷ ps) b Γ = all_there ps b Γ
  all_there (mut s l e ∷ ps) b Γ = (there b s Γ, all_there ps (after b) (passed b s Γ))

  abbrev all_due : (ps : List Par) → Body → List (Item 𝓤) → Checks ps
  all_due [] b Γ = tt
  all_due (val x ∷ ps) b Γ = all_due ps b Γ
  all_due (shr W s l e ∷ ps) b Γ = all_due ps b Γ
  all_due (mut s l e ∷ ps) b Γ = (due b s Γ, all_due ps (after b) (passed b s Γ))

abbrev first-number : List ℕ → ℕ
first-number [] = zero
first-number (n ∷ ns) = n

abbrev second_number : List ℕ → ℕ
second_number [] = zero
second_number (n ∷ ns) = first-number ns

module _ {M : Type 1} {𝓤 : Ura M} {𝓛 : Logic 𝓤} {K : Type 0} {E : Env 𝓤 𝓛.H} {C : Calls 𝓤 𝓛.H} {Λ : Loops 𝓤 𝓛.H} {q : Post 𝓤 𝓛.H} where
  relend_one : K → (g : ℕ) {R : RattleType} (s : Slice R) (b : Body) (Γ : List (Item 𝓤)) (y : Bool) → there_if 𝓛 E g b s Γ y ≡ due_if 𝓛 E g b s Γ y → Seq K 𝓛 (passed 𝓛 E g b s Γ) (runs C Λ E (after 𝓛 E g b) q) → Seq K 𝓛 Γ (runs C Λ E b q)
  relend_one k g s b Γ false eq u = subst (λ (c : Body). Seq K 𝓛 Γ (runs C Λ E c q)) (sym (ap (λ (x : Check 𝓛 E g). x.0) eq)) (relend k g s (ap (λ (x : Check 𝓛 E g). (x.1, x.2)) eq) $ u)
  relend_one k g s b Γ true eq u =
      let i = s# 𝓛 E g b in
      let tys = ap (λ (x : Check 𝓛 E g). x.1) eq in
      let e = ap (λ (x : Check 𝓛 E g). x.2) eq in
      let points = subst (λ (ns : List ℕ). Rv K 𝓛 Γ E (addr_of (place i [])) (vptr (first-number ns) (second_number ns))) (ap (λ (x : Check 𝓛 E g). x.3) eq) (addr k (from k (stop k))) in
      let counted = lit k (lt→ltb _ _ s.room.0) in
      subst (λ (c : Body). Seq K 𝓛 Γ (runs C Λ E c q)) (sym (ap (λ (x : Check 𝓛 E g). x.0) eq)) (makes k g points (ap (first 𝓛) e)
      (subst (λ (σ : Ty). Holds (has_ty σ (vptr s.block s.off)) × WT (vptr s.block s.off)) (sym (ap first_ty tys)) (tt, tt)) $
      makes k g (agg k (and_then k (var k g (ap (λ (js : List (Item 𝓤)). first 𝓛 (others 𝓛 js)) e)) (and_then k counted (no_more k)))) (ap (λ (js : List (Item 𝓤)). first 𝓛 (others 𝓛 (others 𝓛 js))) e)
      (subst (λ (σ : Ty). Holds (has_ty σ (slice_of s)) × WT (slice_of s)) (sym (ap (λ (τs : List Ty). first_ty (other_tys τs)) tys)) (slice_fits 𝓛 s)) $ u)

  relends : K → (g : ℕ) (ps : List Par) (b : Body) (Γ : List (Item 𝓤)) → all_there 𝓛 E g ps b Γ ≡ all_due 𝓛 E g ps b Γ → Seq K 𝓛 (all_passed 𝓛 E g ps b Γ) (runs C Λ E (rest_after 𝓛 E g ps b) q) → Seq K 𝓛 Γ (runs C Λ E b q)
  relends k g [] b Γ eq u = u
  relends k g (val x ∷ ps) b Γ eq u = relends k g ps b Γ eq u
  relends k g (shr W s l e ∷ ps) b Γ eq u = relends k g ps b Γ eq u
  relends k g (mut s l e ∷ ps) b Γ eq u =
      relend_one k g s b Γ (own_array (first_of b)) (ap (λ (x : Check 𝓛 E g × Checks 𝓛 E g ps). x.0) eq)
      (relends k g ps (after 𝓛 E g b) (passed 𝓛 E g b s Γ) (ap (λ (x : Check 𝓛 E g × Checks 𝓛 E g ps). x.1) eq) u)

  pub relend_all : K → (g : ℕ) (ps : List Par) {b : Body} {Γ : List (Item 𝓤)} → all_there 𝓛 E g ps b Γ ≡ all_due 𝓛 E g ps b Γ
      → Step K 𝓛 (all_passed 𝓛 E g ps b Γ) (runs C Λ E (rest_after 𝓛 E g ps b) q) Γ (runs C Λ E b q)
  relend_all k g ps {b} {Γ} eq = step (λ u. relends k g ps b Γ eq u)
