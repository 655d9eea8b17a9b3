-- A small kit for walks by hand over functions with many locals. The context of a walk is kept in one shape: first g entries of the proof's own (what the slices own, with their tokens), then two for each local, in the locals' order: its cell and that it dies.
-- So local i's cell is entry g + 2 · i from the first statement to the last, and no rule below takes a position: it takes g.
--     begins           a function is entered: its locals are allocated, behind what the proof has
--     leaves           it has returned: every local is freed, whatever it holds, and Δ, the first g entries, is left
--     var, part_of     an operand that is local i, or its field k.        reborrow     `&mut *s.0`, the pointer of a slice that is passed on.        relends     the two statements before it is
--     makes, remakes   an assignment to a local, which was room or held something.        tests, whiles    an `if` with no `else`, the test of a `while`
-- Assumes `Logic`.
use mathlib.Core.Path.{◌≡◌, refl, sym, ◌∙◌, ap, subst}
use mathlib.Core.Option.{Option, none, some as just}
use mathlib.Core.Bool.{Bool, not}
use mathlib.Core.List.{List, [], ◌∷◌, ◌++◌, append-nil}
use Prim.Native.Nat.{ℕ, zero, suc, ◌+◌, ◌*◌}
use lib.Dec.{T, T as Holds}
use lib.ListN.{drop}
use seplogic.Ra.Ura.{Ura}
use base.Fraction.{full_share}
use mir.Syntax.{Lifetime, Mutability, Ty, Tys, ty_ref, Sym, ty_struct, ty_unit, Opd as Operand, copy, Rv as RValue, place, field, deref, addr_of, aggregate, w64, Body, skip, seq, cond, exit, assign, Local, local, Fn}
use mir.Val.{Val, Vals, vnil, vcons, vstruct, vptr, vint, vbool, WT, has_ty}
use mir.Fields.{get_v, set_v}
use base.Logic.{SProp, ent, sep, id⊢, via, mono_r}
use base.Fml.{Share, Fml, fat, froom, fdies, ftrue, ffalse, feq, flt, fsep, fand, for, fwand, fex, fall, fupd, flft, fdead, fobs, fauth, fres, fbor, fobor, flent, fshr_bor, fhide, fleft, fown, finv, fnamed, ftok, fkid, fme, fsent}
use prog.Memory.{field_at, field_of}
use prog.Wp.{Env, Calls, Loops, spot_of, Wp, WpFn, after_seq, exits}
use types.Logic.{Logic}
use types.Kit.{Item, ‵, raw, ◌⊛◌, some, given, later, mean, ⋆, push, pop, pull, sel⊢, nth, put, Post, post, any_q, Goal, at_ret, prop, runs, allocs, params', frees, aim, Seq, Step, step, ◌$◌, by}
use types.Part.{Part, agg, whole, sub, look_in}
use types.Run.{Opd, Rv, look, init, store, stop, hop, fld, from, load, addr, and_then, no_more, assigns, first, branches, skips, jumps, enter, alloc1, alloc0, free1, forget}
use denote.Slice.{slice_ty, slice_val}

-- where the locals lie
abbrev pub Blocks : List Local → Type 0
Blocks [] = Unit {0}
Blocks (l ∷ ls) = ℕ × Blocks ls

abbrev pub block_at : (ls : List Local) → Blocks ls → ℕ → ℕ
block_at [] bs i = 0
block_at (l ∷ ls) bs zero = bs.0
block_at (l ∷ ls) bs (suc i) = block_at ls bs.1 i

abbrev ty_of : Local → Ty
ty_of (local τ h) = τ

-- what a local's cell holds: nothing yet, or a value
abbrev pub State : Type 0
State = Ty × ℕ × Option Val

abbrev pub state_of : Fml → State
state_of (fat s τ b o v) = (τ, b, just v)
state_of (froom τ b o) = (τ, b, none)
state_of ftrue = (ty_unit, 0, none)
state_of ffalse = (ty_unit, 0, none)
state_of (feq X x y) = (ty_unit, 0, none)
state_of (flt m n) = (ty_unit, 0, none)
state_of (fsep P Q) = (ty_unit, 0, none)
state_of (fand P Q) = (ty_unit, 0, none)
state_of (for P Q) = (ty_unit, 0, none)
state_of (fwand P Q) = (ty_unit, 0, none)
state_of (fex X F) = (ty_unit, 0, none)
state_of (fall X F) = (ty_unit, 0, none)
state_of (fupd P) = (ty_unit, 0, none)
state_of (fdies τ b) = (ty_unit, 0, none)
state_of (flft κ q) = (ty_unit, 0, none)
state_of (fdead κ) = (ty_unit, 0, none)
state_of (fobs γ u) = (ty_unit, 0, none)
state_of (fauth γ u) = (ty_unit, 0, none)
state_of (fres γ u) = (ty_unit, 0, none)
state_of (fbor κ P) = (ty_unit, 0, none)
state_of (fobor κ q P) = (ty_unit, 0, none)
state_of (flent κ P) = (ty_unit, 0, none)
state_of (fshr_bor κ Φ) = (ty_unit, 0, none)
state_of (fhide P) = (ty_unit, 0, none)
state_of (fleft s τ τs b o) = (ty_unit, 0, none)
state_of (fown R γ a) = (ty_unit, 0, none)
state_of (finv P) = (ty_unit, 0, none)
state_of (fnamed n P) = (ty_unit, 0, none)
state_of (ftok E) = (ty_unit, 0, none)
state_of (fkid h a) = (ty_unit, 0, none)
state_of (fme a) = (ty_unit, 0, none)
state_of (fsent h) = (ty_unit, 0, none)

module _ {M : Type 1} {𝓤 : Ura M} (𝓛 : Logic 𝓤) where
  open 𝓛 use {H}

  abbrev pub env_of : (ls : List Local) → Blocks ls → Env 𝓤 H
  env_of [] bs = []
  env_of (l ∷ ls) bs = (ty_of l, bs.0) ∷ env_of ls bs.1

  abbrev pub cell : Ty → ℕ → Option Val → Item 𝓤
  cell τ b none = ‵ (froom τ b 0)
  cell τ b (just v) = ‵ (fat full_share τ b 0 v)

  -- the locals, each with what it holds; where no more is said, nothing
  abbrev pub cells : (ls : List Local) → Blocks ls → List (Option Val) → List (Item 𝓤)
  cells [] bs vs = []
  cells (l ∷ ls) bs [] = ‵ (froom (ty_of l) bs.0 0) ∷ ‵ (fdies (ty_of l) bs.0) ∷ cells ls bs.1 []
  cells (l ∷ ls) bs (v ∷ vs) = cell (ty_of l) bs.0 v ∷ ‵ (fdies (ty_of l) bs.0) ∷ cells ls bs.1 vs

  -- the same, read off a context
  abbrev pub item_state : Item 𝓤 → State
  item_state (‵ F) = state_of F
  item_state (raw P) = (ty_unit, 0, none)
  item_state (i ⊛ j) = (ty_unit, 0, none)
  item_state (some F) = (ty_unit, 0, none)
  item_state (given φ i) = (ty_unit, 0, none)
  item_state (later i) = (ty_unit, 0, none)

  abbrev pub states_of : List (Item 𝓤) → List State
  states_of [] = []
  states_of (i ∷ []) = []
  states_of (i ∷ j ∷ Γ) = item_state i ∷ states_of Γ

  abbrev pub laid : List State → List (Item 𝓤)
  laid [] = []
  laid (c ∷ cs) = cell c.0 c.1 c.2 ∷ ‵ (fdies c.0 c.1) ∷ laid cs

  abbrev pub env_at : List State → Env 𝓤 H
  env_at [] = []
  env_at (c ∷ cs) = (c.0, c.1) ∷ env_at cs

  -- two entries go behind Γ, and come out again
  pub behind : (i j : Item 𝓤) (Γ L : List (Item 𝓤)) → ent 𝓤 (⋆ 𝓛 (i ∷ j ∷ Γ ++ L)) (⋆ 𝓛 (Γ ++ i ∷ j ∷ L))
  behind i j [] L = id⊢ 𝓤 _
  behind i j (k ∷ Γ) L =
      via 𝓤 (sep 𝓤 (mean 𝓛 i) (sep 𝓤 (mean 𝓛 k) (⋆ 𝓛 (j ∷ Γ ++ L)))) (mono_r 𝓤 (mean 𝓛 i) (swap j k (Γ ++ L)))
      (via 𝓤 (⋆ 𝓛 (i ∷ k ∷ j ∷ Γ ++ L)) (mono_r 𝓤 (mean 𝓛 i) (push 𝓛 k (j ∷ Γ ++ L)))
      (via 𝓤 (sep 𝓤 (mean 𝓛 k) (⋆ 𝓛 (i ∷ j ∷ Γ ++ L))) (swap i k (j ∷ Γ ++ L))
      (via 𝓤 (sep 𝓤 (mean 𝓛 k) (⋆ 𝓛 (Γ ++ i ∷ j ∷ L))) (mono_r 𝓤 (mean 𝓛 k) (behind i j Γ L)) (push 𝓛 k (Γ ++ i ∷ j ∷ L)))))
    where
      swap : (a c : Item 𝓤) (Δ : List (Item 𝓤)) → ent 𝓤 (⋆ 𝓛 (a ∷ c ∷ Δ)) (sep 𝓤 (mean 𝓛 c) (⋆ 𝓛 (a ∷ Δ)))
      swap a c Δ = pull 𝓛 1 (a ∷ c ∷ Δ)

  pub before : (i j : Item 𝓤) (Γ L : List (Item 𝓤)) → ent 𝓤 (⋆ 𝓛 (Γ ++ i ∷ j ∷ L)) (⋆ 𝓛 (i ∷ j ∷ Γ ++ L))
  before i j [] L = id⊢ 𝓤 _
  before i j (k ∷ Γ) L =
      via 𝓤 (sep 𝓤 (mean 𝓛 k) (⋆ 𝓛 (Γ ++ i ∷ j ∷ L))) (pop 𝓛 k (Γ ++ i ∷ j ∷ L))
      (via 𝓤 (⋆ 𝓛 (k ∷ i ∷ j ∷ Γ ++ L)) (mono_r 𝓤 (mean 𝓛 k) (before i j Γ L))
      (sel⊢ 𝓛 (1 ∷ 1 ∷ []) (k ∷ i ∷ j ∷ Γ ++ L)))

module _ {M : Type 1} {𝓤 : Ura M} {𝓛 : Logic 𝓤} {K : Type 0} where
  -- ---- into a function, and out of it
  open 𝓛 use {H}

  allocates : K → (Γ : List (Item 𝓤)) (ls : List Local) {Kt : Env 𝓤 H → Goal 𝓤 H} → ((bs : Blocks ls) → Seq K 𝓛 (Γ ++ cells 𝓛 ls bs []) (Kt (env_of 𝓛 ls bs))) → Seq K 𝓛 Γ (allocs ls Kt)
  allocates t Γ [] {Kt} k = alloc0 t $ by t (subst (λ (Δ : List (Item 𝓤)). ent 𝓤 (⋆ 𝓛 Δ) (aim 𝓤 H (Kt []))) (append-nil Γ) (k tt).prf)
  allocates t Γ (local τ h ∷ ls) {Kt} k =
      alloc1 t (λ b. allocates t (‵ (froom τ b 0) ∷ ‵ (fdies τ b) ∷ Γ) ls {Kt = λ E. Kt ((τ, b) ∷ E)} (λ bs. by t (via 𝓤 _ (behind 𝓛 (‵ (froom τ b 0)) (‵ (fdies τ b)) Γ (cells 𝓛 ls bs [])) (k (b, bs)).prf)))

  pub begins : K → {Γ : List (Item 𝓤)} (C : Calls 𝓤 H) (Λ : Loops 𝓤 H) (f : Fn) (vs : List Val) (Kf : Val → SProp 𝓤)
      → ((bs : Blocks f.locals) → Seq K 𝓛 (Γ ++ cells 𝓛 f.locals bs []) (params' (env_of 𝓛 f.locals bs) vs (runs C Λ (env_of 𝓛 f.locals bs) f.body (at_ret (env_of 𝓛 f.locals bs) Kf)))) → Seq K 𝓛 Γ (prop (WpFn 𝓤 H C Λ f vs Kf))
  begins t {Γ} C Λ f vs Kf k = enter t C Λ f vs Kf $ allocates t Γ f.locals k

  frees_cell : K → (Γ : List (Item 𝓤)) (τ : Ty) (b : ℕ) (v : Option Val) {E : Env 𝓤 H} {G : Goal 𝓤 H} → Seq K 𝓛 Γ (frees E G) → Seq K 𝓛 (cell 𝓛 τ b v ∷ ‵ (fdies τ b) ∷ Γ) (frees ((τ, b) ∷ E) G)
  frees_cell t Γ τ b none s = free1 t $ s
  frees_cell t Γ τ b (just v) s = forget t 0 refl $ free1 t $ s

  frees_all : K → (Γ : List (Item 𝓤)) (cs : List State) {G : Goal 𝓤 H} → Seq K 𝓛 Γ G → Seq K 𝓛 (Γ ++ laid 𝓛 cs) (frees (env_at 𝓛 cs) G)
  frees_all t Γ [] {G} s = by t (subst (λ (Δ : List (Item 𝓤)). ent 𝓤 (⋆ 𝓛 Δ) (aim 𝓤 H G)) (sym (append-nil Γ)) s.prf)
  frees_all t Γ (c ∷ cs) {G} s = by t (via 𝓤 _ (before 𝓛 (cell 𝓛 c.0 c.1 c.2) (‵ (fdies c.0 c.1)) Γ (laid 𝓛 cs)) (frees_cell t (Γ ++ laid 𝓛 cs) c.0 c.1 c.2 (frees_all t Γ cs s)).prf)

  module _ {Γ : List (Item 𝓤)} {E : Env 𝓤 H} where
    pub leaves : K → (g : ℕ) (Δ : List (Item 𝓤)) {G : Goal 𝓤 H} → Δ ++ laid 𝓛 (states_of 𝓛 (drop g Γ)) ≡ Γ → env_at 𝓛 (states_of 𝓛 (drop g Γ)) ≡ E → Step K 𝓛 Δ G Γ (frees E G)
    leaves t g Δ {G} e e' = step (λ s. by t (subst (λ (Γ' : List (Item 𝓤)). ent 𝓤 (⋆ 𝓛 Γ') (aim 𝓤 H (frees E G))) e
        (subst (λ (F : Env 𝓤 H). ent 𝓤 (⋆ 𝓛 (Δ ++ laid 𝓛 (states_of 𝓛 (drop g Γ)))) (aim 𝓤 H (frees F G))) e' (frees_all t Δ (states_of 𝓛 (drop g Γ)) s).prf)))

    -- ---- operands and assignments
    pub var : K → (g : ℕ) {i : ℕ} {s : Share} {v : Val} → nth 𝓛 (g + 2 * i) Γ ≡ ‵ (fat s (spot_of 𝓤 H E i).0 (spot_of 𝓤 H E i).1 zero v) → Opd K 𝓛 Γ E (copy (place i [])) v
    var t g {i} e = load t (from t (stop t)) (look t (g + 2 * i) e)

    -- field k of a local that holds a struct, as the count of a slice, field 1
    pub part_of : K → (g k : ℕ) {i : ℕ} {ν : Sym} {τs : Tys} {τ : Ty} {d : ℕ} {vs : Vals} {s : Share} → nth 𝓛 (g + 2 * i) Γ ≡ ‵ (fat s (ty_struct ν τs) (spot_of 𝓤 H E i).1 zero (vstruct vs)) → (spot_of 𝓤 H E i).0 ≡ ty_struct ν τs
        → field_at zero τs k ≡ just (τ, d)
        → Opd K 𝓛 Γ E (copy (place i (field k ∷ []))) (get_v vs k)
    part_of t g k {i} {ν} {τs} {τ} {d} {vs} {s} e e' f =
        load t (from t (fld t (ap (λ (σ : Ty). field_of σ k) e' ∙ f) (stop t)))
        (look_in t (g + 2 * i) (subst (λ (j : Item 𝓤). Part K 𝓛 j s τ (spot_of 𝓤 H E i).1 (zero + d) (get_v vs k) (λ u. ‵ (fat s (ty_struct ν τs) (spot_of 𝓤 H E i).1 zero (vstruct (set_v vs k u))))) (sym e) (sub t k f (whole t))))

    -- `&mut *s.0`, where s is a slice: its pointer
    pub reborrow : K → (g : ℕ) {i : ℕ} {ℓ : Lifetime} {μ : Mutability} {σ τ : Ty} {s : Share} {b o n : ℕ} → nth 𝓛 (g + 2 * i) Γ ≡ ‵ (fat s (slice_ty (ty_ref ℓ μ σ)) (spot_of 𝓤 H E i).1 zero (slice_val (b, o) n)) → (spot_of 𝓤 H E i).0 ≡ slice_ty (ty_ref ℓ μ σ)
        → Rv K 𝓛 Γ E (addr_of (place i (field 0 ∷ deref τ ∷ []))) (vptr b o)
    reborrow t g {i} {ℓ} {μ} {σ} {τ} {s} {b} {o} {n} e e' =
        addr t (from t (fld t (ap (λ (υ : Ty). field_of υ 0) e')
        (hop t (look_in t (g + 2 * i) (subst (λ (j : Item 𝓤). Part K 𝓛 j s (ty_ref ℓ μ σ) (spot_of 𝓤 H E i).1 zero (vptr b o) (λ u. ‵ (fat s (slice_ty (ty_ref ℓ μ σ)) (spot_of 𝓤 H E i).1 zero (vstruct (vcons u (vcons (vint w64 n) vnil)))))) (sym e) (sub t 0 refl (whole t))))
        (stop t))))

    module _ {C : Calls 𝓤 H} {Λ : Loops 𝓤 H} {q : Post 𝓤 H} where
      pub makes : K → (g : ℕ) {i : ℕ} {rv : RValue} {rest : Body} {v : Val} → Rv K 𝓛 Γ E rv v → nth 𝓛 (g + 2 * i) Γ ≡ ‵ (froom (spot_of 𝓤 H E i).0 (spot_of 𝓤 H E i).1 zero) → T (has_ty (spot_of 𝓤 H E i).0 v) × WT v
          → Step K 𝓛 (put 𝓛 (g + 2 * i) (‵ (fat full_share (spot_of 𝓤 H E i).0 (spot_of 𝓤 H E i).1 zero v)) Γ) (runs C Λ E rest q) Γ (runs C Λ E (seq (assign (place i []) rv) rest) q)
      makes t g {i} r e wt = assigns t r (from t (stop t)) (init t (g + 2 * i) e wt)

      pub remakes : K → (g : ℕ) {i : ℕ} {rv : RValue} {rest : Body} {v v₀ : Val} → Rv K 𝓛 Γ E rv v → nth 𝓛 (g + 2 * i) Γ ≡ ‵ (fat full_share (spot_of 𝓤 H E i).0 (spot_of 𝓤 H E i).1 zero v₀) → T (has_ty (spot_of 𝓤 H E i).0 v) × WT v
          → Step K 𝓛 (put 𝓛 (g + 2 * i) (‵ (fat full_share (spot_of 𝓤 H E i).0 (spot_of 𝓤 H E i).1 zero v)) Γ) (runs C Λ E rest q) Γ (runs C Λ E (seq (assign (place i []) rv) rest) q)
      remakes t g {i} r e wt = assigns t r (from t (stop t)) (store t (g + 2 * i) e wt)

      -- an `if` with no `else`
      pub tests : K → {c : Operand} {a b : Body} {y : Bool} → Opd K 𝓛 Γ E c (vbool y) → (Holds y → Seq K 𝓛 Γ (runs C Λ E a (any_q (after_seq 𝓤 H (Wp 𝓤 H C Λ E b (post 𝓤 H q)) (post 𝓤 H q)))))
          → (Holds (not y) → Seq K 𝓛 Γ (runs C Λ E b q)) → Seq K 𝓛 Γ (runs C Λ E (seq (cond c a skip) b) q)
      tests t o held failed = first t $ branches t o held (λ h. skips t $ record { prf = (failed h).prf })

      -- the test of a `while`
      pub whiles : K → {c : Operand} {n : ℕ} {b : Body} {y : Bool} → Opd K 𝓛 Γ E c (vbool y) → (Holds y → Seq K 𝓛 Γ (runs C Λ E b q)) → (Holds (not y) → Seq K 𝓛 Γ (prop (post 𝓤 H q (exits n)))) → Seq K 𝓛 Γ (runs C Λ E (seq (cond c skip (exit n)) b) q)
      whiles t o held failed = first t $ branches t o (λ h. skips t $ record { prf = (held h).prf }) (λ h. jumps t $ record { prf = (failed h).prf })

module _ {M : Type 1} {𝓤 : Ura M} {𝓛 : Logic 𝓤} {K : Type 0} {Γ : List (Item 𝓤)} {E : Env 𝓤 𝓛.H} {C : Calls 𝓤 𝓛.H} {Λ : Loops 𝓤 𝓛.H} {q : Post 𝓤 𝓛.H} where
  -- `p = &mut *s.0;  t = (p, s.1)`, the two statements before the slice s is passed on as t: p is local j. The equations are refl
  open 𝓛 use {H}

  pub relends : K → (g : ℕ) {i j t : ℕ} {ℓ : Lifetime} {μ : Mutability} {σ τ : Ty} {s : Share} {b o n : ℕ} {rest : Body} → nth 𝓛 (g + 2 * i) Γ ≡ ‵ (fat s (slice_ty (ty_ref ℓ μ σ)) (spot_of 𝓤 H E i).1 zero (slice_val (b, o) n))
      → (spot_of 𝓤 H E i).0 ≡ slice_ty (ty_ref ℓ μ σ)
      → nth 𝓛 (g + 2 * j) Γ ≡ ‵ (froom (spot_of 𝓤 H E j).0 (spot_of 𝓤 H E j).1 zero) → T (has_ty (spot_of 𝓤 H E j).0 (vptr b o)) × WT (vptr b o)
      → nth 𝓛 (g + 2 * j) (put 𝓛 (g + 2 * j) (‵ (fat full_share (spot_of 𝓤 H E j).0 (spot_of 𝓤 H E j).1 zero (vptr b o))) Γ) ≡ ‵ (fat full_share (spot_of 𝓤 H E j).0 (spot_of 𝓤 H E j).1 zero (vptr b o))
      → nth 𝓛 (g + 2 * i) (put 𝓛 (g + 2 * j) (‵ (fat full_share (spot_of 𝓤 H E j).0 (spot_of 𝓤 H E j).1 zero (vptr b o))) Γ) ≡ ‵ (fat s (slice_ty (ty_ref ℓ μ σ)) (spot_of 𝓤 H E i).1 zero (slice_val (b, o) n))
      → nth 𝓛 (g + 2 * t) (put 𝓛 (g + 2 * j) (‵ (fat full_share (spot_of 𝓤 H E j).0 (spot_of 𝓤 H E j).1 zero (vptr b o))) Γ) ≡ ‵ (froom (spot_of 𝓤 H E t).0 (spot_of 𝓤 H E t).1 zero) → T (has_ty (spot_of 𝓤 H E t).0 (slice_val (b, o) n)) × WT (slice_val (b, o) n)
      → Step K 𝓛 (put 𝓛 (g + 2 * t) (‵ (fat full_share (spot_of 𝓤 H E t).0 (spot_of 𝓤 H E t).1 zero (slice_val (b, o) n))) (put 𝓛 (g + 2 * j) (‵ (fat full_share (spot_of 𝓤 H E j).0 (spot_of 𝓤 H E j).1 zero (vptr b o))) Γ)) (runs C Λ E rest q)
      Γ (runs C Λ E (seq (assign (place j []) (addr_of (place i (field 0 ∷ deref τ ∷ [])))) (seq (assign (place t []) (aggregate (copy (place j []) ∷ copy (place i (field 1 ∷ [])) ∷ []))) rest)) q)
  relends k g {i} {j} {t} at-s is-s at_p wt at-p' at-s' at-t wt' =
      step (λ u. assigns k (reborrow k g at-s is-s) (from k (stop k)) (init k (g + 2 * j) at_p wt) $ assigns k (agg k (and_then k (var k g at-p') (and_then k (part_of k g 1 at-s' is-s refl) (no_more k)))) (from k (stop k)) (init k (g + 2 * t) at-t wt') $ u)
