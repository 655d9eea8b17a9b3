-- A local array that is lent as a `&mut` slice: its memory is the slice's for a lifetime that is made for the loan, and the local's again after it.
--     repeated         `[x; n]` holds n times x
--     lends_local      an array in memory makes a slice, `Loan`; `Away` is what the lender keeps, in the local's place
--     local_back       the slice is given up, whatever it holds, and the place is room again
--     lends_made, lends_empty  as a step of a walk: the array is made, and lent at once; `[x; 0]` is the second. The walk gets a token x, of which `slice_of x` is the slice and `entry_of x` its entry
--     takes_back ! tt x zs refl        the step after the call, which left zs
-- Assumes `Logic`.
use mathlib.Core.Path.{◌≡◌, refl, sym, ap, subst}
use Prim.Native.Nat.{ℕ, zero, suc, ◌+◌, ◌*◌}
use mathlib.Core.List.{List, [], ◌∷◌}
use lib.Dec.{T as Holds, lit<}
use lib.ListN.{length, replicate, length-replicate}
use seplogic.Ra.Ura.{Ura}
use base.Fraction.{full_share}
use mir.Syntax.{Ty, ty_array, named, place, Rv as RValue, aggregate, Body, seq, assign}
use mir.Val.{Val, WT, has_ty}
use base.Logic.{ent, sep, ex, via}
use base.Fml.{GName, Fml, ftrue, fsep, flent, fat, froom, fdies, fres}
use prog.Wp.{Env, Calls, Loops, spot_of}
use types.Logic.{Logic, sem}
use types.Kit.{Item, ‵, raw, ◌⊛◌, some, later, Goal, Soaks, Post, runs, mean, ⋆, nth, put, Seq, Step, step, ◌$◌, ◌∵◌, !, qed, by, move, keep, drop, use0, use1, use2, use3}
use types.Kit.{rewrite, split, join, pick, fsplit, fjoin, fpick, fpack, feq_l, feq_i, frame, await, updating, now as at_once, show, done}
use types.Part.{agg}
use types.Run.{Rv, no_more}
use types.Tokens.{lft_new, lft_end}
use types.SemTy.{cells, Arr}
use types.Share.{arr_parts}
use denote.RattleType.{RattleType}
use denote.Builtin.{u64}
use denote.Shadow.{shadow, pure_l}
use denote.Laws.{Is, Makes}
use denote.Memory.{lone, cell_at, part_at, mem, shares, part_of}
use denote.Array.{Array, array_val, each, Array-Makes}
use denote.ArrayMemory.{Single, Array-apart, Array-whole}
use denote.Slice.{Room, heres, coded_holeys, finally, res-finally, mut_slice_at, slice_val}
use denote.Index.{row, whole_in, whole_out}
use denote.Lend.{Held, lends_slice, slice_back}
use Rattle.walks.proofs.Hold.{MutOwn, Mut, ref}
use Rattle.walks.proofs.Types.{Slice, number}
use Rattle.walks.proofs.Walk.{makes}
use Rattle.walks.proofs.Entries.{joined, blanks, nths, takes_out, replaces}
use Rattle.walks.proofs.Calls.{first, others}

module _ (R : RattleType) (x : R.Denot) (u : Val) (is : Is R x (u ∷ [])) where
  all_are : (n : ℕ) → shadow (each R.Denot R.own_val (replicate n x) (replicate n u))
  all_are zero = tt
  all_are (suc n) = (is, all_are n)

  pub repeated : (n : ℕ) → Is (Array R n) (replicate n x) (array_val (replicate n u) ∷ [])
  repeated n = (replicate n u, ((refl, length-replicate n x), all_are n))

module _ (R : RattleType) (n : ℕ) where
  abbrev pub ArrayTy : Ty
  ArrayTy = ty_array (lone R.mir) n

  abbrev pub Away : ℕ → ℕ → ℕ × GName → Fml
  Away b o x = flent (x.0 ∷ []) (Held R n b o x.1)

  module _ {M : Type 1} {𝓤 : Ura M} (𝓛 : Logic 𝓤) where
    open 𝓛 use {H}

    abbrev pub Loan : ℕ → ℕ → List R.Denot → ℕ × GName → Item 𝓤
    Loan b o ys x = Mut 𝓤 R (x.0 ∷ []) full_share b o n x.1 ys

    pub lends_local : Makes 𝓛 R (Is R) → Single R.mir → (v : Val) (ys : List R.Denot) (b o : ℕ) → Is (Array R n) ys (v ∷ []) → Room R n
        → ent 𝓤 (sem 𝓛 (fat full_share ArrayTy b o v)) (H.⇛ (ex 𝓤 (λ (x : ℕ × GName). sep 𝓤 (mean 𝓛 (Loan b o ys x)) (sem 𝓛 (Away b o x)))))
    unfolding part_of
    lends_local mk one v ys b o is room =
        qed 𝓛 (‵ (fat full_share ArrayTy b o v) ∷ []) ∵ updating ! $
        use1 𝓛 (‵ (cell_at full_share (ArrayTy ∷ []) (v ∷ []) b o)) (𝓛.laws.at_raw full_share ArrayTy b o v) $
        use0 𝓛 (‵ ((Array R n).own_val ys (v ∷ []))) (Array-Makes 𝓛 R mk n ys (v ∷ []) is) $ move ! (1 ∷ 0 ∷ []) $ fjoin ! $
        fpack ! (List Val) (λ vs. fsep (cell_at full_share (ArrayTy ∷ []) vs b o) ((Array R n).own_val ys vs)) (v ∷ []) $
        use1 𝓛 (‵ ((arr_parts (shares R) n).part full_share ys b o)) (Array-apart 𝓛 R full_share one n ys b o) $ fsplit ! $ feq_l ! (λ len.
        use1 𝓛 (‵ (cells (mem R) ys b o)) (whole_in 𝓛 R ys b o) $ lft_new ! tt (λ ν. move ! (1 ∷ []) $
        use1 𝓛 (later (some (λ (γ : GName). ‵ (MutOwn R (ν ∷ []) b o (length ys) γ ys) ⊛ ‵ (flent (ν ∷ []) (Held R (length ys) b o γ))))) (lends_slice 𝓛 R (named 0) (ν ∷ []) ys b o (subst (Room R) (sym len) room)) $ await ! tt $ pick ! (λ γ. split ! $
        rewrite ! 0 (λ (m : ℕ). ‵ (MutOwn R (ν ∷ []) b o m γ ys)) len refl $ rewrite ! 1 (λ (m : ℕ). ‵ (flent (ν ∷ []) (Held R m b o γ))) len refl $
        at_once ! $ show ! (λ (x : ℕ × GName). sep 𝓤 (mean 𝓛 (Loan b o ys x)) (sem 𝓛 (Away b o x))) (ν, γ) $ move ! (0 ∷ 2 ∷ []) $ join ! $ frame ! $ done !)))

    pub local_back : (zs : List R.Denot) (b o : ℕ) (x : ℕ × GName) → ent 𝓤 (sep 𝓤 (mean 𝓛 (Loan b o zs x)) (sem 𝓛 (Away b o x))) (H.⇛ (sem 𝓛 (froom ArrayTy b o)))
    unfolding part_of
    local_back zs b o x =
        qed 𝓛 (Loan b o zs x ∷ ‵ (Away b o x) ∷ []) ∵ updating ! $ split ! $ move ! (1 ∷ []) $ lft_end ! tt $ move ! (1 ∷ []) $ fsplit ! $
        pure_l ! (mut_slice_at R (ref b o x.1 zs) (slice_val (b, o) n ∷ [])) (λ p. fsplit ! $
        -- [obs; the borrow; the lifetime is over; what the lender kept]
        use1 𝓛 (‵ (fres x.1 ((coded_holeys R).code (heres R zs)))) (𝓛.names.obs-res x.1 ((coded_holeys R).code (heres R zs))) $
        use1 𝓛 (‵ (finally R x.1 zs)) (res-finally 𝓛 (named 0) (x.0 ∷ []) R x.1 zs) $ move ! (2 ∷ 3 ∷ 0 ∷ []) $
        use3 𝓛 (later (‵ ((Arr (mem R) n).own_at zs b o))) (slice_back 𝓛 R (x.0 ∷ []) x.1 zs n b o) $ await ! tt $ keep ! (0 ∷ []) $ fsplit ! $ feq_l ! (λ len.
        use1 𝓛 (‵ (row R full_share zs b o)) (whole_out 𝓛 R zs b o) $ feq_i ! ℕ (length zs) n len $ fjoin ! $
        use1 𝓛 (‵ (part_at (Array R n) full_share zs b o)) (Array-whole 𝓛 R full_share n zs b o) $ fpick ! (λ vs. fsplit ! $ move ! (1 ∷ []) $ fpick ! (λ us. fsplit ! $ fsplit ! $ feq_l ! (λ e. feq_l ! (λ l. drop ! $
        rewrite ! 0 (λ (ws : List Val). ‵ (cell_at full_share (ArrayTy ∷ []) ws b o)) e refl $
        use1 𝓛 (‵ (fat full_share ArrayTy b o (array_val us))) (𝓛.laws.raw_at full_share ArrayTy b o (array_val us)) $ use1 𝓛 (‵ (froom ArrayTy b o)) (𝓛.laws.at_room ArrayTy b o (array_val us)) $ at_once ! $ done !))))))

-- ---- as steps of a walk: the loan is entry k, that of the local's cell; the next entry has what the lender keeps, beside that the local dies
-- ys are on loan from the local at block b
pub record Token (R : RattleType) (ys : List R.Denot) (k b : ℕ) : Type 0 where
  pub name : ℕ × GName
  pub room : Room R (length ys)

abbrev pub entry_of : {R : RattleType} {ys : List R.Denot} {k b : ℕ} → Token R ys k b → ℕ
entry_of {k = k} x = k

abbrev pub slice_of : {R : RattleType} {ys : List R.Denot} {k b : ℕ} → Token R ys k b → Slice R
slice_of {ys = ys} {b = b} x = record { lft = x.name.0 ∷ []; share = full_share; block = b; off = 0; name = x.name.1; was = ys; room = x.room }

module _ {M : Type 1} {𝓤 : Ura M} (𝓛 : Logic 𝓤) (k : ℕ) (Γ : List (Item 𝓤)) where
  abbrev out : List (Item 𝓤)
  out = blanks 𝓛 (k ∷ suc k ∷ []) Γ

  abbrev both : Item 𝓤 → Item 𝓤 → List (Item 𝓤)
  both i j = put 𝓛 (suc k) j (put 𝓛 k i out)

module _ {M : Type 1} {𝓤 : Ura M} (𝓛 : Logic 𝓤) (R : RattleType) (n k b : ℕ) (Γ : List (Item 𝓤)) where
  abbrev loan : List R.Denot → ℕ × GName → Item 𝓤
  loan ys x = Loan R n 𝓛 b zero ys x

  abbrev kept : ℕ × GName → Item 𝓤
  kept x = ‵ (Away R n b zero x) ⊛ ‵ (fdies (ArrayTy R n) b)

  abbrev on_loan : List R.Denot → ℕ × GName → List (Item 𝓤)
  on_loan ys x = both 𝓛 k Γ (loan ys x) (kept x)

  abbrev free : Item 𝓤
  free = ‵ (froom (ArrayTy R n) b zero)

  abbrev dying : Item 𝓤
  dying = ‵ (fdies (ArrayTy R n) b)

  abbrev returned : List (Item 𝓤)
  returned = both 𝓛 k Γ free dying

-- local i is made to hold v, which is an array of n, and was room
module _ {M : Type 1} {𝓤 : Ura M} (𝓛 : Logic 𝓤) (R : RattleType) (n g i : ℕ) (v : Val) (E : Env 𝓤 𝓛.H) (Γ : List (Item 𝓤)) where
  open 𝓛 use {H}

  abbrev made_at : List (Item 𝓤)
  made_at = put 𝓛 (g + 2 * i) (‵ (fat full_share (spot_of 𝓤 H E i).0 (spot_of 𝓤 H E i).1 zero v)) Γ

  abbrev found : Ty × List (Item 𝓤)
  found = ((spot_of 𝓤 H E i).0, nth 𝓛 (g + 2 * i) Γ ∷ nths 𝓛 ((g + 2 * i) ∷ suc (g + 2 * i) ∷ []) made_at)

  abbrev wanted : Ty × List (Item 𝓤)
  wanted = (
    ArrayTy R n,
    ‵ (froom (spot_of 𝓤 H E i).0 (spot_of 𝓤 H E i).1 zero) ∷ ‵ (fat full_share (ArrayTy R n) (spot_of 𝓤 H E i).1 zero v) ∷ ‵ (fdies (ArrayTy R n) (spot_of 𝓤 H E i).1) ∷ [],
  )

module _ {M : Type 1} {𝓤 : Ura M} {𝓛 : Logic 𝓤} {K : Type 0} where
  open 𝓛 use {H}

  module _ (R : RattleType) (n k b : ℕ) (Γ : List (Item 𝓤)) where
    both_out : K → {i j : Item 𝓤} → nths 𝓛 (k ∷ suc k ∷ []) Γ ≡ i ∷ j ∷ [] → {G : Goal 𝓤 H} → Seq K 𝓛 ((i ⊛ (j ⊛ ‵ ftrue)) ∷ raw (⋆ 𝓛 (out 𝓛 k Γ)) ∷ []) G → Seq K 𝓛 Γ G
    both_out t e s = by t (via 𝓤 _ (subst (λ (js : List (Item 𝓤)). ent 𝓤 (⋆ 𝓛 Γ) (sep 𝓤 (mean 𝓛 (joined 𝓛 js)) (⋆ 𝓛 (out 𝓛 k Γ)))) e (takes_out 𝓛 (k ∷ suc k ∷ []) Γ)) s.prf)

    both_in : K → (i j : Item 𝓤) {Δ : List (Item 𝓤)} {G : Goal 𝓤 H} → Seq K 𝓛 (both 𝓛 k Γ i j) G → Seq K 𝓛 (i ∷ j ∷ raw (⋆ 𝓛 (out 𝓛 k Γ)) ∷ Δ) G
    both_in t i j s =
        let first-in = put 𝓛 k i (out 𝓛 k Γ) in
        move t (0 ∷ 2 ∷ []) $ use2 𝓛 (raw (⋆ 𝓛 first-in)) (replaces 𝓛 k i (out 𝓛 k Γ)) $
        move t (1 ∷ 0 ∷ []) $ use2 𝓛 (raw (⋆ 𝓛 (both 𝓛 k Γ i j))) (replaces 𝓛 (suc k) j first-in) $ keep t (0 ∷ []) $ by t s.prf

    lends_pair : {G : Goal 𝓤 H} → K → Soaks G → Makes 𝓛 R (Is R) → Single R.mir → {v : Val} → nths 𝓛 (k ∷ suc k ∷ []) Γ ≡ ‵ (fat full_share (ArrayTy R n) b zero v) ∷ dying 𝓛 R n k b Γ ∷ []
        → (ys : List R.Denot) → Is (Array R n) ys (v ∷ []) → Room R n → ((x : ℕ × GName) → Seq K 𝓛 (on_loan 𝓛 R n k b Γ ys x) G) → Seq K 𝓛 Γ G
    lends_pair t z mk one {v} e ys is room next =
        both_out t e (split t $ move t (1 ∷ []) $ split t $ move t (2 ∷ []) $
        use1 𝓛 (later (some (λ (x : ℕ × GName). loan 𝓛 R n k b Γ ys x ⊛ ‵ (Away R n b zero x)))) (lends_local R n 𝓛 mk one v ys b zero is room) $ await t z $ pick t (λ x. split t $
        move t (1 ∷ 2 ∷ []) $ join t $ move t (1 ∷ 0 ∷ 3 ∷ []) $ both_in t (loan 𝓛 R n k b Γ ys x) (kept 𝓛 R n k b Γ x) (next x)))

    pair_back : {G : Goal 𝓤 H} → K → Soaks G → (x : ℕ × GName) (zs : List R.Denot) → nths 𝓛 (k ∷ suc k ∷ []) Γ ≡ loan 𝓛 R n k b Γ zs x ∷ kept 𝓛 R n k b Γ x ∷ [] → Seq K 𝓛 (returned 𝓛 R n k b Γ) G → Seq K 𝓛 Γ G
    pair_back t z x zs e s =
        both_out t e (split t $ move t (1 ∷ []) $ split t $ split t $ move t (3 ∷ 0 ∷ []) $
        use2 𝓛 (later (free 𝓛 R n k b Γ)) (local_back R n 𝓛 zs b zero x) $ await t z $ move t (0 ∷ 1 ∷ 3 ∷ []) $ both_in t (free 𝓛 R n k b Γ) (dying 𝓛 R n k b Γ) s)

  module _ {Γ : List (Item 𝓤)} {G : Goal 𝓤 H} where
    pub takes_back : K → Soaks G → {R : RattleType} {ys : List R.Denot} {k b : ℕ} (x : Token R ys k b) (zs : List R.Denot)
        → nths 𝓛 (k ∷ suc k ∷ []) Γ ≡ loan 𝓛 R (length ys) k b Γ zs x.name ∷ kept 𝓛 R (length ys) k b Γ x.name ∷ [] → Step K 𝓛 (returned 𝓛 R (length ys) k b Γ) G Γ G
    takes_back t z {R} {ys} {k} {b} x zs e = step (λ s. pair_back R (length ys) k b Γ t z x.name zs e s)

  module _ {Γ : List (Item 𝓤)} {E : Env 𝓤 H} {C : Calls 𝓤 H} {Λ : Loops 𝓤 H} {q : Post 𝓤 H} where
    pub lends_made : K → (g : ℕ) (R : RattleType) (ys : List R.Denot) {i : ℕ} {rv : RValue} {rest : Body} {v : Val} → Rv K 𝓛 Γ E rv v → Holds (has_ty (ArrayTy R (length ys)) v) × WT v
        → Makes 𝓛 R (Is R) → Single R.mir → Is (Array R (length ys)) ys (v ∷ []) → Room R (length ys) → found 𝓛 R (length ys) g i v E Γ ≡ wanted 𝓛 R (length ys) g i v E Γ
        → ((x : Token R ys (g + 2 * i) (spot_of 𝓤 H E i).1) → Seq K 𝓛 (on_loan 𝓛 R (length ys) (g + 2 * i) (spot_of 𝓤 H E i).1 (made_at 𝓛 R (length ys) g i v E Γ) ys x.name) (runs C Λ E rest q))
        → Seq K 𝓛 Γ (runs C Λ E (seq (assign (place i []) rv) rest) q)
    lends_made t g R ys {i} {v = v} r wt mk one is room eq next =
        let e = ap (λ (x : Ty × List (Item 𝓤)). x.1) eq in
        makes t g r (ap (first 𝓛) e) (subst (λ (σ : Ty). Holds (has_ty σ v) × WT v) (sym (ap (λ (x : Ty × List (Item 𝓤)). x.0) eq)) wt) $
        lends_pair R (length ys) (g + 2 * i) (spot_of 𝓤 H E i).1 (made_at 𝓛 R (length ys) g i v E Γ) t tt mk one (ap (others 𝓛) e) ys is room (λ x. next (record { name = x; room = room }))

    pub lends_empty : K → (g : ℕ) {i : ℕ} {rest : Body} → found 𝓛 u64 0 g i (array_val []) E Γ ≡ wanted 𝓛 u64 0 g i (array_val []) E Γ
        → ((x : Token u64 [] (g + 2 * i) (spot_of 𝓤 H E i).1) → Seq K 𝓛 (on_loan 𝓛 u64 0 (g + 2 * i) (spot_of 𝓤 H E i).1 (made_at 𝓛 u64 0 g i (array_val []) E Γ) [] x.name) (runs C Λ E rest q))
        → Seq K 𝓛 Γ (runs C Λ E (seq (assign (place i []) (aggregate [])) rest) q)
    lends_empty t g eq next = lends_made t g u64 [] (agg t (no_more t)) (tt, tt) (number.makes 𝓛) tt ([], ((refl, refl), tt)) (lit< tt, lit< tt) eq next
