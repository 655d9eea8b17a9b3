-- What a parameter of a walked function is.
--     Plain            a type whose values are plain: a number, a struct, an enum. `number`, `nothing`
--     Slice R          where a `&[R]` or a `&mut [R]` lies, its lifetime and its list on entry, `was`; the name is a `&mut`'s, a `&` has none
--     Kind             what a parameter is: `by_value P`, `shared R L`, `lent R`. The references of a function have a lifetime each, in their order: `counted`
--     slots, stays, goes, spells, tells        what `denote.Triple.Walked` asks of each parameter, by their kinds
--     refs, locals, places     how many references the kinds ks have, the first local after them, and the entry of each reference. `entries`: these in a list
--     Names ks, names          the parameters of the kinds ks, with what is known of them
--     Each ks F, each_at       F for all of them, bound one by one, so that a walk has a name for each
-- Assumes `Logic`.
use mathlib.Core.Path.{◌≡◌, refl, sym, subst}
use mathlib.Core.List.{List, [], ◌∷◌}
use Prim.Native.Nat.{ℕ, zero, suc}
use lib.ListN.{length}
use seplogic.Ra.Ura.{Ura}
use mir.Syntax.{named, w64, Ty, ty_int, ty_unit}
use mir.Val.{Val}
use base.Fml.{Lft, GName, Share, ftrue}
use types.Logic.{Logic}
use contract.Lifetimes.{Lfts, Shares, Within}
use denote.RattleType.{RattleType, RowLaws}
use denote.Laws.{Is, Tells, Makes, Lawful, Spells, Tellss, Ises}
use denote.Shadow.{makes_shadow}
use denote.Exit.{Exit, unchanged, Last, left, yes}
use denote.Ref.{Bor, MutBor}
use denote.Slice.{slice_val, Room, MutSlice, ShrSlice, shr_slice_vals, mut_slice_vals, mut_slice_Tells, shr_slice_Tells}
use denote.Signature.{Slot, plain, shr_slice_of, mut_slice_of, meet_at, name_of, types_at}
use denote.Struct.Field.{Field, u64-field, unit-field}
use denote.Struct.Laws.{FLaws, Copyable, Plain as Pures, u64-laws, u64-copy, u64-plain, unit-laws, unit-copy, unit-plain}
use denote.Struct.Laws as SL
use denote.Struct.Declared as SD
use denote.Struct.Struct.{Plains}
use denote.Enum.Laws as EL
use denote.Enum.Declared as ED
use denote.Enum.Enum.{Plainss, Few}
use denote.Triple.End.{all}
use denote.Triple.Walked.{Stays, stay_none, stay_none_slice, stay_slice, AllGo, Goes-none, Goes-none_slice, Goes-slice}

-- ---- plain types, slices and kinds
pub record Plain : Type 2 where
  pub row : RattleType
  pub val : row.Denot → Val
  pub tells : Tells row (Is row) (λ x. val x ∷ [])
  pub lawful : {M : Type 1} {𝓤 : Ura M} (𝓛 : Logic 𝓤) → Lawful 𝓛 row
  pub still : row.exit yes ≡ unchanged
  pub makes : {M : Type 1} {𝓤 : Ura M} (𝓛 : Logic 𝓤) → Makes 𝓛 row (Is row)
  pub ty : Ty
  pub one : row.mir ≡ ty ∷ []

-- of a built-in type; a declared struct; a declared enum. What they take is in the type's module and in its `Laws`
abbrev pub built_in : (F : Field) → FLaws F → Copyable F → Pures F → (τ : Ty) → F.row.mir ≡ τ ∷ [] → Plain
built_in F L C P τ e = record { row = F.row; val = L.val; tells = L.tells; lawful = L.lawful; still = C.still yes; makes = λ 𝓛 x vs. makes_shadow 𝓛 (F.row.own_val x vs) (P x vs); ty = τ; one = e }

abbrev pub struct : (D : SD.Declared) (L : SL.Laws D) → SL.Copyables D.parts → Plains (SD.fields D) → (τ : Ty) → (SD.row D).mir ≡ τ ∷ [] → Plain
struct D L C P τ e = record { row = SD.row D; val = SL.val D L; tells = SL.tells D L; lawful = SL.lawful D L; still = SL.still D C yes; makes = SL.makes D P; ty = τ; one = e }

abbrev pub enum : (D : ED.Declared) (L : EL.Laws D) → EL.Copyabless D.parts → Plainss (ED.variants D) → Few (ED.shape D) → (τ : Ty) → (ED.row D).mir ≡ τ ∷ [] → Plain
enum D L C P few τ e = record { row = ED.row D; val = EL.val D L; tells = EL.tells D L; lawful = λ 𝓛. EL.lawful D L 𝓛 few; still = EL.still D C yes; makes = EL.makes D P; ty = τ; one = e }

abbrev pub Row : Plain → RattleType
Row P = P.row

abbrev pub Of : Plain → Type 0
Of P = P.row.Denot

abbrev pub value : (P : Plain) → Of P → Val
value P x = P.val x

abbrev pub Has : (P : Plain) → Of P → Type 0
Has P x = Is P.row x (P.val x ∷ [])

-- a value, and that its machine value is of its type
pub record Value (P : Plain) : Type 0 where
  pub it : P.row.Denot
  pub is : Is P.row it (P.val it ∷ [])

abbrev pub number : Plain
number = built_in u64-field u64-laws u64-copy u64-plain (ty_int w64) refl

abbrev pub nothing : Plain
nothing = built_in unit-field unit-laws unit-copy unit-plain ty_unit refl

pub record Slice (R : RattleType) : Type 0 where
  pub lft : Lft
  pub share : Share
  pub block : ℕ
  pub off : ℕ
  pub name : GName
  pub was : List R.Denot
  pub room : Room R (length was)

abbrev pub count : {R : RattleType} → Slice R → ℕ
count s = length s.was

abbrev pub slice_of : {R : RattleType} → Slice R → Val
slice_of s = slice_val (s.block, s.off) (length s.was)

pub data Kind : Type 2 where
  by_value : Plain → Kind
  shared : (R : RattleType) → RowLaws R → Kind
  lent : RattleType → Kind

abbrev pub refs : List Kind → ℕ
refs [] = 0
refs (by_value P ∷ ks) = refs ks
refs (shared R L ∷ ks) = suc (refs ks)
refs (lent R ∷ ks) = suc (refs ks)

-- the lifetimes of the references, from the i-th on, are among n
abbrev pub Counted : ℕ → ℕ → List Kind → Type 0
Counted n i [] = Unit {0}
Counted n i (by_value P ∷ ks) = Counted n i ks
Counted n i (shared R L ∷ ks) = Within n i × Counted n (suc i) ks
Counted n i (lent R ∷ ks) = Within n i × Counted n (suc i) ks

abbrev one_more : (n i : ℕ) (ks : List Kind) → Counted n i ks → Counted (suc n) (suc i) ks
one_more n i [] ok = tt
one_more n i (by_value P ∷ ks) ok = one_more n i ks ok
one_more n i (shared R L ∷ ks) ok = (ok.0, one_more n (suc i) ks ok.1)
one_more n i (lent R ∷ ks) ok = (ok.0, one_more n (suc i) ks ok.1)

abbrev pub counted : (ks : List Kind) → Counted (refs ks) 0 ks
counted [] = tt
counted (by_value P ∷ ks) = counted ks
counted (shared R L ∷ ks) = (tt, one_more (refs ks) 0 ks (counted ks))
counted (lent R ∷ ks) = (tt, one_more (refs ks) 0 ks (counted ks))

module _ (n : ℕ) where
  abbrev slots_at : (i : ℕ) (ks : List Kind) → Counted n i ks → List (Slot n)
  slots_at i [] ok = []
  slots_at i (by_value P ∷ ks) ok = plain (λ _. P.row) ∷ slots_at i ks ok
  slots_at i (shared R L ∷ ks) ok = shr_slice_of (i ∷ []) ok.0 (plain (λ _. R)) ∷ slots_at (suc i) ks ok.1
  slots_at i (lent R ∷ ks) ok = mut_slice_of (i ∷ []) ok.0 (plain (λ _. R)) ∷ slots_at (suc i) ks ok.1

  abbrev stays_at : (i : ℕ) (ks : List Kind) (ok : Counted n i ks) → Stays (slots_at i ks ok) (all yes (slots_at i ks ok))
  stays_at i [] ok = tt
  stays_at i (by_value P ∷ ks) ok = (stay_none (λ _. P.row) yes, stays_at i ks ok)
  stays_at i (shared R L ∷ ks) ok = (stay_none_slice (i ∷ []) ok.0 (plain (λ _. R)) yes, stays_at (suc i) ks ok.1)
  stays_at i (lent R ∷ ks) ok = (stay_slice (i ∷ []) ok.0 (plain (λ _. R)), stays_at (suc i) ks ok.1)

  abbrev spells_at : (i : ℕ) (ks : List Kind) (ok : Counted n i ks) (κs : Lfts n) → Spells (types_at (slots_at i ks ok) κs)
  spells_at i [] ok κs = tt
  spells_at i (by_value P ∷ ks) ok κs = ((λ x. P.val x ∷ []), spells_at i ks ok κs)
  spells_at i (shared R L ∷ ks) ok κs = (shr_slice_vals, spells_at (suc i) ks ok.1 κs)
  spells_at i (lent R ∷ ks) ok κs = (mut_slice_vals, spells_at (suc i) ks ok.1 κs)

  tells_at : (i : ℕ) (ks : List Kind) (ok : Counted n i ks) (κs : Lfts n) → Tellss (types_at (slots_at i ks ok) κs) (Ises (types_at (slots_at i ks ok) κs)) (spells_at i ks ok κs)
  tells_at i [] ok κs = tt
  tells_at i (by_value P ∷ ks) ok κs = (P.tells, tells_at i ks ok κs)
  tells_at i (shared R L ∷ ks) ok κs = (shr_slice_Tells (name_of (i ∷ [])) (meet_at n (i ∷ []) ok.0 κs) R, tells_at (suc i) ks ok.1 κs)
  tells_at i (lent R ∷ ks) ok κs = (mut_slice_Tells (name_of (i ∷ [])) (meet_at n (i ∷ []) ok.0 κs) R, tells_at (suc i) ks ok.1 κs)

silent : {D : Type 0} (e : Exit D) → e ≡ unchanged → (x : D) (f : Last e x) → left e x f ≡ ftrue
silent {D} e p x = subst (λ (d : Exit D). (f : Last d x) → left d x f ≡ ftrue) (sym p) (λ f. refl)

module _ {M : Type 1} {𝓤 : Ura M} (𝓛 : Logic 𝓤) (n : ℕ) where
  goes_at : (i : ℕ) (ks : List Kind) (ok : Counted n i ks) → AllGo 𝓛 n (slots_at n i ks ok) (all yes (slots_at n i ks ok)) (stays_at n i ks ok)
  goes_at i [] ok = tt
  goes_at i (by_value P ∷ ks) ok = (Goes-none 𝓛 n (λ _. P.row) yes (λ κs x f. silent (P.row.exit yes) P.still x f), goes_at i ks ok)
  goes_at i (shared R L ∷ ks) ok = (Goes-none_slice 𝓛 n (i ∷ []) ok.0 (plain (λ _. R)) yes, goes_at (suc i) ks ok.1)
  goes_at i (lent R ∷ ks) ok = (Goes-slice 𝓛 n i ok.0 (plain (λ _. R)), goes_at (suc i) ks ok.1)

module _ (ks : List Kind) where
  abbrev pub slots : List (Slot (refs ks))
  slots = slots_at (refs ks) 0 ks (counted ks)

  abbrev pub stays : Stays slots (all yes slots)
  stays = stays_at (refs ks) 0 ks (counted ks)

  abbrev pub spells : (κs : Lfts (refs ks)) → Spells (types_at slots κs)
  spells = spells_at (refs ks) 0 ks (counted ks)

  pub tells : (κs : Lfts (refs ks)) → Tellss (types_at slots κs) (Ises (types_at slots κs)) (spells κs)
  tells = tells_at (refs ks) 0 ks (counted ks)

pub goes : {M : Type 1} {𝓤 : Ura M} (𝓛 : Logic 𝓤) (ks : List Kind) → AllGo 𝓛 (refs ks) (slots ks) (all yes (slots ks)) (stays ks)
goes 𝓛 ks = goes_at 𝓛 (refs ks) 0 ks (counted ks)

-- ---- where they stand
-- the first local after the result and the parameters
abbrev pub locals : List Kind → ℕ
locals ks = suc (length ks)

-- the entries at which the references stand, in their order, bound by names at the head of a walk
abbrev pub Places : List Kind → Type 0
Places [] = Unit {0}
Places (by_value P ∷ ks) = Places ks
Places (shared R L ∷ ks) = ℕ × Places ks
Places (lent R ∷ ks) = ℕ × Places ks

abbrev places_from : (ks : List Kind) → ℕ → Places ks
places_from [] k = tt
places_from (by_value P ∷ ks) k = places_from ks k
places_from (shared R L ∷ ks) k = (k, places_from ks (suc k))
places_from (lent R ∷ ks) k = (k, places_from ks (suc k))

abbrev pub places : (ks : List Kind) → Places ks
places ks = places_from ks 0

abbrev upto : ℕ → ℕ → List ℕ
upto zero k = []
upto (suc n) k = k ∷ upto n (suc k)

abbrev pub entries : List Kind → List ℕ
entries ks = upto (refs ks) 0

-- ---- a name for each parameter
abbrev pub Names : List Kind → Type 0
Names [] = Unit {0}
Names (by_value P ∷ ks) = Value P × Names ks
Names (shared R L ∷ ks) = Slice R × Names ks
Names (lent R ∷ ks) = Slice R × Names ks

abbrev pub Each : (ks : List Kind) → (Names ks → Type 1) → Type 1
Each [] F = F tt
Each (by_value P ∷ ks) F = (x : Value P) → Each ks (λ e. F (x, e))
Each (shared R L ∷ ks) F = (s : Slice R) → Each ks (λ e. F (s, e))
Each (lent R ∷ ks) F = (s : Slice R) → Each ks (λ e. F (s, e))

pub each_at : (ks : List Kind) (F : Names ks → Type 1) → Each ks F → (e : Names ks) → F e
each_at [] F w e = w
each_at (by_value P ∷ ks) F w e = each_at ks (λ f. F (e.0, f)) (w e.0) e.1
each_at (shared R L ∷ ks) F w e = each_at ks (λ f. F (e.0, f)) (w e.0) e.1
each_at (lent R ∷ ks) F w e = each_at ks (λ f. F (e.0, f)) (w e.0) e.1

abbrev Args : List Kind → Type 0
Args [] = Unit {0}
Args (by_value P ∷ ks) = P.row.Denot × Args ks
Args (shared R L ∷ ks) = Bor (List R.Denot) × Args ks
Args (lent R ∷ ks) = MutBor (List R.Denot) × Args ks

-- what `walked` knows of them
abbrev Good : (ks : List Kind) → Args ks → Type 0
Good [] a = Unit {0}
Good (by_value P ∷ ks) a = Has P a.0 × Good ks a.1
Good (shared R L ∷ ks) a = Is (ShrSlice (named 0) [] R) a.0 (shr_slice_vals a.0) × Good ks a.1
Good (lent R ∷ ks) a = Is (MutSlice (named 0) [] R) a.0 (mut_slice_vals a.0) × Good ks a.1

abbrev pub names : (ks : List Kind) → Lfts (refs ks) → Shares (refs ks) → (a : Args ks) → Good ks a → Names ks
names [] κs qs a g = tt
names (by_value P ∷ ks) κs qs a g = (record { it = a.0; is = g.0 }, names ks κs qs a.1 g.1)
names (shared R L ∷ ks) κs qs a g = (record { lft = κs.0; share = qs.0; block = a.0.ref_ptr.0; off = a.0.ref_ptr.1; name = 0; was = a.0.now; room = g.0.0.1 }, names ks κs.1 qs.1 a.1 g.1)
names (lent R ∷ ks) κs qs a g = (record { lft = κs.0; share = qs.0; block = a.0.ref_ptr.0; off = a.0.ref_ptr.1; name = a.0.ghost_name; was = a.0.now; room = g.0.0.1 }, names ks κs.1 qs.1 a.1 g.1)
