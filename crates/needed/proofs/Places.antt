-- The regions of the work area lie apart, in their order (`regions_apart`, a computed test over the list): a store in one leaves the others (`store_leaves`).
-- Assumes nothing.
use Prim.Native.Nat.{ℕ, zero, suc, ◌+◌, ◌≤◌, ◌<◌}
use native.Mathlib.Decide.{dec_lt}
use native.Mathlib.Omega.{arith}
use mathlib.Core.Path.{◌≡◌, sym}
use mathlib.Core.Logic.{◌≢◌}
use mathlib.Core.Bool.{Bool, ◌&&◌}
use mathlib.Core.List.{List, [], ◌∷◌}
use lib.Dec.{T, leb, leb→le}
use lib.ListN.{length, get_or, set}
use lib.Seq.{get_or-set_other}
use Rattle.lists.proofs.Tests.{T_and}
use Rattle.order.specs.Questions.{work_size}
use Rattle.needed.specs.Model.Tables.{regions, tables_end}

-- each begins at n or later, and after the one before; the last ends at m or before
abbrev apart : ℕ → ℕ → List (ℕ × ℕ) → Bool
apart n m [] = leb n m
apart n m (r ∷ rs) = leb n r.0 && apart (r.0 + r.1) m rs

regions_apart : T (apart 0 tables_end regions)
regions_apart = tt

-- the work area has room for them
pub tables_inside : {n : ℕ} → work_size ≤ n → tables_end ≤ n
unfolding work_size
tables_inside h = omega arith

-- k is a place of the region
pub record In (r : ℕ × ℕ) (k : ℕ) : Type 0 where
  pub from : r.0 ≤ k
  pub before : k < r.0 + r.1

-- by their numbers
abbrev pub rows_region : ℕ
rows_region = 0

abbrev pub steps_region : ℕ
steps_region = 1

abbrev pub length_region : ℕ
length_region = 2

abbrev pub threshold_region : ℕ
threshold_region = 3

abbrev pub half_region : ℕ
half_region = 4

abbrev pub region : ℕ → ℕ × ℕ
region i = get_or regions i (0, 0)

-- a place of the i-th region is n at least, and before each of a later one
reaches : (n m : ℕ) (rs : List (ℕ × ℕ)) → T (apart n m rs) → (i k : ℕ) → i < length rs → In (get_or rs i (0, 0)) k → n ≤ k
reaches n m [] t i k h p = absurd (omega arith)
reaches n m (r ∷ rs) t zero k h p =
    let (b, _) = (T_and (leb n r.0) (apart (r.0 + r.1) m rs)).0 t in
    let begins = leb→le n r.0 b in
    let from = p.from in
    omega arith
reaches n m (r ∷ rs) t (suc i) k h p =
    let (b, rest) = (T_and (leb n r.0) (apart (r.0 + r.1) m rs)).0 t in
    let begins = leb→le n r.0 b in
    let later = reaches (r.0 + r.1) m rs rest i k (omega arith) p in
    omega arith

ordered : (n m : ℕ) (rs : List (ℕ × ℕ)) → T (apart n m rs) → (i j a b : ℕ) → i < j → j < length rs → In (get_or rs i (0, 0)) a → In (get_or rs j (0, 0)) b → a < b
ordered n m [] t i j a b h g p q = absurd (omega arith)
ordered n m (r ∷ rs) t i zero a b h g p q = absurd (omega arith)
ordered n m (r ∷ rs) t zero (suc j) a b h g p q =
    let later = reaches (r.0 + r.1) m rs ((T_and (leb n r.0) (apart (r.0 + r.1) m rs)).0 t).1 j b (omega arith) q in
    let before = p.before in
    omega arith
ordered n m (r ∷ rs) t (suc i) (suc j) a b h g p q =
    ordered (r.0 + r.1) m rs ((T_and (leb n r.0) (apart (r.0 + r.1) m rs)).0 t).1 i j a b (omega arith) (omega arith) p q

pub places_apart : (i j a b : ℕ) → i ≢ j → i < length regions → j < length regions → In (region i) a → In (region j) b → a ≢ b
places_apart i j a b n h g p q e = elim (dec_lt i j) [
  | yes l ↦ let less = ordered 0 tables_end regions regions_apart i j a b l g p q in absurd (omega arith)
  | no l ↦ let less = ordered 0 tables_end regions regions_apart j i b a (other i j n l) h q p in absurd (omega arith)
]
  where
    other : (x y : ℕ) → (x ≡ y → ⊥) → (x < y → ⊥) → y < x
    other x y ne nl = omega arith

pub store_leaves : (i j a b : ℕ) → i ≢ j → i < length regions → j < length regions → In (region i) a → In (region j) b → (work : List ℕ) (x : ℕ) → get_or (set work a x) b 0 ≡ get_or work b 0
store_leaves i j a b n h g p q work x = get_or-set_other work a b x 0 (λ e. places_apart i j a b n h g p q (sym e))
