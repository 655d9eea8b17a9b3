-- The laws that the loops which fill the work area need: what each definition of `specs/Model/Tables.antt` comes to at the end and with one turn more, and
-- that stores outside the weights and constants leave sums small.
-- Assumes nothing.
use Prim.Native.Nat.{ℕ, zero, suc, ◌+◌, ◌-◌, ◌*◌, ◌/◌, ◌%◌, ◌^◌, ◌≤◌, ◌<◌, min}
use native.Mathlib.Nat.{pow-suc, pow-le-pow_right}
use native.Mathlib.Decide.{ℕ_discrete}
use native.Mathlib.Omega.{arith}
use mathlib.Core.Path.{◌≡◌, refl, sym, ap, ap₂, ◌∙◌, subst}
use mathlib.Core.Bool.{Bool, true, false, not, cond}
use mathlib.Core.Logic.{◌≢◌}
use mathlib.Core.List.{List}
use lib.Dec.{T, leb, eqb, lit<, leb→le, le→leb, not_T}
use lib.ListN.{length, get_or, set, length-set}
use Rattle.lists.proofs.Choices.{cond_true, cond_false, eqb_passes, eqb_fails}
use Rattle.poly.proofs.Shifts.{shl_one}
use Rattle.code.specs.Trellis.{step_weight}
use Rattle.code.specs.Model.Steps.{most_steps}
use Rattle.needed.specs.Model.Tables.{row_words, step_count, steps_place, length_place, threshold_place, half_place, need, step_at, half_at, through, least_to, packed, row_from, rows_from, weights_from, prepared, turned, Tables, Step}
use Rattle.needed.proofs.Places.{In, region, rows_region, steps_region, half_region, store_leaves}

-- ---- a loop that fills the work area

-- what is left to store gives the whole, and the sums are still small
pub record Underway (now left whole : List ℕ) : Type 0 where
  pub tables : Tables now
  pub gives : left ≡ whole

-- ---- the least weight of one entry

leb_fails : (m n : ℕ) → n < m → T (not (leb m n))
leb_fails m n h = not_T (leb m n) (λ t. let k = leb→le m n t in absurd (omega arith))

pub least_at_start : (work : List ℕ) (i t s : ℕ) → t ≡ 0 → s ≡ i → 0 ≡ least_to work i t s
unfolding least_to
least_at_start work i t s e q = subst (λ (x : ℕ). 0 ≡ least_to work i x s) (sym e) (sym (cond_true (eqb s i) 0 64 (eqb_passes s i q)))

pub least_off_start : (work : List ℕ) (i t s : ℕ) → t ≡ 0 → (s ≡ i → ⊥) → 64 ≡ least_to work i t s
unfolding least_to
least_off_start work i t s e q = subst (λ (x : ℕ). 64 ≡ least_to work i x s) (sym e) (sym (cond_false (eqb s i) 0 64 (eqb_fails s i q)))

later : (t : ℕ) → (t ≡ 0 → ⊥) → t ≡ suc (t - 1)
later t h = elim (ℕ_discrete t 0) [ yes e ↦ absurd (h e) | no n ↦ omega arith ]

pub least_below : (work : List ℕ) (i t s : ℕ) → (t ≡ 0 → ⊥) → s ≤ i → 64 ≡ least_to work i t s
unfolding least_to
least_below work i t s n h =
    subst (λ (x : ℕ). 64 ≡ least_to work i x s) (sym (later t n)) (sym (cond_true (leb s i) 64 _ (le→leb s i h)))

pub least_above : (work : List ℕ) (i t s : ℕ) → (t ≡ 0 → ⊥) → i < s
    → min 64 (min (through work (t - 1) (s / 2) (s % 2)) (through work (t - 1) (s / 2 + half_at work) (s % 2))) ≡ least_to work i t s
unfolding least_to
least_above work i t s n h =
    subst (λ (x : ℕ). min 64 (min (through work (t - 1) (s / 2) (s % 2)) (through work (t - 1) (s / 2 + half_at work) (s % 2))) ≡ least_to work i x s)
    (sym (later t n)) (sym (cond_false (leb s i) 64 _ (leb_fails s i h)))

cond_le : (b : Bool) (x y m : ℕ) → x ≤ m → y ≤ m → cond b x y ≤ m
cond_le true x y m h k = h
cond_le false x y m h k = k

pub least_to_small : (work : List ℕ) (i t s : ℕ) → least_to work i t s ≤ 64
unfolding least_to
least_to_small work i zero s = cond_le (eqb s i) 0 64 64 (omega arith) (omega arith)
least_to_small work i (suc t) s = cond_le (leb s i) 64 _ 64 (omega arith) (omega arith)

-- ---- eight of them in a number

pub packed_lt : (work : List ℕ) (i t n s : ℕ) → packed work i t n s < 256 ^ n
unfolding packed
packed_lt work i t zero s = omega arith
packed_lt work i t (suc n) s =
    let rest = packed_lt work i t n (s + 1) in
    let first = least_to_small work i t s in
    subst (λ (x : ℕ). least_to work i t s + 256 * packed work i t n (s + 1) < x) (sym (pow-suc 256 n))
    (sum (least_to work i t s) (packed work i t n (s + 1)) (256 ^ n) first rest)
  where
    sum : (x y z : ℕ) → x ≤ 64 → y < z → x + 256 * y < z * 256
    sum x y z h k = omega arith

pub pack_fits : (work : List ℕ) (i t k s word : ℕ) → 0 < k → k ≤ 8 → word ≡ packed work i t (8 - k) s → word * 256 + 255 < 2 ^ 64
pack_fits work i t k s word pos h e =
    let small : packed work i t (8 - k) s < 256 ^ (8 - k) = packed_lt work i t (8 - k) s in
    let few : 8 - k ≤ 7 = omega arith in
    let most : 256 ^ (8 - k) ≤ 256 ^ 7 = pow-le-pow_right (lit< tt) few in
    omega arith

pub pack_start : (work : List ℕ) (i t s : ℕ) → 0 ≡ packed work i t (8 - 8) s
unfolding packed
pack_start work i t s = refl

pub pack_turn : (work : List ℕ) (i t q k word r : ℕ) → 0 < k → k ≤ 8 → word ≡ packed work i t (8 - k) (q * 8 + k) → r ≡ least_to work i t (q * 8 + (k - 1))
    → word * 256 + r ≡ packed work i t (8 - (k - 1)) (q * 8 + (k - 1))
unfolding packed
pack_turn work i t q k word r pos h e is =
    let more : 8 - (k - 1) ≡ suc (8 - k) = omega arith in
    let place : q * 8 + k ≡ q * 8 + (k - 1) + 1 = omega arith in
    let word' : word ≡ packed work i t (8 - k) (q * 8 + (k - 1) + 1) = e ∙ ap (packed work i t (8 - k)) place in
    let sum : word * 256 + r ≡ least_to work i t (q * 8 + (k - 1)) + 256 * packed work i t (8 - k) (q * 8 + (k - 1) + 1) = joined word r _ _ word' is in
    sum ∙ ap (λ (n : ℕ). packed work i t n (q * 8 + (k - 1))) (sym more)
  where
    joined : (x y u w : ℕ) → x ≡ w → y ≡ u → x * 256 + y ≡ u + 256 * w
    joined x y u w p p' = omega arith

-- ---- a loop that does n turns, one at a time: what is left to do, done from here, gives the whole

pub row_turn : (i t words q : ℕ) (work : List ℕ) → q < words
    → row_from i t (words - (q + 1)) (q + 1) (set work (t * row_words + q) (packed work i t 8 (q * 8))) ≡ row_from i t (words - q) q work
unfolding row_from
row_turn i t words q work h = ap (λ (n : ℕ). row_from i t n q work) more
  where
    more : suc (words - (q + 1)) ≡ words - q
    more = omega arith

pub row_end : (i t words q : ℕ) (work : List ℕ) → words ≤ q → work ≡ row_from i t (words - q) q work
unfolding row_from
row_end i t words q work h = ap (λ (n : ℕ). row_from i t n q work) none
  where
    none : 0 ≡ words - q
    none = omega arith

pub rows_turn : (i words rows t : ℕ) (work : List ℕ) → t < rows
    → rows_from i words (rows - (t + 1)) (t + 1) (row_from i t words 0 work) ≡ rows_from i words (rows - t) t work
unfolding rows_from
rows_turn i words rows t work h = ap (λ (n : ℕ). rows_from i words n t work) more
  where
    more : suc (rows - (t + 1)) ≡ rows - t
    more = omega arith

pub rows_end : (i words rows t : ℕ) (work : List ℕ) → rows ≤ t → work ≡ rows_from i words (rows - t) t work
unfolding rows_from
rows_end i words rows t work h = ap (λ (n : ℕ). rows_from i words n t work) none
  where
    none : 0 ≡ rows - t
    none = omega arith

pub weights_turn : (gs : List ℕ) (x : ℕ) (work : List ℕ) → x < step_count
    → weights_from gs (step_count - (x + 1)) (x + 1) (set work (steps_place + x) (step_weight gs (x / 2) (x % 2))) ≡ weights_from gs (step_count - x) x work
unfolding weights_from
weights_turn gs x work h = ap (λ (n : ℕ). weights_from gs n x work) more
  where
    more : suc (step_count - (x + 1)) ≡ step_count - x
    more = omega arith

pub weights_end : (gs : List ℕ) (x : ℕ) (work : List ℕ) → step_count ≤ x → work ≡ weights_from gs (step_count - x) x work
unfolding weights_from
weights_end gs x work h = ap (λ (n : ℕ). weights_from gs n x work) none
  where
    none : 0 ≡ step_count - x
    none = omega arith

-- ---- lengths, and stores that leave the sums small

pub length-row_from : (i t n q : ℕ) (work : List ℕ) → length (row_from i t n q work) ≡ length work
unfolding row_from
length-row_from i t zero q work = refl
length-row_from i t (suc n) q work = length-row_from i t n (q + 1) (set work (t * row_words + q) (packed work i t 8 (q * 8))) ∙ length-set work (t * row_words + q) (packed work i t 8 (q * 8))

pub length-rows_from : (i words n t : ℕ) (work : List ℕ) → length (rows_from i words n t work) ≡ length work
unfolding rows_from
length-rows_from i words zero t work = refl
length-rows_from i words (suc n) t work = length-rows_from i words n (t + 1) (row_from i t words 0 work) ∙ length-row_from i t words 0 work

pub length-weights_from : (gs : List ℕ) (n x : ℕ) (work : List ℕ) → length (weights_from gs n x work) ≡ length work
unfolding weights_from
length-weights_from gs zero x work = refl
length-weights_from gs (suc n) x work =
    length-weights_from gs n (x + 1) (set work (steps_place + x) (step_weight gs (x / 2) (x % 2))) ∙ length-set work (steps_place + x) (step_weight gs (x / 2) (x % 2))

-- a store to the rows or to the length
pub tables_set : (work : List ℕ) → Tables work → (i j x : ℕ) → i < 3 → i ≢ steps_region → In (region i) j → Tables (set work j x)
tables_set work ok i j x h n at =
    let size = length-set work j x in
    let enough = ok.enough in
    let half = store_leaves i half_region j half_place (λ e. absurd (omega arith)) (omega arith) (lit< tt) at record { from = omega arith; before = omega arith } work x in
    let half_small = ok.half_small in
    record {
      enough = omega arith;
      half_small = omega arith;
      steps_small = λ y g.
          let same = store_leaves i steps_region j (steps_place + y) n (omega arith) (lit< tt) at record { from = omega arith; before = omega arith } work x in
          let small = ok.steps_small y g in
          omega arith;
    }

pub tables_row_from : (i t n q : ℕ) (work : List ℕ) → t < most_steps → q + n ≤ row_words → Tables work → Tables (row_from i t n q work)
unfolding row_from
tables_row_from i t zero q work h g ok = ok
tables_row_from i t (suc n) q work h g ok =
    tables_row_from i t n (q + 1) (set work (t * row_words + q) (packed work i t 8 (q * 8))) h (omega arith) (tables_set work ok rows_region (t * row_words + q) (packed work i t 8 (q * 8)) (lit< tt) (λ e. absurd (omega arith)) record { from = omega arith; before = omega arith })

-- ---- entries are small

pub step_small : (work : List ℕ) {p b : ℕ} → Step work p b → step_at work p b ≤ 4
step_small work {p} {b} ok =
    let hp = ok.state in
    let hb = ok.input in
    subst (λ (k : ℕ). get_or work k 0 ≤ 4) place (ok.tables.steps_small (2 * p + b) (omega arith))
  where
    place : steps_place + (2 * p + b) ≡ steps_place + 2 * p + b
    place = omega arith

pub need-small : (work : List ℕ) (t s : ℕ) → need work t s < 256
unfolding need
need-small work t s = omega arith

-- ---- what the proofs of the functions cite

pub least_found : (work : List ℕ) (i t s a b m r : ℕ) → (t ≡ 0 → ⊥) → i < s → a ≡ through work (t - 1) (s / 2) (s % 2)
    → b ≡ through work (t - 1) (s / 2 + half_at work) (s % 2) → m ≡ min a b → r ≡ min 64 m → r ≡ least_to work i t s
least_found work i t s a b m r n h ea eb em er = er ∙ ap (min 64) (em ∙ ap₂ min ea eb) ∙ least_above work i t s n h

pub row_again : (i t words q : ℕ) (work work₀ : List ℕ) (word : ℕ) → q < words → word ≡ packed work i t 8 (q * 8)
    → row_from i t (words - q) q work ≡ row_from i t words 0 work₀
    → row_from i t (words - (q + 1)) (q + 1) (set work (t * row_words + q) word) ≡ row_from i t words 0 work₀
row_again i t words q work work₀ word h e inv =
    ap (λ (x : ℕ). row_from i t (words - (q + 1)) (q + 1) (set work (t * row_words + q) x)) e ∙ row_turn i t words q work h ∙ inv

pub rows_again : (i words rows t : ℕ) (work work₀ next : List ℕ) → t < rows → next ≡ row_from i t words 0 work
    → rows_from i words (rows - t) t work ≡ rows_from i words rows 0 work₀ → rows_from i words (rows - (t + 1)) (t + 1) next ≡ rows_from i words rows 0 work₀
rows_again i words rows t work work₀ next h e inv = ap (rows_from i words (rows - (t + 1)) (t + 1)) e ∙ rows_turn i words rows t work h ∙ inv

pub weights_again : (gs : List ℕ) (x : ℕ) (work work₀ : List ℕ) (w : ℕ) → x < step_count → w ≡ step_weight gs (x / 2) (x % 2)
    → weights_from gs (step_count - x) x work ≡ weights_from gs step_count 0 work₀ → weights_from gs (step_count - (x + 1)) (x + 1) (set work (steps_place + x) w) ≡ weights_from gs step_count 0 work₀
weights_again gs x work work₀ w h e inv =
    ap (λ (y : ℕ). weights_from gs (step_count - (x + 1)) (x + 1) (set work (steps_place + x) y)) e ∙ weights_turn gs x work h ∙ inv

pub turned-first : (words steps k : ℕ) (work : List ℕ) → k % steps ≡ 0 → rows_from (k / steps) words steps 0 (set work length_place (k % steps + 1)) ≡ turned words steps k work
unfolding turned
turned-first words steps k work e = sym (cond_true (eqb (k % steps) 0) (rows_from (k / steps) words steps 0 (set work length_place (k % steps + 1))) (set work length_place (k % steps + 1)) (eqb_passes (k % steps) 0 e))

pub turned_later : (words steps k : ℕ) (work : List ℕ) → (k % steps ≡ 0 → ⊥) → set work length_place (k % steps + 1) ≡ turned words steps k work
unfolding turned
turned_later words steps k work n = sym (cond_false (eqb (k % steps) 0) (rows_from (k / steps) words steps 0 (set work length_place (k % steps + 1))) (set work length_place (k % steps + 1)) (eqb_fails (k % steps) 0 n))

pub prepared_is : (gs : List ℕ) (v d : ℕ) (work last : List ℕ) → 1 ≤ v → v ≤ 8
    → last ≡ weights_from gs step_count 0 (set (set work threshold_place d) half_place (1 * 2 ^ (v - 1) % 2 ^ 64)) → last ≡ prepared gs v d work
unfolding prepared
prepared_is gs v d work last h g e = e ∙ ap (λ (x : ℕ). weights_from gs step_count 0 (set (set work threshold_place d) half_place x)) (shl_one (v - 1) (omega arith))
