-- What the rows of least weights hold once they are filled: each entry is what `least_to` finds from the row before it (`rows-filled`), since a row is
-- stored after the row that it is found from, and nothing is stored there later.
-- Assumes nothing.
use Prim.Native.Nat.{ℕ, zero, suc, ◌+◌, ◌*◌, ◌/◌, ◌%◌, ◌^◌, ◌≤◌, ◌<◌, min}
use native.Mathlib.Nat.{div-one, div-div-eq-div-mul}
use native.Mathlib.Decide.{ℕ_discrete}
use native.Mathlib.Omega.{arith}
use mathlib.Core.Path.{◌≡◌, refl, sym, ap, ap₂, ◌∙◌, subst}
use mathlib.Core.Logic.{◌≢◌, ◌⊎◌, inl, inr, ⊎_elim}
use mathlib.Core.Bool.{cond}
use mathlib.Core.List.{List}
use lib.Dec.{leb}
use lib.Pow.{pow-add}
use lib.ListN.{length, get_or, set, length-set}
use lib.Seq.{get_or-set_other, get_or-set_same}
use Rattle.code.specs.Model.Steps.{most_steps}
use Rattle.needed.specs.Model.Tables.{row_words, steps_place, length_place, half_place, need, half_at, through, least_to, packed, row_from, rows_from}
use Rattle.needed.proofs.Filling.{least_to_small, length-row_from}

-- ---- what `least_to` reads: the rows before t, the weights and the word at half_place

pub record Agree (t : ℕ) (a b : List ℕ) : Type 0 where
  pub rows : (k : ℕ) → k < t * row_words → get_or a k 0 ≡ get_or b k 0
  pub upper : (k : ℕ) → steps_place ≤ k → k ≢ length_place → get_or a k 0 ≡ get_or b k 0

pub agree_trans : (t : ℕ) (a b c : List ℕ) → Agree t a b → Agree t b c → Agree t a c
agree_trans t a b c p q = record { rows = λ k h. p.rows k h ∙ q.rows k h; upper = λ k h n. p.upper k h n ∙ q.upper k h n }

pub agree_fewer : (t u : ℕ) (a b : List ℕ) → t ≤ u → Agree u a b → Agree t a b
agree_fewer t u a b h p = record { rows = λ k g. p.rows k (omega arith); upper = p.upper }

pub need-cong : (a b : List ℕ) (t s : ℕ) → get_or a (t * row_words + s / 8) 0 ≡ get_or b (t * row_words + s / 8) 0 → need a t s ≡ need b t s
unfolding need
need-cong a b t s e = ap (λ (x : ℕ). x / 2 ^ (s % 8 * 8) % 256) e

module _ (i : ℕ) (a b : List ℕ) (small : half_at a ≤ 128) where
  through_cong : (t p x : ℕ) → Agree (suc t) a b → p < 256 → x < 2 → through a t p x ≡ through b t p x
  unfolding through
  through_cong t p x same hp hx =
      ap₂ (λ (y z : ℕ). y + z) (need-cong a b t p (same.rows (t * row_words + p / 8) (omega arith))) (same.upper (steps_place + 2 * p + x) (omega arith) (λ e. absurd (omega arith)))

  pub least_to_cong : (t s : ℕ) → Agree t a b → s < 256 → least_to a i t s ≡ least_to b i t s
  unfolding least_to
  least_to_cong zero s same h = refl
  least_to_cong (suc t) s same h =
      ap₂ (λ (x y : ℕ). cond (leb s i) 64 (min 64 (min x y))) (through_cong t (s / 2) (s % 2) same (omega arith) (omega arith))
      (through_cong t (s / 2 + half_at a) (s % 2) same (omega arith) (omega arith)
      ∙ ap (λ (x : ℕ). through b t (s / 2 + x) (s % 2)) (same.upper half_place (omega arith) (λ e. absurd (omega arith))))

  pub packed_cong : (t n s : ℕ) → Agree t a b → s + n ≤ 256 → packed a i t n s ≡ packed b i t n s
  unfolding packed
  packed_cong t zero s same h = refl
  packed_cong t (suc n) s same h =
      ap₂ (λ (x y : ℕ). x + 256 * y) (least_to_cong t s same (omega arith)) (packed_cong t n (s + 1) same (omega arith))

-- ---- a byte of eight

pub packed_byte : (work : List ℕ) (i t n s k : ℕ) → k < n → packed work i t n s / 2 ^ (k * 8) % 256 ≡ least_to work i t (s + k)
unfolding packed
packed_byte work i t zero s k h = absurd (omega arith)
packed_byte work i t (suc n) s zero h =
    let small = least_to_small work i t s in
    ap (λ (x : ℕ). x % 256) (div-one (least_to work i t s + 256 * packed work i t n (s + 1))) ∙ lowest (least_to work i t s) (packed work i t n (s + 1)) small
    ∙ ap (least_to work i t) (none s)
  where
    lowest : (x y : ℕ) → x ≤ 64 → (x + 256 * y) % 256 ≡ x
    lowest x y g = omega arith

    none : (x : ℕ) → x ≡ x + 0
    none x = omega arith
packed_byte work i t (suc n) s (suc k) h =
    let small = least_to_small work i t s in
    ap (λ (x : ℕ). (least_to work i t s + 256 * packed work i t n (s + 1)) / x % 256) (power k)
    ∙ ap (λ (x : ℕ). x % 256) (sym (div-div-eq-div-mul (least_to work i t s + 256 * packed work i t n (s + 1)) 256 (2 ^ (k * 8))))
    ∙ ap (λ (x : ℕ). x / 2 ^ (k * 8) % 256) (higher (least_to work i t s) (packed work i t n (s + 1)) small)
    ∙ packed_byte work i t n (s + 1) k (omega arith)
    ∙ ap (least_to work i t) (later s k)
  where
    power : (x : ℕ) → 2 ^ (suc x * 8) ≡ 256 * 2 ^ (x * 8)
    power x = ap (λ (y : ℕ). 2 ^ y) (eight_more x) ∙ pow-add 2 8 (x * 8)
      where
        eight_more : (y : ℕ) → suc y * 8 ≡ 8 + y * 8
        eight_more y = omega arith

    higher : (x y : ℕ) → x ≤ 64 → (x + 256 * y) / 256 ≡ y
    higher x y g = omega arith

    later : (x y : ℕ) → x + 1 + y ≡ x + suc y
    later x y = omega arith

-- ---- one row

pub row_elsewhere : (i t n q : ℕ) (work : List ℕ) (k : ℕ) → (k < t * row_words + q) ⊎ (t * row_words + q + n ≤ k) → get_or (row_from i t n q work) k 0 ≡ get_or work k 0
unfolding row_from
row_elsewhere i t zero q work k h = refl
row_elsewhere i t (suc n) q work k h =
    row_elsewhere i t n (q + 1) (set work (t * row_words + q) (packed work i t 8 (q * 8))) k (⊎_elim (λ l. inl (omega arith)) (λ l. inr (omega arith)) h)
    ∙ get_or-set_other work (t * row_words + q) k (packed work i t 8 (q * 8)) 0 (λ e. ⊎_elim (λ (l : k < t * row_words + q). absurd (omega arith)) (λ (l : t * row_words + q + suc n ≤ k). absurd (omega arith)) h)

-- the rows before and the upper part are as they were
pub row_agrees : (i t n q : ℕ) (work : List ℕ) → t < most_steps → q + n ≤ 32 → Agree t (row_from i t n q work) work
row_agrees i t n q work ht hq =
    record { rows = λ k h. row_elsewhere i t n q work k (inl (omega arith)); upper = λ k h _. row_elsewhere i t n q work k (inr (omega arith)) }

pub row_word : (i t n q : ℕ) (work : List ℕ) (j : ℕ) → t < most_steps → q + n ≤ 32 → steps_place ≤ length work → half_at work ≤ 128 → q ≤ j → j < q + n
    → get_or (row_from i t n q work) (t * row_words + j) 0 ≡ packed work i t 8 (j * 8)
unfolding row_from
row_word i t zero q work j ht hq room small h g = absurd (omega arith)
row_word i t (suc n) q work j ht hq room small h g =
    let word : ℕ = packed work i t 8 (q * 8) in
    let stored : List ℕ = set work (t * row_words + q) word in
    let size : length stored ≡ length work = length-set work (t * row_words + q) word in
    let half-same : half_at stored ≡ half_at work = get_or-set_other work (t * row_words + q) half_place word 0 (λ e. absurd (omega arith)) in
    let half_small : half_at stored ≤ 128 = omega arith in
    let same : Agree t stored work =
    record { rows = λ k l. get_or-set_other work (t * row_words + q) k word 0 (λ e. absurd (omega arith)); upper = λ k l _. get_or-set_other work (t * row_words + q) k word 0 (λ e. absurd (omega arith)) } in
    elim (ℕ_discrete j q) [
      | yes e ↦
          row_elsewhere i t n (q + 1) stored (t * row_words + j) (inl (omega arith))
          ∙ ap (λ (x : ℕ). get_or stored (t * row_words + x) 0) e ∙ get_or-set_same work (t * row_words + q) word 0 (omega arith)
          ∙ ap (λ (x : ℕ). packed work i t 8 (x * 8)) (sym e)
      | no ne ↦
          row_word i t n (q + 1) stored j ht (omega arith) (omega arith) half_small (omega arith) (omega arith)
          ∙ packed_cong i stored work half_small t 8 (j * 8) same (omega arith)
    ]

pub row-need : (i t words : ℕ) (work : List ℕ) (s : ℕ) → t < most_steps → words ≤ 32 → steps_place ≤ length work → half_at work ≤ 128 → s < 8 * words
    → need (row_from i t words 0 work) t s ≡ least_to work i t s
unfolding need
row-need i t words work s ht hw room small h =
    ap (λ (x : ℕ). x / 2 ^ (s % 8 * 8) % 256) (row_word i t words 0 work (s / 8) ht (omega arith) room small (omega arith) (omega arith))
    ∙ packed_byte work i t 8 (s / 8 * 8) (s % 8) (omega arith) ∙ ap (least_to work i t) (whole s)
  where
    whole : (x : ℕ) → x / 8 * 8 + x % 8 ≡ x
    whole x = omega arith

-- ---- all rows

pub rows_elsewhere : (i words n t : ℕ) (work : List ℕ) (k : ℕ) → words ≤ 32 → (k < t * row_words) ⊎ ((t + n) * row_words ≤ k) → get_or (rows_from i words n t work) k 0 ≡ get_or work k 0
unfolding rows_from
rows_elsewhere i words zero t work k hw h = refl
rows_elsewhere i words (suc n) t work k hw h =
    rows_elsewhere i words n (t + 1) (row_from i t words 0 work) k hw (⊎_elim (λ l. inl (omega arith)) (λ l. inr (omega arith)) h)
    ∙ row_elsewhere i t words 0 work k (⊎_elim (λ l. inl (omega arith)) (λ l. inr (omega arith)) h)

pub rows_agree : (i words n t : ℕ) (work : List ℕ) → words ≤ 32 → t + n ≤ most_steps → Agree t (rows_from i words n t work) work
rows_agree i words n t work hw hn =
    record { rows = λ k h. rows_elsewhere i words n t work k hw (inl h); upper = λ k h _. rows_elsewhere i words n t work k hw (inr (omega arith)) }

-- every entry of the rows is found from the row before
abbrev pub Filled : ℕ → ℕ → ℕ → List ℕ → Type 0
Filled i words rows work = (r s : ℕ) → r < rows → s < 8 * words → need work r s ≡ least_to work i r s

pub rows-filled : (i words n t : ℕ) (work : List ℕ) → words ≤ 32 → t + n ≤ most_steps → steps_place ≤ length work → half_at work ≤ 128
    → (r s : ℕ) → t ≤ r → r < t + n → s < 8 * words → need (rows_from i words n t work) r s ≡ least_to (rows_from i words n t work) i r s
unfolding rows_from
rows-filled i words zero t work hw hn room small r s h g hs = absurd (omega arith)
rows-filled i words (suc n) t work hw hn room small r s h g hs =
    let first : List ℕ = row_from i t words 0 work in
    let final : List ℕ = rows_from i words n (t + 1) first in
    let size : length first ≡ length work = length-row_from i t words 0 work in
    let ht : t < most_steps = omega arith in
    let half-same : half_at first ≡ half_at work = row_elsewhere i t words 0 work half_place (inr (omega arith)) in
    let later : Agree (t + 1) final first = rows_agree i words n (t + 1) first hw (omega arith) in
    let half-final : half_at final ≡ half_at first = later.upper half_place (omega arith) (λ e. absurd (omega arith)) in
    elim (ℕ_discrete r t) [
      | yes e ↦
          let same : Agree t final work = agree_trans t final first work (agree_fewer t (t + 1) final first (omega arith) later) (row_agrees i t words 0 work ht (omega arith)) in
          subst (λ (x : ℕ). need final x s ≡ least_to final i x s) (sym e)
          (need-cong final first t s (later.rows (t * row_words + s / 8) (omega arith)) ∙ row-need i t words work s ht hw room small hs
          ∙ sym (least_to_cong i final work (omega arith) t s same (omega arith)))
      | no ne ↦ rows-filled i words n (t + 1) first hw (omega arith) (omega arith) (omega arith) r s (omega arith) (omega arith) hs
    ]
