-- Laws of walks: a walk over a word's bits goes through the word's states; where a walk of v or more steps ends does not depend on where it began;
-- so the words of N bits are the closed walks of N steps.
-- Assumes nothing.
use mathlib.Core.Path.{◌≡◌, refl, sym, ap, ap₂, ◌∙◌}
use mathlib.Core.Logic.{◌↔◌}
use mathlib.Core.List.{List}
use Prim.Native.Nat.{ℕ, zero, suc, ◌+◌, ◌-◌, ◌*◌, ◌/◌, ◌%◌, ◌^◌, ◌≤◌, ◌<◌}
use native.Mathlib.Nat.{add-zero, zero-add, add-suc, add_assoc, add_left_comm, mod-eq_of_lt, le_refl, lt_of_lt_of_le, le_step, mod-add-mod, mul-one, mul_assoc, mul_left_comm, mul-add-mod_self_right, sub-add_cancel, pow-succ'}
use native.Mathlib.Omega.{arith}
use lib.Pow.{pow-add}
use Rattle.lists.specs.Lists.{sum}
use Rattle.lists.proofs.Sums.{sum_last}
use Rattle.poly.specs.Poly.{bit}
use Rattle.poly.proofs.Bits.{bit-first, bit_later}
use Rattle.code.specs.Trellis.{place, state_at, next, step_weight, walk, walk_weight}
use Rattle.code.proofs.States.{state_at_lt, state_at-next, state_at_period, place-bit, next_lt}

-- ---- the last step of a walk

pub walk_last : (v l s c : ℕ) → walk v (suc l) s c ≡ next v (walk v l s c) (bit l c)
unfolding walk
walk_last v zero s c = ap (next v s) (sym (bit-first c))
walk_last v (suc l) s c = walk_last v l (next v s (c % 2)) (c / 2) ∙ ap (next v (walk v l (next v s (c % 2)) (c / 2))) (sym (bit_later l c))

pub walk_weight_last : (gs : List ℕ) (v l s c : ℕ) → walk_weight gs v (suc l) s c ≡ walk_weight gs v l s c + step_weight gs (walk v l s c) (bit l c)
unfolding walk walk_weight
walk_weight_last gs v zero s c = add-zero (step_weight gs s (c % 2)) ∙ ap (step_weight gs s) (sym (bit-first c)) ∙ sym (zero-add (step_weight gs s (bit 0 c)))
walk_weight_last gs v (suc l) s c =
    ap (λ (x : ℕ). step_weight gs s (c % 2) + x)
    (walk_weight_last gs v l (next v s (c % 2)) (c / 2)
    ∙ ap (λ (x : ℕ). walk_weight gs v l (next v s (c % 2)) (c / 2) + step_weight gs (walk v l (next v s (c % 2)) (c / 2)) x) (sym (bit_later l c)))
    ∙ sym (add_assoc (step_weight gs s (c % 2)) (walk_weight gs v l (next v s (c % 2)) (c / 2)) (step_weight gs (walk v l (next v s (c % 2)) (c / 2)) (bit (suc l) c)))

-- a walk stays among the states
pub walk_lt : (v l s c : ℕ) → s < 2 ^ v → walk v l s c < 2 ^ v
unfolding walk
walk_lt v zero s c h = h
walk_lt v (suc l) s c h = walk_lt v l (next v s (c % 2)) (c / 2) (next_lt v s (c % 2))

-- ---- a walk whose inputs are a word's bits from place r on

module _ (v N u r c : ℕ) where
  -- the first t inputs are the word's bits from place r on
  abbrev pub Follows : ℕ → Type 0
  Follows t = (j : ℕ) → j < t → bit j c ≡ place N u (r + j)

  pub walk_follows : (t : ℕ) → Follows t → walk v t (state_at v N u r) c ≡ state_at v N u (r + t)
  unfolding walk
  walk_follows zero h = ap (state_at v N u) (sym (add-zero r))
  walk_follows (suc t) h =
      walk_last v t (state_at v N u r) c
      ∙ ap₂ (next v) (walk_follows t (λ j l. h j (le_step l))) (h t (le_refl (suc t)))
      ∙ sym (state_at-next v N u (r + t))
      ∙ ap (state_at v N u) (sym (add-suc r t))

  pub walk_weight_follows : (gs : List ℕ) (t : ℕ) → Follows t
      → walk_weight gs v t (state_at v N u r) c ≡ sum t (λ j. step_weight gs (state_at v N u (r + j)) (place N u (r + j)))
  unfolding walk_weight sum
  walk_weight_follows gs zero h = refl
  walk_weight_follows gs (suc t) h =
      walk_weight_last gs v t (state_at v N u r) c
      ∙ ap₂ (λ (x y : ℕ). x + y) (walk_weight_follows gs t (λ j l. h j (le_step l)))
      (ap₂ (step_weight gs) (walk_follows t (λ j l. h j (le_step l))) (h t (le_refl (suc t))))
      ∙ sym (sum_last t (λ j. step_weight gs (state_at v N u (r + j)) (place N u (r + j))))

-- a word's own bits
pub word_follows : (v N u t : ℕ) → t ≤ N → Follows v N u 0 u t
word_follows v N u t h j l = sym (ap (place N u) (zero-add j) ∙ place-bit N u j (lt_of_lt_of_le l h))

-- the walk over a word from its first state goes through its states
pub walk-word : (v N u t : ℕ) → t ≤ N → walk v t (state_at v N u 0) u ≡ state_at v N u t
walk-word v N u t h = walk_follows v N u 0 u t (word_follows v N u t h) ∙ ap (state_at v N u) (zero-add t)

-- ---- after v steps nothing is left of the first state

-- the inputs so far, the latest as bit 0
latest : ℕ → ℕ → ℕ
latest zero c = 0
latest (suc l) c = 2 * latest l c + bit l c

double_plus : (x b : ℕ) → 2 * x + b ≡ x + (x + b)
double_plus x b = omega arith

-- a remainder may be taken before a bit is shifted in
mod_push : (y b m : ℕ) → (2 * (y % m) + b) % m ≡ (2 * y + b) % m
mod_push y b m =
    ap (λ (x : ℕ). x % m) (double_plus (y % m) b)
    ∙ mod-add-mod y m (y % m + b)
    ∙ ap (λ (x : ℕ). x % m) (add_left_comm y (y % m) b)
    ∙ mod-add-mod y m (y + b)
    ∙ ap (λ (x : ℕ). x % m) (sym (double_plus y b))

walk_latest : (v l s c : ℕ) → s < 2 ^ v → walk v l s c ≡ (s * 2 ^ l + latest l c) % 2 ^ v
unfolding walk latest next
walk_latest v zero s c h = sym (ap (λ (x : ℕ). x % 2 ^ v) (add-zero (s * 1) ∙ mul-one s) ∙ mod-eq_of_lt h)
walk_latest v (suc l) s c h =
    walk_last v l s c
    ∙ ap (λ (x : ℕ). (2 * x + bit l c) % 2 ^ v) (walk_latest v l s c h)
    ∙ mod_push (s * 2 ^ l + latest l c) (bit l c) (2 ^ v)
    ∙ ap (λ (x : ℕ). x % 2 ^ v) (shifted (s * 2 ^ l) (s * 2 ^ suc l) (latest l c) (bit l c) (ap (λ (x : ℕ). s * x) (pow-succ' 2 l) ∙ mul_left_comm s 2 (2 ^ l)))
  where
    shifted : (x y z b : ℕ) → y ≡ 2 * x → 2 * (x + z) + b ≡ y + (2 * z + b)
    shifted x y z b e = omega arith

-- v or more steps push s out of the register
pushed_out : (v l s : ℕ) → v ≤ l → (z : ℕ) → (s * 2 ^ l + z) % 2 ^ v ≡ z % 2 ^ v
pushed_out v l s h z =
    ap (λ (x : ℕ). (x + z) % 2 ^ v)
    (ap (λ (x : ℕ). s * 2 ^ x) (sym (sub-add_cancel h)) ∙ ap (λ (x : ℕ). s * x) (pow-add 2 (l - v) v) ∙ sym (mul_assoc s (2 ^ (l - v)) (2 ^ v)))
    ∙ mul-add-mod_self_right (s * 2 ^ (l - v)) (2 ^ v) z

pub walk_forgets : (v l s t c : ℕ) → v ≤ l → s < 2 ^ v → t < 2 ^ v → walk v l s c ≡ walk v l t c
walk_forgets v l s t c h hs ht =
    walk_latest v l s c hs ∙ pushed_out v l s h (latest l c) ∙ sym (pushed_out v l t h (latest l c)) ∙ sym (walk_latest v l t c ht)

-- ---- words of N bits are closed walks of N steps

pub walk_closes : (v N u : ℕ) → v ≤ N → walk v N (state_at v N u 0) u ≡ state_at v N u 0
walk_closes v N u h = walk-word v N u N (le_refl N) ∙ ap (state_at v N u) (sym (zero-add N)) ∙ state_at_period v N u 0 h

-- over a given word exactly one walk closes: the one from the word's first state
pub closed⇔first_state : (v N u s : ℕ) → v ≤ N → s < 2 ^ v → (walk v N s u ≡ s) ↔ (s ≡ state_at v N u 0)
closed⇔first_state v N u s h hs = (
  (λ e. sym e ∙ walk_forgets v N s (state_at v N u 0) u h hs (state_at_lt v N u 0) ∙ walk_closes v N u h),
  (λ e. ap (λ (x : ℕ). walk v N x u) e ∙ walk_closes v N u h ∙ sym e),
)
