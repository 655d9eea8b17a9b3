-- Walks cut in two: after m + k steps a walk is where k steps lead from where m steps led, over the inputs that are left; and the first m steps
-- do not see the later inputs. The same for what the steps weigh.
-- Assumes nothing.
use mathlib.Core.Path.{◌≡◌, refl, sym, ap, ap₂, ◌∙◌}
use mathlib.Core.List.{List}
use Prim.Native.Nat.{ℕ, zero, suc, ◌+◌, ◌*◌, ◌/◌, ◌%◌, ◌^◌, ◌≤◌, ◌<◌}
use native.Mathlib.Nat.{zero-add, suc-add, add_assoc, div-one, div-div-eq-div-mul, pow-succ'}
use native.Mathlib.Omega.{arith}
use lib.Pow.{high}
use Rattle.poly.specs.Poly.{bit}
use Rattle.poly.proofs.Bits.{bit_low}
use Rattle.code.specs.Trellis.{next, step_weight, walk, walk_weight}
use Rattle.code.proofs.Walks.{walk_last, walk_weight_last}

-- the inputs left after one more step
later_inputs : (m c : ℕ) → c / 2 / 2 ^ m ≡ c / 2 ^ suc m
later_inputs m c = div-div-eq-div-mul c 2 (2 ^ m) ∙ ap (λ (x : ℕ). c / x) (sym (pow-succ' 2 m))

module _ (v : ℕ) where
  -- ---- first m steps, then k

  pub walk-cut : (m k s c : ℕ) → walk v (m + k) s c ≡ walk v k (walk v m s c) (c / 2 ^ m)
  unfolding walk
  walk-cut zero k s c = ap₂ (λ (n x : ℕ). walk v n s x) (zero-add k) (sym (div-one c))
  walk-cut (suc m) k s c =
      ap (λ (n : ℕ). walk v n s c) (suc-add m k)
      ∙ walk-cut m k (next v s (c % 2)) (c / 2)
      ∙ ap (walk v k (walk v m (next v s (c % 2)) (c / 2))) (later_inputs m c)

  pub walk_weight-cut : (gs : List ℕ) (m k s c : ℕ)
      → walk_weight gs v (m + k) s c ≡ walk_weight gs v m s c + walk_weight gs v k (walk v m s c) (c / 2 ^ m)
  unfolding walk walk_weight
  walk_weight-cut gs zero k s c = ap₂ (λ (n x : ℕ). walk_weight gs v n s x) (zero-add k) (sym (div-one c)) ∙ sym (zero-add (walk_weight gs v k s (c / 1)))
  walk_weight-cut gs (suc m) k s c =
      let s' : ℕ = next v s (c % 2) in
      ap (λ (n : ℕ). walk_weight gs v n s c) (suc-add m k)
      ∙ ap (λ (x : ℕ). step_weight gs s (c % 2) + x)
      (walk_weight-cut gs m k s' (c / 2)
      ∙ ap (λ (x : ℕ). walk_weight gs v m s' (c / 2) + walk_weight gs v k (walk v m s' (c / 2)) x) (later_inputs m c))
      ∙ sym (add_assoc (step_weight gs s (c % 2)) (walk_weight gs v m s' (c / 2)) (walk_weight gs v k (walk v m s' (c / 2)) (c / 2 ^ suc m)))

  -- ---- only the inputs of the steps taken count

  pub walk_cong : (l s c c' : ℕ) → ((j : ℕ) → j < l → bit j c ≡ bit j c') → walk v l s c ≡ walk v l s c'
  unfolding walk
  walk_cong zero s c c' h = refl
  walk_cong (suc l) s c c' h =
      walk_last v l s c
      ∙ ap₂ (next v) (walk_cong l s c c' (λ j g. h j (omega arith))) (h l (omega arith))
      ∙ sym (walk_last v l s c')

  pub walk_weight_cong : (gs : List ℕ) (l s c c' : ℕ) → ((j : ℕ) → j < l → bit j c ≡ bit j c') → walk_weight gs v l s c ≡ walk_weight gs v l s c'
  unfolding walk_weight
  walk_weight_cong gs zero s c c' h = refl
  walk_weight_cong gs (suc l) s c c' h =
      let before : (j : ℕ) → j < l → bit j c ≡ bit j c' = λ j g. h j (omega arith) in
      walk_weight_last gs v l s c
      ∙ ap₂ (λ (x y : ℕ). x + y) (walk_weight_cong gs l s c c' before) (ap₂ (step_weight gs) (walk_cong l s c c' before) (h l (omega arith)))
      ∙ sym (walk_weight_last gs v l s c')

  -- ---- an input number made of low inputs, taken first, and of high ones

  module _ (m low high' : ℕ) where
    -- low inputs first, then high ones
    abbrev joint : ℕ
    joint = high' * 2 ^ m + low

    pub walk_low : (t s : ℕ) → t ≤ m → walk v t s (high' * 2 ^ m + low) ≡ walk v t s low
    walk_low t s h = walk_cong t s joint low (λ j l. bit_low j m high' low (omega arith))

    pub walk_weight_low : (gs : List ℕ) (t s : ℕ) → t ≤ m → walk_weight gs v t s (high' * 2 ^ m + low) ≡ walk_weight gs v t s low
    walk_weight_low gs t s h = walk_weight_cong gs t s joint low (λ j l. bit_low j m high' low (omega arith))

    module _ (fits : low < 2 ^ m) where
      pub walk_high : (k s : ℕ) → walk v (m + k) s (high' * 2 ^ m + low) ≡ walk v k (walk v m s low) high'
      walk_high k s = walk-cut m k s joint ∙ ap₂ (walk v k) (walk_low m s (omega arith)) (high high' m fits)

      pub walk_weight_high : (gs : List ℕ) (k s : ℕ)
          → walk_weight gs v (m + k) s (high' * 2 ^ m + low) ≡ walk_weight gs v m s low + walk_weight gs v k (walk v m s low) high'
      walk_weight_high gs k s =
          walk_weight-cut gs m k s joint
          ∙ ap₂ (λ (x y : ℕ). x + y) (walk_weight_low gs m s (omega arith))
          (ap₂ (walk_weight gs v k) (walk_low m s (omega arith)) (high high' m fits))
