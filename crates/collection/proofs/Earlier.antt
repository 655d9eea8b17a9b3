-- Of two walks of t steps from i whose last states agree below bit j, the one whose last state has bit j clear and not set has the smaller input
-- number: the lower bits of a state are the later inputs, and the later inputs are the higher bits of the input number.
-- Assumes nothing.
use Prim.Native.Nat.{ℕ, zero, suc, ◌+◌, ◌-◌, ◌*◌, ◌/◌, ◌%◌, ◌^◌, ◌≤◌, ◌<◌}
use native.Mathlib.Nat.{mod-eq_of_lt, mod-lt, pow-succ', div-lt_iff_lt-mul, div-add-mod', mod-mod_of_dvd, mul-add-mod_self_right, mul_left_comm, sub-add_cancel, dvd-mul_left}
use Prim.Native.Nat.{◌∣◌}
use native.Mathlib.Omega.{arith}
use mathlib.Core.Path.{◌≡◌, refl, sym, ap, ◌∙◌, subst}
use lib.Pow.{pow_pos, pow-add}
use Rattle.code.specs.Trellis.{next, walk}
use Rattle.collection.proofs.Ways.{walk_more}

-- ---- numbers

-- a bit shifted in, modulo twice m
shifted_mod : (x b m : ℕ) → 0 < m → b < 2 → (2 * x + b) % (2 * m) ≡ 2 * (x % m) + b
shifted_mod x b m pos hb =
    ap (λ (y : ℕ). y % (2 * m)) (regroup (x / m) (x % m) (x / m * m) (sym (div-add-mod' x m)) ∙ ap (λ (y : ℕ). y + (2 * (x % m) + b)) (mul_left_comm 2 (x / m) m))
    ∙ mul-add-mod_self_right (x / m) (2 * m) (2 * (x % m) + b) ∙ mod-eq_of_lt (small (x % m) (mod-lt x pos))
  where
    regroup : (q r y : ℕ) → x ≡ y + r → 2 * x + b ≡ 2 * y + (2 * r + b)
    regroup q r y e = omega arith

    small : (r : ℕ) → r < m → 2 * r + b < 2 * m
    small r h = omega arith

-- a smaller power of 2 divides a greater one
next-mod : (v j s b : ℕ) → j ≤ v → next v s b % 2 ^ j ≡ (2 * s + b) % 2 ^ j
unfolding next
next-mod v j s b h = mod-mod_of_dvd (2 ^ j) (2 * s + b) (subst (λ (x : ℕ). 2 ^ j ∣ x) (sym (pow-add 2 (v - j) j) ∙ ap (λ (x : ℕ). 2 ^ x) (sub-add_cancel h)) (dvd-mul_left (2 ^ j) (2 ^ (v - j))))

-- a higher digit decides
digit_decides : (q r a q' r' b m : ℕ) → a ≡ q * m + r → b ≡ q' * m + r' → r < m → q ≡ 0 → q' ≡ 1 → a < b
digit_decides q r a q' r' b m ea eb h e e' =
    let ea' : a ≡ 0 * m + r = ea ∙ ap (λ (x : ℕ). x * m + r) e in
    let eb' : b ≡ 1 * m + r' = eb ∙ ap (λ (x : ℕ). x * m + r') e' in
    omega arith

rest_decides : (q r a r' b m q' : ℕ) → a ≡ q * m + r → b ≡ q' * m + r' → q ≡ q' → r < r' → a < b
rest_decides q r a r' b m q' ea eb e h =
    let eb' : b ≡ q * m + r' = eb ∙ ap (λ (x : ℕ). x * m + r') (sym e) in
    omega arith

-- ---- walks

module _ (v i : ℕ) where
  -- the last step of a walk, seen modulo 2 ^ suc j
  last_step : (t j a : ℕ) → suc j ≤ v → a < 2 ^ suc t
      → walk v (suc t) i a % 2 ^ suc j ≡ 2 * (walk v t i (a % 2 ^ t) % 2 ^ j) + a / 2 ^ t
  last_step t j a h fits =
      let q : ℕ = a / 2 ^ t in
      let r : ℕ = a % 2 ^ t in
      let hq : q < 2 = (div-lt_iff_lt-mul (pow_pos t)).1 (subst (λ (x : ℕ). a < x) (pow-succ' 2 t) fits) in
      ap (λ (x : ℕ). walk v (suc t) i x % 2 ^ suc j) (sym (div-add-mod' a (2 ^ t)))
      ∙ ap (λ (x : ℕ). x % 2 ^ suc j) (walk_more v i 0 t r q hq (mod-lt a (pow_pos t)))
      ∙ next-mod v (suc j) (walk v t i r) q h
      ∙ ap (λ (x : ℕ). (2 * walk v t i r + q) % x) (pow-succ' 2 j)
      ∙ shifted_mod (walk v t i r) q (2 ^ j) (pow_pos j) hq

  pub less_before : (t j p a b : ℕ) → suc j ≤ v → p < 2 ^ j → a < 2 ^ t → b < 2 ^ t
      → walk v t i a % 2 ^ suc j ≡ p → walk v t i b % 2 ^ suc j ≡ p + 2 ^ j → a < b
  unfolding walk
  less_before zero j p a b h hp ha hb ea eb = let pos : 0 < 2 ^ j = pow_pos j in absurd (omega arith)
  less_before (suc t) j p a b h hp ha hb ea eb =
      let qa : ℕ = a / 2 ^ t in
      let qb : ℕ = b / 2 ^ t in
      let ra : ℕ = a % 2 ^ t in
      let rb : ℕ = b % 2 ^ t in
      let hqa : qa < 2 = (div-lt_iff_lt-mul (pow_pos t)).1 (subst (λ (x : ℕ). a < x) (pow-succ' 2 t) ha) in
      let hqb : qb < 2 = (div-lt_iff_lt-mul (pow_pos t)).1 (subst (λ (x : ℕ). b < x) (pow-succ' 2 t) hb) in
      by_place (λ k g p' hp' ea' eb'. less_before t k p' ra rb g hp' (mod-lt a (pow_pos t)) (mod-lt b (pow_pos t)) ea' eb') j h hp (sym (last_step t j a h ha) ∙ ea) (sym (last_step t j b h hb) ∙ eb) hqa hqb
    where
      Before : Type 0
      Before = (k : ℕ) → suc k ≤ v → (p' : ℕ) → p' < 2 ^ k → walk v t i (a % 2 ^ t) % 2 ^ suc k ≡ p' → walk v t i (b % 2 ^ t) % 2 ^ suc k ≡ p' + 2 ^ k → a % 2 ^ t < b % 2 ^ t

      by_place : Before → (k : ℕ) → suc k ≤ v → p < 2 ^ k → 2 * (walk v t i (a % 2 ^ t) % 2 ^ k) + a / 2 ^ t ≡ p
          → 2 * (walk v t i (b % 2 ^ t) % 2 ^ k) + b / 2 ^ t ≡ p + 2 ^ k → a / 2 ^ t < 2 → b / 2 ^ t < 2 → a < b
      by_place before zero g hp' ea' eb' hqa hqb =
          digit_decides (a / 2 ^ t) (a % 2 ^ t) a (b / 2 ^ t) (b % 2 ^ t) b (2 ^ t) (sym (div-add-mod' a (2 ^ t))) (sym (div-add-mod' b (2 ^ t)))
          (mod-lt a (pow_pos t)) (clear (walk v t i (a % 2 ^ t) % 1) (a / 2 ^ t) ea' hp') (set (walk v t i (b % 2 ^ t) % 1) (b / 2 ^ t) eb' hp' hqb)
        where
          clear : (x q : ℕ) → 2 * x + q ≡ p → p < 1 → q ≡ 0
          clear x q e s = omega arith

          set : (x q : ℕ) → 2 * x + q ≡ p + 1 → p < 1 → q < 2 → q ≡ 1
          set x q e s u = omega arith
      by_place before (suc k) g hp' ea' eb' hqa hqb =
          let both = same_bit (walk v t i (a % 2 ^ t) % 2 ^ suc k) (a / 2 ^ t) (walk v t i (b % 2 ^ t) % 2 ^ suc k) (b / 2 ^ t) (2 ^ suc k) (2 ^ k) (pow-succ' 2 k) ea' eb' hqa hqb hp' in
          rest_decides (a / 2 ^ t) (a % 2 ^ t) a (b % 2 ^ t) b (2 ^ t) (b / 2 ^ t) (sym (div-add-mod' a (2 ^ t))) (sym (div-add-mod' b (2 ^ t))) both.0
          (before k (omega arith) (walk v t i (a % 2 ^ t) % 2 ^ suc k) both.1.1 refl both.1.0)
        where
          same_bit : (x q y q' m h' : ℕ) → m ≡ 2 * h' → 2 * x + q ≡ p → 2 * y + q' ≡ p + m → q < 2 → q' < 2 → p < m
              → (q ≡ q') × ((y ≡ x + h') × (x < h'))
          same_bit x q y q' m h' em e e' u u' s = (omega arith, (omega arith, omega arith))
