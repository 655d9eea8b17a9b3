-- Where a sequence of numbers first meets a number, and where it last takes its least value.
-- Assumes nothing.
use Prim.Native.Nat.{ℕ, zero, suc, ◌≤◌, ◌<◌}
use native.Mathlib.Decide.{ℕ_discrete, dec_le}
use native.Mathlib.Omega.{arith}
use mathlib.Core.Path.{◌≡◌, sym, subst}
use mathlib.Core.Logic.{◌≢◌, ◌⊎◌, inl, inr, ⊎_elim}

-- the first place from 1 to k where f is i
pub record FirstHit (f : ℕ → ℕ) (i k : ℕ) : Type 0 where
  pub at : ℕ
  pub positive : 1 ≤ at
  pub within : at ≤ k
  pub hits : f at ≡ i
  pub none_before : (t : ℕ) → 1 ≤ t → t < at → f t ≢ i

-- the last of the places from 1 to n where f is least
pub record LastLeast (f : ℕ → ℕ) (n : ℕ) : Type 0 where
  pub at : ℕ
  pub positive : 1 ≤ at
  pub within : at ≤ n
  pub least : (t : ℕ) → 1 ≤ t → t ≤ n → f at ≤ f t
  pub less_after : (t : ℕ) → at < t → t ≤ n → f at < f t

module _ (f : ℕ → ℕ) where
  -- a property of the places up to k, and of the next
  one_more : (P : ℕ → Type 0) (k : ℕ) → ((t : ℕ) → t ≤ k → P t) → P (suc k) → (t : ℕ) → t ≤ suc k → P t
  one_more P k before here t h = elim (ℕ_discrete t (suc k)) [ yes e ↦ subst P (sym e) here | no n ↦ before t (omega arith) ]

  hit_or_none : (i k : ℕ) → FirstHit f i k ⊎ ((t : ℕ) → t ≤ k → 1 ≤ t → f t ≢ i)
  hit_or_none i zero = inr (λ t h l. absurd (omega arith))
  hit_or_none i (suc k) = ⊎_elim (λ h. inl (longer h)) (λ none. next none (ℕ_discrete (f (suc k)) i)) (hit_or_none i k)
    where
      longer : FirstHit f i k → FirstHit f i (suc k)
      longer h =
          let le = h.within in
          record { at = h.at; positive = h.positive; within = omega arith; hits = h.hits; none_before = h.none_before }

      next : ((t : ℕ) → t ≤ k → 1 ≤ t → f t ≢ i) → Dec (f (suc k) ≡ i) → FirstHit f i (suc k) ⊎ ((t : ℕ) → t ≤ suc k → 1 ≤ t → f t ≢ i)
      next none (yes e) =
          inl (record { at = suc k; positive = omega arith; within = omega arith; hits = e; none_before = λ t l h. none t (omega arith) l })
      next none (no n) = inr (one_more (λ t. 1 ≤ t → f t ≢ i) k none (λ _. n))

  pub first_hit : (i k : ℕ) → 1 ≤ k → f k ≡ i → FirstHit f i k
  first_hit i k l e = ⊎_elim (λ h. h) (λ none. absurd (none k (omega arith) l e)) (hit_or_none i k)

  pub last_least : (n : ℕ) → LastLeast f (suc n)
  last_least zero =
      let same : (t : ℕ) → 1 ≤ t → t ≤ 1 → f 1 ≤ f t = λ t l h. let e : 1 ≡ t = omega arith in subst (λ x. f 1 ≤ f x) e (omega arith) in
      record { at = 1; positive = omega arith; within = omega arith; least = same; less_after = λ t l h. absurd (omega arith) }
  last_least (suc n) = next (last_least n)
    where
      replaced : (p : LastLeast f (suc n)) → f (suc (suc n)) ≤ f p.at → LastLeast f (suc (suc n))
      replaced p h =
          let below : (t : ℕ) → t ≤ suc n → 1 ≤ t → f (suc (suc n)) ≤ f t = λ t g l. let q = p.least t l g in omega arith in
          let all = one_more (λ t. 1 ≤ t → f (suc (suc n)) ≤ f t) (suc n) below (λ _. omega arith) in
          record {
            at = suc (suc n);
            positive = omega arith;
            within = omega arith;
            least = λ t l g. all t g l;
            less_after = λ t l g. absurd (omega arith);
          }

      stays : (p : LastLeast f (suc n)) → f p.at < f (suc (suc n)) → LastLeast f (suc (suc n))
      stays p h =
          let w = p.within in
          let all = one_more (λ t. 1 ≤ t → f p.at ≤ f t) (suc n) (λ t g l. p.least t l g) (λ _. omega arith) in
          let later = one_more (λ t. p.at < t → f p.at < f t) (suc n) (λ t g l. p.less_after t l g) (λ _. h) in
          record { at = p.at; positive = p.positive; within = omega arith; least = λ t l g. all t g l; less_after = λ t l g. later t g l }

      next : LastLeast f (suc n) → LastLeast f (suc (suc n))
      next p = elim (dec_le (f (suc (suc n))) (f p.at)) [ yes h ↦ replaced p h | no h ↦ stays p (omega arith) ]
