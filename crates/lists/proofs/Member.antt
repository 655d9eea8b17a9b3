-- What the members of the lists of `specs/Lists.antt` are: of a range, of the members that pass a test, of blocks one after another; and
-- what it says that all members pass, or that any does.
-- Assumes nothing.
use Prim.Native.Nat.{ℕ, zero, suc, ◌+◌, ◌≤◌, ◌<◌}
use native.Mathlib.Decide.{ℕ_discrete}
use native.Mathlib.Omega.{arith}
use mathlib.Core.Path.{◌≡◌, sym, subst, subst⁻¹}
use mathlib.Core.Bool.{Bool, true, false, not, cond}
use mathlib.Core.Logic.{◌↔◌, ◌⊎◌, inl, inr, ⊎_elim}
use mathlib.Core.List.Memᴰ
use mathlib.Core.List.{List, [], ◌∷◌, map, flat_map, Memᴰ}
use lib.Dec.{T, T_not, not_T}
use Rattle.lists.specs.Lists.{up_from, filter, all, any}
use Rattle.lists.proofs.Tests.{T_and, T_or}

-- ---- ranges

pub up_from_bounds : {x : ℕ} (n k : ℕ) → Memᴰ x (up_from n k) → (n ≤ x) × (x < n + k)
unfolding up_from
up_from_bounds n zero m = absurd (Memᴰ.not-nil m)
up_from_bounds {x} n (suc k) m =
    ⊎_elim (λ (e : x ≡ n). omega arith) (λ (r : Memᴰ x (up_from (suc n) k)). let h = up_from_bounds (suc n) k r in omega arith) (Memᴰ.cases_cons m)

pub in_up_from : {x : ℕ} (n k : ℕ) → n ≤ x → x < n + k → Memᴰ x (up_from n k)
unfolding up_from
in_up_from n zero l h = absurd (omega arith)
in_up_from {x} n (suc k) l h =
    elim (ℕ_discrete x n) [ yes e ↦ Memᴰ.head e | no e ↦ Memᴰ.tail (in_up_from (suc n) k (omega arith) (omega arith)) ]

pub mem_up_from : {x : ℕ} (n k : ℕ) → Memᴰ x (up_from n k) ↔ ((n ≤ x) × (x < n + k))
mem_up_from n k = (up_from_bounds n k, λ h. in_up_from n k h.0 h.1)

module _ {A : Type 0} where
  -- ---- images

  pub mem_map : {B : Type 0} (f : A → B) {y : B} (xs : List A) → Memᴰ y (map f xs) ↔ ((x : A) × Memᴰ x xs × (f x ≡ y))
  mem_map f xs = (Memᴰ.of_map f xs, λ h. Memᴰ.cast (sym h.2) (Memᴰ.map f h.1))

  -- ---- the members that pass

  kept_cases : (b : Bool) {x y : A} (rest : List A) → Memᴰ x (cond b (y ∷ rest) rest) → ((x ≡ y) × T b) ⊎ Memᴰ x rest
  kept_cases true rest m = ⊎_elim (λ e. inl (e, tt)) inr (Memᴰ.cases_cons m)
  kept_cases false rest m = inr m

  kept_first : (b : Bool) {x y : A} (rest : List A) → x ≡ y → T b → Memᴰ x (cond b (y ∷ rest) rest)
  kept_first true rest e t = Memᴰ.head e
  kept_first false rest e t = absurd t

  kept_later : (b : Bool) {x : A} (y : A) {rest : List A} → Memᴰ x rest → Memᴰ x (cond b (y ∷ rest) rest)
  kept_later true y m = Memᴰ.tail m
  kept_later false y m = m

  pub of_filter : (f : A → Bool) {x : A} (xs : List A) → Memᴰ x (filter f xs) → Memᴰ x xs × T (f x)
  unfolding filter
  of_filter f [] m = absurd (Memᴰ.not-nil m)
  of_filter f (y ∷ ys) m =
      ⊎_elim (λ h. (Memᴰ.head h.0, subst⁻¹ (λ z. T (f z)) h.0 h.1)) (λ r. let h = of_filter f ys r in (Memᴰ.tail h.0, h.1))
      (kept_cases (f y) (filter f ys) m)

  pub in_filter : (f : A → Bool) {x : A} (xs : List A) → Memᴰ x xs → T (f x) → Memᴰ x (filter f xs)
  unfolding filter
  in_filter f [] m t = absurd (Memᴰ.not-nil m)
  in_filter f (y ∷ ys) m t =
      ⊎_elim (λ e. kept_first (f y) (filter f ys) e (subst (λ z. T (f z)) e t)) (λ r. kept_later (f y) y (in_filter f ys r t))
      (Memᴰ.cases_cons m)

  pub mem_filter : (f : A → Bool) {x : A} (xs : List A) → Memᴰ x (filter f xs) ↔ (Memᴰ x xs × T (f x))
  mem_filter f xs = (of_filter f xs, λ h. in_filter f xs h.0 h.1)

  -- ---- blocks

  pub of_flat_map : {B : Type 0} (f : A → List B) {y : B} (xs : List A) → Memᴰ y (flat_map f xs) → (x : A) × Memᴰ x xs × Memᴰ y (f x)
  unfolding flat_map
  of_flat_map f [] m = absurd (Memᴰ.not-nil m)
  of_flat_map f (x ∷ xs) m =
      ⊎_elim (λ h. (x, Memᴰ.head (λ i. x), h)) (λ r. let h = of_flat_map f xs r in (h.0, Memᴰ.tail h.1, h.2))
      (Memᴰ.append_cases (f x) m)

  pub in_flat_map : {B : Type 0} (f : A → List B) {x : A} {y : B} (xs : List A) → Memᴰ x xs → Memᴰ y (f x) → Memᴰ y (flat_map f xs)
  unfolding flat_map
  in_flat_map f [] m h = absurd (Memᴰ.not-nil m)
  in_flat_map f {y = b} (x ∷ xs) m h =
      ⊎_elim (λ e. Memᴰ.append_left (flat_map f xs) (subst (λ z. Memᴰ b (f z)) e h)) (λ r. Memᴰ.append_right (f x) (in_flat_map f xs r h))
      (Memᴰ.cases_cons m)

  pub mem_flat_map : {B : Type 0} (f : A → List B) {y : B} (xs : List A) → Memᴰ y (flat_map f xs) ↔ ((x : A) × Memᴰ x xs × Memᴰ y (f x))
  mem_flat_map f xs = (of_flat_map f xs, λ h. in_flat_map f xs h.1 h.2)

  -- ---- all and any

  pub of_all : (f : A → Bool) (xs : List A) → T (all f xs) → (x : A) → Memᴰ x xs → T (f x)
  unfolding all
  of_all f [] t x m = absurd (Memᴰ.not-nil m)
  of_all f (y ∷ ys) t x m =
      let h = (T_and (f y) (all f ys)).0 t in
      ⊎_elim (λ e. subst⁻¹ (λ z. T (f z)) e h.0) (λ r. of_all f ys h.1 x r) (Memᴰ.cases_cons m)

  pub in_all : (f : A → Bool) (xs : List A) → ((x : A) → Memᴰ x xs → T (f x)) → T (all f xs)
  unfolding all
  in_all f [] h = tt
  in_all f (y ∷ ys) h = (T_and (f y) (all f ys)).1 (h y (Memᴰ.head (λ i. y)), in_all f ys (λ x m. h x (Memᴰ.tail m)))

  pub mem_all : (f : A → Bool) (xs : List A) → T (all f xs) ↔ ((x : A) → Memᴰ x xs → T (f x))
  mem_all f xs = (of_all f xs, in_all f xs)

  pub of_any : (f : A → Bool) (xs : List A) → T (any f xs) → (x : A) × Memᴰ x xs × T (f x)
  unfolding any
  of_any f [] t = absurd t
  of_any f (y ∷ ys) t =
      ⊎_elim (λ h. (y, Memᴰ.head (λ i. y), h)) (λ r. let h = of_any f ys r in (h.0, Memᴰ.tail h.1, h.2)) ((T_or (f y) (any f ys)).0 t)

  pub in_any : (f : A → Bool) {x : A} (xs : List A) → Memᴰ x xs → T (f x) → T (any f xs)
  unfolding any
  in_any f [] m t = absurd (Memᴰ.not-nil m)
  in_any f (y ∷ ys) m t =
      (T_or (f y) (any f ys)).1 (⊎_elim (λ e. inl (subst (λ z. T (f z)) e t)) (λ r. inr (in_any f ys r t)) (Memᴰ.cases_cons m))

  pub mem_any : (f : A → Bool) (xs : List A) → T (any f xs) ↔ ((x : A) × Memᴰ x xs × T (f x))
  mem_any f xs = (of_any f xs, λ h. in_any f xs h.1 h.2)

  -- none passes: every member fails
  pub of_not_any : (f : A → Bool) (xs : List A) → T (not (any f xs)) → (x : A) → Memᴰ x xs → T (not (f x))
  of_not_any f xs t x m = not_T (f x) (λ p. T_not (any f xs) t (in_any f xs m p))

  pub in_not_any : (f : A → Bool) (xs : List A) → ((x : A) → Memᴰ x xs → T (not (f x))) → T (not (any f xs))
  in_not_any f xs h = not_T (any f xs) (λ t. let w = of_any f xs t in T_not (f w.0) (h w.0 w.1) w.2)

  pub mem_not_any : (f : A → Bool) (xs : List A) → T (not (any f xs)) ↔ ((x : A) → Memᴰ x xs → T (not (f x)))
  mem_not_any f xs = (of_not_any f xs, in_not_any f xs)
