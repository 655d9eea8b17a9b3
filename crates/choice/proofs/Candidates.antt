-- The candidates are the polynomials of degree m with constant term 1: as numbers, those from 2^m up to 2^(m+1) that are odd. There are
-- 2^(m-1) of them, by number.
-- Assumes nothing.
use Prim.Native.Nat.{ℕ, zero, suc, ◌+◌, ◌-◌, ◌*◌, ◌/◌, ◌%◌, ◌^◌, ◌≤◌, ◌<◌}
use native.Mathlib.Nat.{pow-succ', one-le-pow, pow-le-pow_right, div-eq_of_lt-le, div-add-mod', mod-lt}
use native.Mathlib.Omega.{arith}
use mathlib.Core.Path.{◌≡◌, sym, ap, ◌∙◌, subst}
use mathlib.Core.Logic.{◌↔◌}
use mathlib.Core.List.Memᴰ
use mathlib.Core.List.{Memᴰ}
use Rattle.lists.specs.Lists.{up_from}
use Rattle.lists.proofs.Member.{up_from_bounds, in_up_from}
use Rattle.lists.proofs.Sorted.{Sorted, up_from-sorted, map-sorted}
use Rattle.parity.specs.Model.Parity.{Divisor}
use Rattle.choice.specs.Choice.{candidates}
use Rattle.choice.specs.Best.{IsCandidate}
use Rattle.choice.specs.Model.Steps.{CheckDegree}

pub power_small : (m : ℕ) → m ≤ 12 → 2 ^ m ≤ 4096
power_small m h = pow-le-pow_right (omega arith) h

pub few_candidates : (m : ℕ) → m ≤ 12 → 2 ^ (m - 1) ≤ 2048
few_candidates m h = let e : m - 1 ≤ 11 = omega arith in pow-le-pow_right (omega arith) e

twice_half_power : (m : ℕ) → 1 ≤ m → 2 ^ m ≡ 2 * 2 ^ (m - 1)
twice_half_power zero h = absurd (omega arith)
twice_half_power (suc n) h = pow-succ' 2 n ∙ ap (λ k. 2 * 2 ^ k) less
  where
    less : n ≡ suc n - 1
    less = omega arith

-- p is candidate k
pub record CandidateNumber (m p : ℕ) : Type 0 where
  pub k : ℕ
  pub below : k < 2 ^ (m - 1)
  pub named : 2 ^ m + 2 * k + 1 ≡ p

pub candidate_number : (m p : ℕ) → Memᴰ p (candidates m) → CandidateNumber m p
unfolding candidates
candidate_number m p member =
    let h = Memᴰ.of_map (λ k. 2 ^ m + 2 * k + 1) (up_from 0 (2 ^ (m - 1))) member in
    let b = up_from_bounds 0 (2 ^ (m - 1)) h.1 in
    record { k = h.0; below = omega arith; named = h.2 }

pub candidate_member : (m k : ℕ) → k < 2 ^ (m - 1) → Memᴰ (2 ^ m + 2 * k + 1) (candidates m)
unfolding candidates
candidate_member m k h = Memᴰ.map (λ k. 2 ^ m + 2 * k + 1) (in_up_from 0 (2 ^ (m - 1)) (omega arith) (omega arith))

-- there is one
pub some_candidate : (m : ℕ) → Memᴰ (2 ^ m + 2 * 0 + 1) (candidates m)
some_candidate m = candidate_member m 0 (one-le-pow (m - 1) 2 (omega arith))

module _ (m : ℕ) (positive : 1 ≤ m) where
  numbered : (k : ℕ) → k < 2 ^ (m - 1) → IsCandidate m (2 ^ m + 2 * k + 1)
  numbered k h =
      let twice = twice_half_power m positive in
      (div-eq_of_lt-le (2 ^ m) (omega arith) (omega arith), omega arith)

  degree_of : (p k n : ℕ) → n ≡ 2 ^ (m - 1) → k < n → p ≡ 2 ^ m + 2 * k + 1 → p / 2 ^ m ≡ 1
  degree_of p k n all h e = ap (λ x. x / 2 ^ m) e ∙ (numbered k (omega arith)).0

  -- the number of a candidate
  pub number_is : (p : ℕ) → IsCandidate m p → ((p - 2 ^ m) / 2 < 2 ^ (m - 1)) × (2 ^ m + 2 * ((p - 2 ^ m) / 2) + 1 ≡ p)
  number_is p c =
      let twice = twice_half_power m positive in
      let whole : 1 * 2 ^ m + p % 2 ^ m ≡ p = rw c.0 at (div-add-mod' p (2 ^ m)) in
      let rest : p % 2 ^ m < 2 ^ m = mod-lt p (one-le-pow m 2 (omega arith)) in
      (omega arith, omega arith)

  pub of_candidates : (p : ℕ) → Memᴰ p (candidates m) → IsCandidate m p
  of_candidates p member = let h = candidate_number m p member in subst (IsCandidate m) h.named (numbered h.k h.below)

  pub in_candidates : (p : ℕ) → IsCandidate m p → Memᴰ p (candidates m)
  in_candidates p c = let h = number_is p c in Memᴰ.cast (sym h.1) (candidate_member m ((p - 2 ^ m) / 2) h.0)

  pub mem_candidates : (p : ℕ) → Memᴰ p (candidates m) ↔ IsCandidate m p
  mem_candidates p = (of_candidates p, in_candidates p)

-- what is asked of a polynomial holds of every candidate
pub candidate_divisor : {m n k p : ℕ} → CheckDegree m → n ≡ 2 ^ (m - 1) → k < n → p ≡ 2 ^ m + 2 * k + 1 → Divisor m p
candidate_divisor {m} {n} {k} {p} degree all h named = record {
  some_degree = degree.some_degree;
  modulus = record { at_most_12 = degree.at_most_12; degree = degree_of m degree.some_degree p k n all h named };
}

pub candidates-sorted : (m : ℕ) → Sorted ◌<◌ (candidates m)
unfolding candidates
candidates-sorted m =
    map-sorted ◌<◌ ◌<◌ (λ k. 2 ^ m + 2 * k + 1) (λ k k' h. omega arith) (up_from 0 (2 ^ (m - 1))) (up_from-sorted 0 (2 ^ (m - 1)))
