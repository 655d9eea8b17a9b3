-- The mark of a word: its smallest state i, and how many steps r before place N (which is place 0) its walk is at i for the last time. Every word
-- has one mark (`mark_exists`, `mark-unique`). A loop of N steps from i, turned by less than its first return, has mark i, r (`marked_turn`); and a
-- word of mark i, r is such a loop turned by r (`mark_loop`, `mark_before_return`, `mark_turned_back`).
-- Assumes nothing.
use mathlib.Core.Path.{◌≡◌, sym, ap, ◌∙◌, subst}
use Prim.Native.Nat.{ℕ, zero, suc, ◌+◌, ◌-◌, ◌^◌, ◌≤◌, ◌<◌}
use native.Mathlib.Nat.{zero-add, sub_self}
use native.Mathlib.Decide.{dec_le}
use native.Mathlib.Omega.{arith}
use Rattle.lists.proofs.Hits.{last_least}
use Rattle.code.specs.Trellis.{state_at, rotate, walk}
use Rattle.code.proofs.States.{state_at_lt, state_at_period}
use Rattle.code.proofs.Walks.{walk-word, closed⇔first_state}
use Rattle.code.proofs.Rotation.{rotate_lt, state_at-rotate, rotate-rotate, rotate-all}
use Rattle.code.proofs.Meets.{Meets}
use Rattle.code.proofs.Loops.{Loop}

-- i is the smallest state of u, and r steps before the end is the last visit to it
pub record Marked (v N u i r : ℕ) : Type 0 where
  pub inside : r < N
  pub at : state_at v N u (N - r) ≡ i
  pub least : (t : ℕ) → 1 ≤ t → t ≤ N → i ≤ state_at v N u t
  pub after : (t : ℕ) → N - r < t → t ≤ N → i < state_at v N u t

module _ (v N u : ℕ) where
  pub mark_exists : 0 < N → (i : ℕ) × (r : ℕ) × Marked v N u i r
  mark_exists some = found (N - 1) (omega arith)
    where
      found : (n : ℕ) → suc n ≡ N → (i : ℕ) × (r : ℕ) × Marked v N u i r
      found n e =
          let p = last_least (state_at v N u) n in
          let first = p.positive in
          let last = p.within in
          let back : N - (N - p.at) ≡ p.at = omega arith in (
            state_at v N u p.at,
            N - p.at,
            record {
              inside = omega arith;
              at = ap (state_at v N u) back;
              least = λ t g h. p.least t g (omega arith);
              after = λ t g h. p.less_after t (omega arith) (omega arith);
            },
          )

  module _ {i r i' r' : ℕ} (m : Marked v N u i r) (m' : Marked v N u i' r') where
    pub mark_unique_state : i ≡ i'
    mark_unique_state =
        let inside = m.inside in
        let inside' = m'.inside in
        let below = m.least (N - r') (omega arith) (omega arith) in
        let below' = m'.least (N - r) (omega arith) (omega arith) in
        let at = m.at in
        let at' = m'.at in
        omega arith

    pub mark_unique_turn : r ≡ r'
    mark_unique_turn =
        let inside = m.inside in
        let inside' = m'.inside in
        let same = mark_unique_state in
        let at = m.at in
        let at' = m'.at in
        let early : ¬ (r < r') = λ h. let a = m'.after (N - r) (omega arith) (omega arith) in omega arith in
        let late : ¬ (r' < r) = λ h. let a = m.after (N - r') (omega arith) (omega arith) in omega arith in
        omega arith

module _ (v N : ℕ) (some : 0 < N) (longer : v ≤ N) where
  -- a word's states from place N on are its states from place 0 on
  state_wraps : (c t : ℕ) → N ≤ t → state_at v N c t ≡ state_at v N c (t - N)
  state_wraps c t h = let e : t ≡ t - N + N = omega arith in ap (state_at v N c) e ∙ state_at_period v N c (t - N) longer

  -- no state at any time is smaller than the marked one
  pub mark_least : {u i r : ℕ} → Marked v N u i r → (t : ℕ) → i ≤ state_at v N u t
  mark_least {u} {i} m t = by t t (omega arith)
    where
      first : i ≤ state_at v N u 0
      first = let a = m.least N some (omega arith) in let wraps = state_wraps u N (omega arith) in let e = ap (state_at v N u) (sub_self N) in omega arith

      near : (t : ℕ) → t ≤ N → i ≤ state_at v N u t
      near zero h = first
      near (suc t) h = m.least (suc t) (omega arith) h

      by : (fuel t : ℕ) → t ≤ fuel → i ≤ state_at v N u t
      by zero t h = near t (omega arith)
      by (suc fuel) t h = elim (dec_le t N) [
        | yes g ↦ near t g
        | no g ↦ let wraps = state_wraps u t (omega arith) in let a = by fuel (t - N) (omega arith) in omega arith
      ]

  -- a loop over c from i goes through c's states
  loop-states : (i c t : ℕ) → i ≡ state_at v N c 0 → t ≤ N → walk v t i c ≡ state_at v N c t
  loop-states i c t e h = ap (λ (s : ℕ). walk v t s c) e ∙ walk-word v N c t h

  module _ {i c l : ℕ} (state : i < 2 ^ v) (loop : Loop v i N c) (m : Meets v i l i c) (r : ℕ) (short : r < l) (fits : l ≤ N) where
    on_loop : (t : ℕ) → t ≤ N → walk v t i c ≡ state_at v N c t
    on_loop t h = loop-states i c t ((closed⇔first_state v N c i longer state).0 loop.closes) h

    -- the states of the turned word: those of c from place r on
    turned_early : (t : ℕ) → t + r ≤ N → state_at v N (rotate N r c) t ≡ walk v (t + r) i c
    turned_early t h = state_at-rotate v N r c t some longer ∙ sym (on_loop (t + r) h)

    turned_late : (t : ℕ) → t ≤ N → N ≤ t + r → state_at v N (rotate N r c) t ≡ walk v (t + r - N) i c
    turned_late t h g = state_at-rotate v N r c t some longer ∙ state_wraps c (t + r) g ∙ sym (on_loop (t + r - N) (omega arith))

    turned_least : (t : ℕ) → 1 ≤ t → t ≤ N → i ≤ state_at v N (rotate N r c) t
    turned_least t g h = elim (dec_le (t + r) N) [
      | yes e ↦ let a = loop.above (t + r) e in omega (arith, turned_early t e)
      | no n ↦ let a = loop.above (t + r - N) (omega arith) in omega (arith, turned_late t h (omega arith))
    ]

    turned_after : (t : ℕ) → N - r < t → t ≤ N → i < state_at v N (rotate N r c) t
    turned_after t g h = let a = m.above (t + r - N) (omega arith) (omega arith) in omega (arith, turned_late t h (omega arith))

    pub marked_turn : Marked v N (rotate N r c) i r
    marked_turn =
        let end : N - r + r ≡ N = omega arith in
        record {
          inside = omega arith;
          at = turned_early (N - r) (omega arith) ∙ ap (λ (t : ℕ). walk v t i c) end ∙ loop.closes;
          least = turned_least;
          after = turned_after;
        }

  module _ {u i r : ℕ} (fits : u < 2 ^ N) (m : Marked v N u i r) where
    -- the word begun at the mark
    abbrev begun : ℕ
    begun = rotate N (N - r) u

    begun_states : (t : ℕ) → state_at v N begun t ≡ state_at v N u (t + (N - r))
    begun_states t = state_at-rotate v N (N - r) u t some longer

    begun_first : i ≡ state_at v N begun 0
    begun_first = sym (begun_states 0 ∙ ap (state_at v N u) (zero-add (N - r)) ∙ m.at)

    begun_above : (t : ℕ) → t ≤ N → i ≤ state_at v N begun t
    begun_above t h =
        let inside = m.inside in
        let same = begun_states t in
        elim (dec_le (t + (N - r)) N) [
          | yes e ↦ let a = m.least (t + (N - r)) (omega arith) e in omega arith
          | no n ↦
              let a = m.least (t + (N - r) - N) (omega arith) (omega arith) in
              let wraps = state_wraps u (t + (N - r)) (omega arith) in
              omega arith
        ]

    pub mark_state_fits : i < 2 ^ v
    mark_state_fits = subst (λ (x : ℕ). x < 2 ^ v) m.at (state_at_lt v N u (N - r))

    pub mark_loop : Loop v i N (rotate N (N - r) u)
    mark_loop = record {
      fits = rotate_lt N (N - r) u;
      closes = (closed⇔first_state v N begun i longer mark_state_fits).1 begun_first;
      above = λ t h. let e = loop-states i begun t begun_first h in let a = begun_above t h in omega arith;
    }

    -- the first return comes after the word's place 0
    pub mark_before_return : (l : ℕ) → l ≤ N → Meets v i l i (rotate N (N - r) u) → r < l
    mark_before_return l h first =
        let inside = m.inside in
        let step = first.some_step in
        let back = first.arrives in
        let on = loop-states i begun l begun_first h in
        let same = begun_states l in
        let late : ¬ (l ≤ r) = λ g. let a = m.after (l + (N - r)) (omega arith) (omega arith) in omega arith in
        omega arith

    pub mark_turned_back : rotate N r (rotate N (N - r) u) ≡ u
    mark_turned_back =
        let inside = m.inside in
        let all : r + (N - r) ≡ N = omega arith in
        rotate-rotate N r (N - r) u some ∙ ap (λ (x : ℕ). rotate N x u) all ∙ rotate-all N u fits

  -- words that become the same when turned alike are the same
  pub turn_injective : (r c c' : ℕ) → r ≤ N → c < 2 ^ N → c' < 2 ^ N → rotate N r c ≡ rotate N r c' → c ≡ c'
  turn_injective r c c' h fit fit' e = sym (turned_on c fit) ∙ ap (rotate N (N - r)) e ∙ turned_on c' fit'
    where
      turned_on : (x : ℕ) → x < 2 ^ N → rotate N (N - r) (rotate N r x) ≡ x
      turned_on x fit =
          let all : N - r + r ≡ N = omega arith in
          rotate-rotate N (N - r) r x some ∙ ap (λ (y : ℕ). rotate N y x) all ∙ rotate-all N x fit
