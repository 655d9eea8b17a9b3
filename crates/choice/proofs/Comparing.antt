-- The loop over the candidates: what holds after each, by how it compares with the best so far.
-- Assumes nothing.
use Prim.Native.Nat.{ℕ, ◌+◌, ◌-◌, ◌*◌, ◌^◌, ◌≤◌, ◌<◌}
use native.Mathlib.Omega.{arith}
use mathlib.Core.Path.{◌≡◌, refl, sym, ap, ◌∙◌, subst}
use mathlib.Core.Bool.{Bool, true, false}
use mathlib.Core.List.{List}
use lib.Dec.{T}
use lib.ListN.{length, get_or, set}
use Rattle.undetected.specs.Model.Steps.{divided_counts, counted_from}
use Rattle.undetected.proofs.Counts.{length-divided_counts}
use Rattle.choice.specs.Choice.{fewer}
use Rattle.choice.specs.Model.Steps.{laid, dropped, offered_by, left_over, LeftAlive, ToCompare}
use Rattle.choice.proofs.Offered.{up, Up, first_is_up, none_before}
use Rattle.choice.proofs.Leader.{leader, leader_first, leader_down, leader_worse, leader_better, leader_level, leader_length}
use Rattle.choice.proofs.Leader.{Alive, alive_begin, alive_down, alive_worse, alive_better, alive_level}
use Rattle.choice.proofs.Remaining.{counts_of, best_counts, alive_end}
use Rattle.choice.proofs.Weighed.{Agree, agree_all, laid_itself, laid_at, laid_recounted}

-- of those offered, the best counts of the first k candidates over a table
abbrev pub best_of : ℕ → List Bool → ℕ → List ℕ → List ℕ → ℕ → ℕ → List ℕ
best_of m offered first table plain entries k = leader (counts_of m (divided_counts m table plain entries)) (up offered) first k

-- the first k candidates have been compared: the best counts stand in the undetected list, and the flags tell who has them
pub record Met (m entries : ℕ) (offered : List Bool) (first : ℕ) (table plain before after : List ℕ) (alive : List Bool) (k : ℕ) : Type 0 where
  pub listed : after ≡ laid (best_of m offered first table plain entries k) before
  pub flags : Alive (counts_of m (divided_counts m table plain entries)) (up offered) first k alive

-- of values that are the same
pub met_same : {m entries : ℕ} {offered : List Bool} {first : ℕ} {table plain before after after' : List ℕ} {alive alive' : List Bool} {k : ℕ}
    → after' ≡ after → alive' ≡ alive
    → Met m entries offered first table plain before after alive k → Met m entries offered first table plain before after' alive' k
met_same ea ef met = rw (ea, ef) met

module _ {entries m : ℕ} {offered : List Bool} {first : ℕ} {table plain before : List ℕ}
    (asked : ToCompare entries m offered first table plain before) where
  -- the counts of p, those of candidate k, and the best of the first k
  abbrev counts : ℕ → List ℕ
  counts p = divided_counts m table plain entries p

  abbrev mine : ℕ → List ℕ
  mine k = counts_of m (divided_counts m table plain entries) k

  abbrev best : ℕ → List ℕ
  best k = best_of m offered first table plain entries k

  abbrev room : entries ≤ length before
  room = asked.choose.counts

  counts_length : (p : ℕ) → length (counts p) ≡ entries
  counts_length p = length-divided_counts m p table plain entries

  sized : (k : ℕ) → length (mine k) ≡ entries
  sized k = counts_length (2 ^ m + 2 * k + 1)

  pub best-length : (k : ℕ) → length (best k) ≡ entries
  best-length k = leader_length mine (up offered) first entries sized k

  -- what holds after the first k
  abbrev After : List ℕ → List Bool → ℕ → Type 0
  After after alive k = Met m entries offered first table plain before after alive k

  -- the best counts are read from the undetected list
  pub met_limit : {k : ℕ} {after : List ℕ} {alive : List Bool} → After after alive k → (j : ℕ) → j < entries → get_or after j 0 ≡ get_or (best k) j 0
  met_limit {k} met j h = ap (λ (l : List ℕ). get_or l j 0) met.listed ∙ laid_at entries (best k) before (best-length k) room j h

  pub first_offered : Up offered (2 ^ (m - 1)) first
  first_offered = first_is_up offered (2 ^ (m - 1)) (asked.choose.some_offered.1, asked.choose.some_offered.2) asked.first_up

  none_earlier : (j : ℕ) → j < first → up offered j ≡ false
  none_earlier = none_before offered (2 ^ (m - 1)) (asked.choose.some_offered.1, asked.choose.some_offered.2) asked.first_up

  pub met_begin : After before offered (first + 1)
  met_begin =
      let begun : mine first ≡ best first = sym (leader_first mine (up offered) first first none_earlier) in
      record {
        listed =
            laid_itself entries (best (first + 1)) before (best-length (first + 1))
            (asked.first_counted ∙ begun ∙ sym (leader_level mine (up offered) first first begun));
        flags =
            alive_level mine (up offered) first entries sized first offered (alive_begin mine (up offered) first first offered none_earlier (λ j. refl)) begun;
      }

  -- candidate k is not offered
  pub met_down : {k : ℕ} {after : List ℕ} {alive : List Bool} → After after alive k → get_or alive k false ≡ false → After after alive (k + 1)
  met_down {k} {after} {alive} met e =
      let d : up offered k ≡ false = sym (met.flags.after k (omega arith)) ∙ e in
      record {
        listed = met.listed ∙ ap (λ (a : List ℕ). laid a before) (sym (leader_down mine (up offered) first k d));
        flags = alive_down mine (up offered) first entries sized k alive met.flags d;
      }

  -- candidate k is met
  module _ {k p : ℕ} {after : List ℕ} {alive : List Bool} (named : p ≡ 2 ^ m + 2 * k + 1) (met : After after alive k) where
    same : counts p ≡ mine k
    same = ap counts named

    pub met_worse : T (fewer (best k) (counts p)) → After after (set alive k false) (k + 1)
    met_worse t =
        let u = subst (λ (a : List ℕ). T (fewer (best k) a)) same t in
        record {
          listed = met.listed ∙ ap (λ (a : List ℕ). laid a before) (sym (leader_worse mine (up offered) first k u));
          flags = alive_worse mine (up offered) first entries sized k alive met.flags u;
        }

    pub met_better : get_or alive k false ≡ true → T (fewer (counts p) (best k)) → (j : ℕ) → j ≤ entries → Agree j (counts p) (best k)
        → {alive' : List Bool} → alive' ≡ dropped k alive → {after' : List ℕ} → after' ≡ counted_from m p table plain j entries after
        → After after' alive' (k + 1)
    met_better offer t j h agree ea el =
        let is_up : up offered k ≡ true = sym (met.flags.after k (omega arith)) ∙ offer in
        let u = subst (λ (a : List ℕ). T (fewer a (best k))) same t in
        record {
          listed =
              el ∙ ap (counted_from m p table plain j entries) met.listed
              ∙ laid_recounted entries (best k) before (best-length k) room m p table plain j h agree
              ∙ ap (λ (a : List ℕ). laid a before) (same ∙ sym (leader_better mine (up offered) first k is_up u));
          flags = subst (Alive mine (up offered) first (k + 1)) (sym ea) (alive_better mine (up offered) first entries sized k alive met.flags is_up u);
        }

    pub met_level : Agree entries (counts p) (best k) → After after alive (k + 1)
    met_level agree =
        let e : mine k ≡ best k = sym same ∙ agree_all entries (counts p) (best k) (counts_length p) (best-length k) agree in
        record {
          listed = met.listed ∙ ap (λ (a : List ℕ). laid a before) (sym (leader_level mine (up offered) first k e));
          flags = alive_level mine (up offered) first entries sized k alive met.flags e;
        }

  pub met_end : {k : ℕ} {after : List ℕ} {alive : List Bool} → k ≡ 2 ^ (m - 1) → After after alive k
      → LeftAlive m entries (offered_by m offered) table plain before after alive
  unfolding left_over
  met_end {k} {after} {alive} e met = (
    alive_end m counts offered entries counts_length first first_offered alive
        (subst (λ (i : ℕ). Alive mine (up offered) first i alive) e met.flags),
    met.listed
        ∙ ap (λ (a : List ℕ). laid a before)
        (ap (leader mine (up offered) first) e ∙ sym (best_counts m counts offered entries counts_length first first_offered)),
  )
