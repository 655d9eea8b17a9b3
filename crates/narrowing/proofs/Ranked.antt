-- The numbers that the code keeps are the ranks: of no length (`ranked_none`), of one more (`ranked_more`), and those kept are the candidates that narrowing
-- leaves (`kept_narrowed`).
-- Assumes nothing.
use Prim.Native.Nat.{ℕ, ◌+◌, ◌-◌, ◌*◌, ◌^◌, ◌≤◌, ◌<◌}
use native.Mathlib.Nat.{pow-succ', pow-le-pow_right}
use native.Mathlib.Omega.{arith}
use mathlib.Core.Path.{◌≡◌, refl, sym, ap, ap₂, ◌∙◌, subst, subst₂}
use mathlib.Core.Bool.{Bool, false}
use mathlib.Core.List.{List, [], ◌∷◌, map}
use lib.Dec.{leb}
use lib.ListN.{length, get_or}
use Rattle.lists.specs.Lists.{up_from, all}
use Rattle.lists.proofs.Filters.{filter_cong_on, filter_map, all-map-on}
use Rattle.lists.proofs.Lengths.{get_or_fill}
use Rattle.lists.proofs.Member.{up_from_bounds}
use Rattle.order.specs.Order.{Order, with_length}
use Rattle.undetected.specs.Undetected.{undetected_counts}
use Rattle.undetected.specs.FirstUndetected.{first_above0, first_undetected}
use Rattle.undetected.specs.Model.Steps.{divided_counts, Readable}
use Rattle.choice.specs.Choice.{candidates}
use Rattle.choice.specs.Model.Steps.{alive_below, offered_by, CheckDegree}
use Rattle.narrowing.specs.Narrowed.{largest, narrowed}
use Rattle.narrowing.specs.Model.Firsts.{rank, Ranked, NoFirsts, Added, Kept, ToAdd}
use Rattle.narrowing.specs.declared.Firsts.{Firsts}
use Rattle.narrowing.proofs.Rank.{rank_below, narrowed_by_rank}

module _ (o : Order) where
  pub ranked_none : {r : Firsts} → NoFirsts r → Ranked o [] r
  unfolding rank
  ranked_none none = record {
    worth = none.0;
    each = λ k h. ap (λ (l : List ℕ). get_or l k 0) none.1 ∙ get_or_fill 0 2048 k;
  }

  -- the order's own length is not looked at
  rank-any : (N : ℕ) (Ns : List ℕ) (p : ℕ) → rank o Ns p ≡ rank (with_length N o) Ns p
  unfolding rank with_length
  rank-any N [] p = refl
  rank-any N (M ∷ Ns) p = ap (λ (r : ℕ). first_undetected (with_length M o) p * 128 ^ length Ns + r) (rank-any N Ns p)

  pub ranked_any : (N : ℕ) {Ns : List ℕ} {f : Firsts} → Ranked o Ns f → Ranked (with_length N o) Ns f
  unfolding with_length
  ranked_any N {Ns} ranked = record { worth = ranked.worth; each = λ k h. ranked.each k h ∙ rank-any N Ns (2 ^ o.m + 2 * k + 1) }

  pub ranked_to_add : {Ns : List ℕ} {bits : ℕ} {table plain : List ℕ} {f : Firsts} → Ranked o Ns f → length Ns ≤ 7
      → Readable bits (o.d - 1) table plain → CheckDegree o.m → 1 ≤ o.d → o.d ≤ 64 → ToAdd bits (o.d - 1) o.m table plain f
  ranked_to_add {Ns} ranked seven readable degree some-d few = record {
    readable = readable;
    firsts = record {
      degree = degree;
      few = omega arith;
      seven = subst (λ (x : ℕ). x ≤ 128 ^ 7) (sym ranked.worth) (pow-le-pow_right (omega arith) seven);
      below = λ k h. subst₂ ◌<◌ (sym (ranked.each k h)) (sym ranked.worth) (rank_below o some-d few Ns _);
    };
  }

  -- the counts over the table are the undetected counts at this length
  pub ranked_more : {N : ℕ} {Ns : List ℕ} {table plain : List ℕ} {f g : Firsts} → Ranked o Ns f
      → ((p : ℕ) → divided_counts o.m table plain (o.d - 1) p ≡ undetected_counts (with_length N o) p)
      → Added o.m (o.d - 1) table plain f g → Ranked o (N ∷ Ns) g
  unfolding rank first_undetected
  ranked_more {N} {Ns} ranked counted added = record {
    worth = omega (arith, added.worth, ranked.worth, pow-succ' 128 (length Ns));
    each = λ k h.
        added.each k h
        ∙ ap₂ ◌+◌ (ap₂ ◌*◌ (ap (first_above0 1) (counted (2 ^ o.m + 2 * k + 1))) ranked.worth) (ranked.each k h);
  }

  -- the candidates by their places
  abbrev name : ℕ → ℕ
  name k = 2 ^ o.m + 2 * k + 1

  abbrev places : List ℕ
  places = up_from 0 (2 ^ (o.m - 1))

  module _ {Ns : List ℕ} {f : Firsts} {r : List Bool} (ranked : Ranked o Ns f) (kept : Kept o.m f r) where
    -- the flag of candidate k is up where nobody's rank is larger
    flag : (k : ℕ) → k < 2 ^ (o.m - 1) → get_or r k false ≡ all (λ q. leb (rank o Ns q) (rank o Ns (name k))) (map name places)
    flag k h =
        kept.each k h
        ∙ all-map-on (λ j. leb (get_or f.ranks j 0) (get_or f.ranks k 0)) (λ q. leb (rank o Ns q) (rank o Ns (name k))) name places
        (λ j m. ap₂ leb (ranked.each j (omega (arith, (up_from_bounds 0 (2 ^ (o.m - 1)) m).1))) (ranked.each k h))

    pub kept_narrowed : 1 ≤ o.d → o.d ≤ 64 → offered_by o.m r ≡ narrowed o Ns (candidates o.m)
    unfolding offered_by alive_below candidates largest
    kept_narrowed some-d few =
        ap (map name) (filter_cong_on (λ k. get_or r k false) _ places (λ k m. flag k (omega (arith, (up_from_bounds 0 (2 ^ (o.m - 1)) m).1))))
        ∙ sym (filter_map (λ p. all (λ q. leb (rank o Ns q) (rank o Ns p)) (map name places)) name places)
        ∙ sym (narrowed_by_rank o some-d few Ns (map name places))
