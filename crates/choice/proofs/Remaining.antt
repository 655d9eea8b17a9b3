-- When every candidate has been met, the flags that are up are those of the candidates offered that none of these betters, and the best counts are theirs.
-- Assumes nothing.
use Prim.Native.Nat.{ℕ, ◌+◌, ◌-◌, ◌*◌, ◌^◌, ◌<◌}
use native.Mathlib.Nat.{le_refl}
use native.Mathlib.Omega.{arith}
use mathlib.Core.Path.{◌≡◌, sym, ap, ◌∙◌, subst}
use mathlib.Core.Bool.{Bool, not, ◌&&◌}
use mathlib.Core.Logic.{◌⊎◌, ⊎_elim}
use mathlib.Core.List.{List, map}
use lib.Dec.{T, T_not, not_T}
use lib.ListN.{length}
use Rattle.lists.specs.Lists.{up_from, filter}
use Rattle.lists.proofs.Tests.{true_of_T, false_of_T_not}
use Rattle.lists.proofs.Member.{up_from_bounds}
use Rattle.lists.proofs.Filters.{filter_cong_on, filter_map}
use Rattle.choice.specs.Choice.{fewer, unbettered, best, first_of}
use Rattle.choice.specs.Model.Steps.{alive_below, offered_by}
use Rattle.choice.proofs.Fewer.{not_itself}
use Rattle.choice.proofs.Best.{first_of_member, unbettered⇔unbeaten, of_best, best_nonempty}
use Rattle.choice.proofs.Offered.{filter-filter, up, Up, offered_number, offered_member}
use Rattle.choice.proofs.Leader.{leader, Alive, Among, leader_member, leader_least, level_or_worse, up_or_down}

module _ (m : ℕ) (counts : ℕ → List ℕ) where
  -- the counts of candidate k
  abbrev pub counts_of : ℕ → List ℕ
  counts_of k = counts (2 ^ m + 2 * k + 1)

  module _ (flags : List Bool) where
    -- those that are offered, and whether p is bettered by none of them
    abbrev offered : List ℕ
    offered = offered_by m flags

    abbrev left : ℕ → Bool
    left p = unbettered counts offered p

    -- ---- who is bettered by none

    of_unbettered : (p : ℕ) → T (left p) → (j : ℕ) → Up flags (2 ^ (m - 1)) j → T (not (fewer (counts_of j) (counts p)))
    of_unbettered p t j u = (unbettered⇔unbeaten counts offered p).0 t (2 ^ m + 2 * j + 1) (offered_member m flags u)

    in_unbettered : (p : ℕ) → ((j : ℕ) → Up flags (2 ^ (m - 1)) j → T (not (fewer (counts_of j) (counts p)))) → T (left p)
    in_unbettered p none =
        (unbettered⇔unbeaten counts offered p).1
        (λ q member.
        let h = offered_number m flags q member in
        subst (λ (x : ℕ). T (not (fewer (counts x) (counts p)))) h.named (none h.k h.is_up))

    module _ (entries : ℕ) (sized : (p : ℕ) → length (counts p) ≡ entries) (first : ℕ) (some : Up flags (2 ^ (m - 1)) first) where
      -- the best of all that are offered
      abbrev last : List ℕ
      last = leader counts_of (up flags) first (2 ^ (m - 1))

      -- one of them has it
      last_member : Among counts_of (up flags) (2 ^ (m - 1)) last
      last_member = leader_member counts_of (up flags) first (2 ^ (m - 1)) some.0 some.1 (2 ^ (m - 1)) (le_refl (2 ^ (m - 1)))

      module _ (j : ℕ) (u : Up flags (2 ^ (m - 1)) j) where
        level_unbettered : last ≡ counts_of j → T (left (2 ^ m + 2 * j + 1))
        level_unbettered e =
            in_unbettered (2 ^ m + 2 * j + 1)
            (λ i v.
            subst (λ (a : List ℕ). T (not (fewer (counts_of i) a))) e (leader_least counts_of (up flags) first (2 ^ (m - 1)) i v.0 v.1))

        worse_bettered : T (fewer last (counts_of j)) → T (left (2 ^ m + 2 * j + 1)) → ⊥
        worse_bettered t w =
            let i = last_member in
            T_not (fewer (counts_of i.place) (counts_of j)) (of_unbettered (2 ^ m + 2 * j + 1) w i.place (i.below, i.is_up))
            (subst (λ (a : List ℕ). T (fewer a (counts_of j))) i.same t)

        -- level with the best, or worse
        level_or_bettered : (last ≡ counts_of j) ⊎ T (fewer last (counts_of j))
        level_or_bettered = level_or_worse counts_of (up flags) first entries (λ i. sized (2 ^ m + 2 * i + 1)) (2 ^ (m - 1)) j u.0 u.1

        level_flag : not (fewer last (counts_of j)) ≡ left (2 ^ m + 2 * j + 1)
        level_flag =
            ⊎_elim
            (λ e.
            true_of_T (not (fewer last (counts_of j))) (subst (λ (a : List ℕ). T (not (fewer last a))) e (not_itself last))
            ∙ sym (true_of_T (left (2 ^ m + 2 * j + 1)) (level_unbettered e)))
            (λ t.
            ap not (true_of_T (fewer last (counts_of j)) t)
            ∙ sym (false_of_T_not (left (2 ^ m + 2 * j + 1)) (not_T (left (2 ^ m + 2 * j + 1)) (worse_bettered t))))
            level_or_bettered

      -- ---- the first that is left has the best counts

      pub best_counts : counts (first_of (best counts offered)) ≡ last
      best_counts =
          let left_first = first_of_member (best counts offered) (best_nonempty counts offered (offered_member m flags some)).1 in
          let h = of_best counts offered (first_of (best counts offered)) left_first in
          let j = offered_number m flags (first_of (best counts offered)) h.0 in
          let stands : T (left (2 ^ m + 2 * j.k + 1)) =
          subst (λ (p : ℕ). T (left p)) (sym j.named) ((unbettered⇔unbeaten counts offered (first_of (best counts offered))).1 h.1) in
          ap counts (sym j.named)
          ∙ ⊎_elim sym (λ t. absurd (worse_bettered j.k j.is_up t stands)) (level_or_bettered j.k j.is_up)

      -- ---- the flags in the end

      module _ (alive : List Bool) (h : Alive counts_of (up flags) first (2 ^ (m - 1)) alive) where
        flag_at : (j : ℕ) → j < 2 ^ (m - 1) → up alive j ≡ (up flags j && left (2 ^ m + 2 * j + 1))
        flag_at j below =
            h.before j below
            ∙ ⊎_elim (λ u. ap (λ (b : Bool). up flags j && b) (level_flag j (below, u)))
            (λ d.
            let both-down : (b c : Bool) → (up flags j && b) ≡ (up flags j && c) = λ b c. rw d in
            both-down (not (fewer last (counts_of j))) (left (2 ^ m + 2 * j + 1)))
            (up_or_down (up flags j))

        -- those that are left are alive
        pub alive_end : offered_by m alive ≡ best counts offered
        unfolding best alive_below offered_by
        alive_end =
            let all : List ℕ = up_from 0 (2 ^ (m - 1)) in
            let name : ℕ → ℕ = λ k. 2 ^ m + 2 * k + 1 in
            ap (map name)
            (filter_cong_on (up alive) (λ k. up flags k && left (name k)) all
            (λ k member. let b = up_from_bounds 0 (2 ^ (m - 1)) member in flag_at k (omega arith))
            ∙ sym (filter-filter (up flags) (λ k. left (name k)) all))
            ∙ sym (filter_map left name (filter (up flags) all))
