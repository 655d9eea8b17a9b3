-- What the code keeps: the first undetected weights of a candidate at several lengths as one number, so that narrowing length by length keeps just those
-- whose number is largest (`narrowed_by_rank`, proofs/Rank.antt). Lengths are listed from the shortest to the longest, so each new one goes on top.
-- Assumes nothing.
use Rattle.std.specs.Prelude.{ℕ, ◌+◌, ◌-◌, ◌*◌, ◌^◌, ◌≤◌, ◌<◌, ◌≡◌, Bool, false, ◌⊎◌, List, [], ◌∷◌, leb, length, get_or, replicate}
use Rattle.lists.specs.Lists.{up_from, all}
use Rattle.order.specs.Order.{Order, with_length}
use Rattle.undetected.specs.FirstUndetected.{first_above0, first_undetected}
use Rattle.undetected.specs.Model.Steps.{divided_counts, Readable}
use Rattle.choice.specs.Model.Steps.{CheckDegree}
use Rattle.narrowing.specs.declared.Firsts.{Firsts}

-- the first undetected weights at these lengths as one number in base 128, that of the first length highest
unfoldable pub rank : Order → List ℕ → ℕ → ℕ
rank o [] p = 0
rank o (N ∷ Ns) p = first_undetected (with_length N o) p * 128 ^ length Ns + rank o Ns p

-- the ranks of the candidates, candidate k at place k, and what the next weight is worth
pub record Ranked (o : Order) (Ns : List ℕ) (f : Firsts) : Type 0 where
  pub worth : f.scale ≡ 128 ^ length Ns
  pub each : (k : ℕ) → k < 2 ^ (o.m - 1) → get_or f.ranks k 0 ≡ rank o Ns (2 ^ o.m + 2 * k + 1)

-- ---- what is done

-- of no length
abbrev pub NoFirsts : Firsts → Type 0
NoFirsts r = (r.scale ≡ 1) × (r.ranks ≡ replicate 2048 0)

-- the first weights over a table, on top of those before
pub record Added (m entries : ℕ) (table plain : List ℕ) (before after : Firsts) : Type 0 where
  pub worth : after.scale ≡ before.scale * 128
  pub each : (k : ℕ) → k < 2 ^ (m - 1)
      → get_or after.ranks k 0 ≡ first_above0 1 (divided_counts m table plain entries (2 ^ m + 2 * k + 1)) * before.scale + get_or before.ranks k 0

-- no rank below place n is larger, and one is this, or it is 0
pub record LargestBelow (ranks : List ℕ) (n r : ℕ) : Type 0 where
  pub none_larger : (k : ℕ) → k < n → get_or ranks k 0 ≤ r
  pub reached : (r ≡ 0) ⊎ ((k : ℕ) × (k < n) × (get_or ranks k 0 ≡ r))

-- the flags of those whose rank is largest are up
pub record Kept (m : ℕ) (f : Firsts) (r : List Bool) : Type 0 where
  pub each : (k : ℕ) → k < 2 ^ (m - 1)
      → get_or r k false ≡ all (λ j. leb (get_or f.ranks j 0) (get_or f.ranks k 0)) (up_from 0 (2 ^ (m - 1)))

-- ---- what is asked

-- the candidates of degree m, over so many entries. Eight weights have room in 64 bits, so seven may be there already
pub record ToAddFirsts (entries m : ℕ) (f : Firsts) : Type 0 where
  pub degree : CheckDegree m
  pub few : entries ≤ 63
  pub seven : f.scale ≤ 128 ^ 7
  pub below : (k : ℕ) → k < 2 ^ (m - 1) → get_or f.ranks k 0 < f.scale

-- and a table that can be read
pub record ToAdd (bits entries m : ℕ) (table plain : List ℕ) (f : Firsts) : Type 0 where
  pub readable : Readable bits entries table plain
  pub firsts : ToAddFirsts entries m f
