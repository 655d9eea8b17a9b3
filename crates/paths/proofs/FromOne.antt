-- The words of the weights that are counted, 1 to d - 1, are all paths, in the same order (`paths_from_1`): an accepted order has none of weight 0
-- (`none_of_weight_0`, by `no_zero_word`). So the plain counts are those of all weights below d without the first, which is 0 (`plain_from_0`), and they
-- add up to the number of paths.
-- Assumes nothing.
use Prim.Native.Nat.{ℕ, zero, suc, ◌-◌, ◌≤◌}
use native.Mathlib.Omega.{arith}
use mathlib.Core.Path.{◌≡◌, refl, sym, ap, ◌∙◌}
use mathlib.Core.List.{List, [], ◌∷◌, ◌++◌, map, flat_map}
use lib.ListN.{length}
use Rattle.lists.specs.Lists.{up_from}
use Rattle.lists.proofs.Blocks.{nil_of_no_member}
use Rattle.lists.proofs.Lengths.{total, length_flat_map}
use Rattle.order.specs.Order.{Order}
use Rattle.order.specs.Model.Accepted.{AcceptedCode}
use Rattle.code.proofs.NoZero.{accepted_weighs}
use Rattle.paths.specs.Paths.{words_of_weight, paths, weights, plain_counts}
use Rattle.paths.proofs.Listed.{mem_words, of_words_of_weight, plain_count_is_part}

pub none_of_weight_0 : (o : Order) → AcceptedCode o → words_of_weight o 0 ≡ []
none_of_weight_0 o acc =
    nil_of_no_member (words_of_weight o 0)
    (λ u m.
    let h = of_words_of_weight o 0 u m in
    let word = (mem_words o.N u).0 h.0 in
    let some = accepted_weighs o acc u word.0 word.1 in
    let none = h.1 in
    omega arith)

module _ (o : Order) (none : words_of_weight o 0 ≡ []) where
  pub paths_from_1 : flat_map (words_of_weight o) (weights o) ≡ paths o
  unfolding paths weights up_from flat_map
  paths_from_1 = by o.d
    where
      suc_sub_one : (d : ℕ) → suc d - 1 ≡ d
      suc_sub_one d = omega arith

      by : (d : ℕ) → flat_map (words_of_weight o) (up_from 1 (d - 1)) ≡ flat_map (words_of_weight o) (up_from 0 d)
      by zero = refl
      by (suc d) =
          ap (λ (k : ℕ). flat_map (words_of_weight o) (up_from 1 k)) (suc_sub_one d) ∙ sym (ap (λ (l : List ℕ). l ++ flat_map (words_of_weight o) (up_from 1 d)) none)

  pub plain_from_0 : 1 ≤ o.d → map (λ w. length (words_of_weight o w)) (up_from 0 o.d) ≡ 0 ∷ plain_counts o
  unfolding weights up_from
  plain_from_0 some =
      ap (λ (d : ℕ). map part (up_from 0 d)) one_more ∙ ap (λ (x : ℕ). x ∷ map part (up_from 1 (o.d - 1))) (ap length none)
      ∙ ap (λ (l : List ℕ). 0 ∷ l) (sym (plain_count_is_part o))
    where
      part : ℕ → ℕ
      part w = length (words_of_weight o w)

      one_more : o.d ≡ suc (o.d - 1)
      one_more = omega arith

  pub plain_counts_sum : total (plain_counts o) ≡ length (paths o)
  plain_counts_sum = ap total (plain_count_is_part o) ∙ sym (length_flat_map (words_of_weight o) (weights o)) ∙ ap length paths_from_1
