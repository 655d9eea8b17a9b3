-- A chain begun stays small as events are joined to it: its inputs have as many bits as it has steps.
-- Assumes nothing.
use Prim.Native.Nat.{ℕ, suc, ◌+◌, ◌-◌, ◌*◌, ◌^◌, ◌≤◌, ◌<◌}
use native.Mathlib.Nat.{mul-le-mul_right, suc-mul, lt_of_lt_of_le}
use native.Mathlib.Omega.{arith}
use mathlib.Core.Path.{◌≡◌, sym, ap, subst}
use lib.Pow.{pow-add, pow_mono}
use Rattle.poly.specs.Word.{number}
use Rattle.events.specs.declared.Event.{Event}
use Rattle.paths.specs.Model.Joining.{first_or}
use Rattle.rotations.specs.Model.Put.{ShortToTurn}
use Rattle.bounds.specs.declared.Chain.{Chain}
use Rattle.chains.specs.Model.Chaining.{most_weight, word_of, extended, unbegun, Joinable, Unfinished}
use Rattle.chains.proofs.Found.{word-extended}

-- a chain that is not turned stays so
first_or_one : (first l : ℕ) → first ≡ 1 → first_or first l ≡ 1
unfolding first_or
first_or_one first l e = ap (λ (x : ℕ). first_or x l) e

-- inputs below, and inputs above them
joint_lt : (a x p l : ℕ) → a < 2 ^ p → x < 2 ^ l → a + x * 2 ^ p < 2 ^ (l + p)
joint_lt a x p l h g =
    let up : suc x * 2 ^ p ≤ 2 ^ l * 2 ^ p = mul-le-mul_right (2 ^ p) g in
    let e : suc x * 2 ^ p ≡ x * 2 ^ p + 2 ^ p = suc-mul x (2 ^ p) in
    let all : 2 ^ (l + p) ≡ 2 ^ l * 2 ^ p = pow-add 2 l p in
    omega arith

module _ (N : ℕ) (begun : Chain) (e : Event) (is : Unfinished N begun) (able : Joinable N e)
    (short : e.length ≤ begun.steps) where
  word_lt : number (extended N begun e).inputs < 2 ^ (N - (begun.steps - e.length))
  word_lt =
      let inside = is.within in
      let place : e.length + (N - begun.steps) ≡ N - (begun.steps - e.length) = omega arith in
      let small = joint_lt (number begun.inputs) (word_of e) (N - begun.steps) e.length is.word_small able.input_small in
      subst (λ (x : ℕ). x < 2 ^ (N - (begun.steps - e.length))) (sym (word-extended N begun e))
      (subst (λ (x : ℕ). number begun.inputs + word_of e * 2 ^ (N - begun.steps) < 2 ^ x) place small)

  pub whole_word_lt : number (extended N begun e).inputs < 2 ^ N
  whole_word_lt = lt_of_lt_of_le word_lt (pow_mono {i = N - (begun.steps - e.length)} {j = N} (omega arith))

  pub extended_short : ShortToTurn (extended N begun e).first N
  unfolding extended
  extended_short turned = is.short_to_turn (λ once. turned (first_or_one begun.first e.length once))

  pub extended_unfinished : e.length < begun.steps → Unfinished N (extended N begun e)
  unfolding extended
  extended_unfinished shorter =
      let inside = is.within in
      let light = is.light in
      record {
        some_left = omega arith;
        within = omega arith;
        short_to_turn = extended_short;
        light = omega arith;
        word_small = word_lt;
      }

pub unbegun_unfinished : (N first w : ℕ) → 1 ≤ N → ShortToTurn first N → w ≤ most_weight → Unfinished N (unbegun N first w)
unfolding unbegun
unbegun_unfinished N first w some short light =
    let z : 2 ^ (N - N) ≡ 1 = ap (λ (x : ℕ). 2 ^ x) (nothing_left N) in
    record { some_left = some; within = same N; short_to_turn = short; light = light; word_small = omega arith }
  where
    nothing_left : (x : ℕ) → x - x ≡ 0
    nothing_left x = omega arith

    same : (x : ℕ) → x ≤ x
    same x = omega arith
