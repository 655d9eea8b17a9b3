-- A count that stops at a limit, and the loop that counts the words that pass every parity check.
-- Assumes nothing.
use Prim.Native.Nat.{ℕ, ◌+◌, ◌-◌, ◌*◌, ◌≤◌, ◌<◌}
use native.Mathlib.Omega.{arith}
use mathlib.Core.Path.{◌≡◌, sym, ap, ◌∙◌}
use mathlib.Core.Bool.{Bool, true, false, cond}
use mathlib.Core.List.{List}
use borrow.Author.Tests.{le-leb, lt-leb}
use lib.ListN.{get_or}
use Rattle.lists.proofs.Filters.{between, between_none, between_next, between_mono, between_le}
use Rattle.parity.specs.Model.Parity.{all_even}
use Rattle.undetected.specs.Model.Steps.{even_between, up_to}

-- ---- up to a limit

pub up_to_within : (limit c : ℕ) → c ≤ limit → c ≡ up_to limit c
unfolding up_to
up_to_within limit c h = sym (ap (λ (b : Bool). cond b c (limit + 1)) (le-leb c limit h))

pub up_to_past : (limit c : ℕ) → limit < c → limit + 1 ≡ up_to limit c
unfolding up_to
up_to_past limit c h = sym (ap (λ (b : Bool). cond b c (limit + 1)) (lt-leb c limit h))

-- ---- the loop

module _ (rows : List ℕ) (m : ℕ) (table : List ℕ) where
  -- the word at place k passes every check
  abbrev pub passes_all : ℕ → Bool
  passes_all k = all_even rows m (get_or table (2 * k) 0) (get_or table (2 * k + 1) 0)

  pub even_none : (a : ℕ) → 0 ≡ even_between rows m table a a
  unfolding even_between
  even_none a = sym (between_none passes_all a)

  even-next : (a k : ℕ) (b : Bool) → a ≤ k → passes_all k ≡ b
      → even_between rows m table a (k + 1) ≡ even_between rows m table a k + cond b 1 0
  unfolding even_between
  even-next a k b h e = between_next passes_all a k h ∙ ap (λ (x : Bool). between passes_all a k + cond x 1 0) e

  pub even-passes : (a k found : ℕ) → a ≤ k → found ≡ even_between rows m table a k → true ≡ passes_all k
      → found + 1 ≡ even_between rows m table a (k + 1)
  even-passes a k found h e t = omega (arith, even-next a k true h (sym t))

  pub even_fails : (a k found : ℕ) → a ≤ k → found ≡ even_between rows m table a k → false ≡ passes_all k
      → found ≡ even_between rows m table a (k + 1)
  even_fails a k found h e t = omega (arith, even-next a k false h (sym t))

  pub even_le : (a b : ℕ) → even_between rows m table a b ≤ b - a
  unfolding even_between
  even_le a b = between_le passes_all a b

  even_rises : (a k b : ℕ) → a ≤ k → k ≤ b → even_between rows m table a k ≤ even_between rows m table a b
  unfolding even_between
  even_rises a k b h l = between_mono passes_all a k b h l

  -- one more than the limit, and no place more can change that
  pub even_past : (a k b found limit : ℕ) → a ≤ k → k < b → found ≡ even_between rows m table a k → found ≤ limit
      → true ≡ passes_all k → limit < found + 1
      → found + 1 ≡ up_to limit (even_between rows m table a b)
  even_past a k b found limit h l e small t past =
      let n = even-passes a k found h e t in
      let r = even_rises a (k + 1) b (omega arith) (omega arith) in
      let s : found + 1 ≡ limit + 1 = omega arith in
      s ∙ up_to_past limit (even_between rows m table a b) (omega arith)

  pub even-all : (a k b found limit : ℕ) → k ≡ b → found ≡ even_between rows m table a k → found ≤ limit
      → found ≡ up_to limit (even_between rows m table a b)
  even-all a k b found limit same e small =
      let all : found ≡ even_between rows m table a b = e ∙ ap (even_between rows m table a) same in
      all ∙ up_to_within limit (even_between rows m table a b) (omega arith)
