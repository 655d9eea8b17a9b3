-- What `beginning` and `following` come to in each case.
-- Assumes nothing.
use Prim.Native.Nat.{ℕ, ◌+◌, ◌≤◌, ◌<◌}
use native.Mathlib.Omega.{arith}
use mathlib.Core.Path.{◌≡◌, sym, ◌∙◌}
use mathlib.Core.Bool.{not, cond}
use mathlib.Core.List.{List}
use lib.Dec.{T, leb, ltb, leb→le, lt→ltb, ltb→lt, not_T}
use Rattle.lists.proofs.Choices.{cond_true, cond_false}
use Rattle.bounds.specs.declared.Chain.{Chain}
use Rattle.bounds.specs.Model.Tables.{start_at, end_at, next_length, beginning, following}

pub leb_fails : (m n : ℕ) → n < m → T (not (leb m n))
leb_fails m n h = not_T (leb m n) (λ t. let k = leb→le m n t in absurd (omega arith))

pub ltb_fails : (m n : ℕ) → n ≤ m → T (not (ltb m n))
ltb_fails m n h = not_T (ltb m n) (λ t. let k = ltb→lt m n t in absurd (omega arith))

-- ---- the first event to look at

module _ (work : List ℕ) (at room : ℕ) (begun : Chain) where
  pub beginning_full : room < at → end_at work ≡ beginning work at room begun
  unfolding beginning
  beginning_full h =
      sym (cond_true (ltb room at) (end_at work) (next_length work begun.steps begun.budget 1) (lt→ltb room at h))

  pub beginning-found : (r : ℕ) → at ≤ room
      → r ≡ next_length work begun.steps begun.budget 1 → r ≡ beginning work at room begun
  unfolding beginning
  beginning-found r h e =
      e ∙ sym (cond_false (ltb room at) (end_at work) (next_length work begun.steps begun.budget 1) (ltb_fails room at h))

-- ---- the event to look at after another

module _ (work : List ℕ) (at room : ℕ) (begun : Chain) (l k : ℕ) where
  later : ℕ
  later = cond (ltb (k + 1) (start_at work (l + 1))) (k + 1) (next_length work begun.steps begun.budget (l + 1))

  pub following_full : room < at → end_at work ≡ following work at room begun l k
  unfolding following later
  following_full h = sym (cond_true (ltb room at) (end_at work) later (lt→ltb room at h))

  following-room : at ≤ room → later ≡ following work at room begun l k
  unfolding following later
  following-room h = sym (cond_false (ltb room at) (end_at work) later (ltb_fails room at h))

  pub following-next : at ≤ room → k + 1 < start_at work (l + 1) → k + 1 ≡ following work at room begun l k
  unfolding later
  following-next h g =
      sym (cond_true (ltb (k + 1) (start_at work (l + 1))) (k + 1)
      (next_length work begun.steps begun.budget (l + 1)) (lt→ltb _ _ g)) ∙ following-room h

  pub following_longer : (r : ℕ) → at ≤ room → start_at work (l + 1) ≤ k + 1
      → r ≡ next_length work begun.steps begun.budget (l + 1)
      → r ≡ following work at room begun l k
  unfolding later
  following_longer r h g e =
      e ∙ sym (cond_false (ltb (k + 1) (start_at work (l + 1))) (k + 1)
      (next_length work begun.steps begun.budget (l + 1)) (ltb_fails _ _ g)) ∙ following-room h
