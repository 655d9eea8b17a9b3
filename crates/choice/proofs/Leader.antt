-- The best counts so far, when one candidate after another of those that are offered is compared with them. They are the counts of one that is offered, and no
-- other met has fewer. A flag that says who is level with them says in the end who is bettered by none.
-- Assumes nothing.
use Prim.Native.Nat.{ℕ, zero, suc, ◌+◌, ◌≤◌, ◌<◌}
use native.Mathlib.Nat.{le_of_suc-le-suc, eq-or-lt_of_le}
use native.Mathlib.Numerals.{add-one}
use native.Mathlib.Omega.{arith}
use mathlib.Core.Path.{◌≡◌, refl, sym, ap, ◌∙◌, subst}
use mathlib.Core.Bool.{Bool, true, false, not, cond, ◌&&◌}
use mathlib.Core.Logic.{◌⊎◌, inl, inr, ⊎_elim}
use mathlib.Core.List.{List}
use borrow.Author.Count.{below_more}
use lib.Dec.{T, T_not, not_T}
use lib.ListN.{length, get_or, set}
use lib.Seq.{get_or-set_other}
use Rattle.lists.proofs.Tests.{passes_or_fails, true_of_T, and_yes, and_no}
use Rattle.choice.specs.Choice.{fewer}
use Rattle.choice.specs.Model.Steps.{dropped}
use Rattle.choice.proofs.Fewer.{not_itself, fewer_transitive, fewer_asymmetric, fewer-total}
use Rattle.choice.proofs.Flags.{put_down_at, dropped_before, dropped_after}

-- the best of those before k that are up, to begin with that of the first
unfoldable pub leader : (ℕ → List ℕ) → (ℕ → Bool) → (first k : ℕ) → List ℕ
leader f up first zero = f first
leader f up first (suc k) = cond (up k && fewer (f k) (leader f up first k)) (f k) (leader f up first k)

-- of those that are up, the flags before k stay up where one is level with the best so far, and all flags from k on
pub record Alive (f : ℕ → List ℕ) (up : ℕ → Bool) (first k : ℕ) (alive : List Bool) : Type 0 where
  pub before : (j : ℕ) → j < k → get_or alive j false ≡ (up j && not (fewer (leader f up first k) (f j)))
  pub after : (j : ℕ) → k ≤ j → get_or alive j false ≡ up j

-- one of the first n that is up has the counts a
pub record Among (f : ℕ → List ℕ) (up : ℕ → Bool) (n : ℕ) (a : List ℕ) : Type 0 where
  pub place : ℕ
  pub below : place < n
  pub is_up : up place ≡ true
  pub same : a ≡ f place

-- what holds below k and at k
below_suc : (P : ℕ → Type 0) (k : ℕ) → ((j : ℕ) → j < k → P j) → P k → (j : ℕ) → j < suc k → P j
below_suc P k below here j h = ⊎_elim (λ e. subst P (sym e) here) (below j) (eq-or-lt_of_le (le_of_suc-le-suc h))

-- a flag u of one that fails a test, of one that is bettered, and of one that is not
fails_down : (u b : Bool) → T (not b) → (u && b) ≡ false
fails_down true true n = absurd n
fails_down true false n = refl
fails_down false b n = refl

bettered_down : (u b : Bool) → T b → false ≡ (u && not b)
bettered_down true true t = refl
bettered_down true false t = absurd t
bettered_down false b t = refl

level_stays : (u b : Bool) → T (not b) → u ≡ (u && not b)
level_stays true true n = absurd n
level_stays true false n = refl
level_stays false b n = refl

pub up_or_down : (b : Bool) → (b ≡ true) ⊎ (b ≡ false)
up_or_down true = inl refl
up_or_down false = inr refl

module _ (f : ℕ → List ℕ) (up : ℕ → Bool) (first : ℕ) where
  abbrev lead : ℕ → List ℕ
  lead k = leader f up first k

  -- ---- one more is met

  leader_by : (k : ℕ) (b : Bool) → (up k && fewer (f k) (lead k)) ≡ b → lead (k + 1) ≡ cond b (f k) (lead k)
  unfolding leader
  leader_by k b e = ap lead (add-one k) ∙ ap (λ (c : Bool). cond c (f k) (lead k)) e

  pub leader_down : (k : ℕ) → up k ≡ false → lead (k + 1) ≡ lead k
  leader_down k e = leader_by k false (sym (and_no (up k) (fewer (f k) (lead k)) e))

  leader_kept : (k : ℕ) → T (not (fewer (f k) (lead k))) → lead (k + 1) ≡ lead k
  leader_kept k h = leader_by k false (fails_down (up k) (fewer (f k) (lead k)) h)

  pub leader_worse : (k : ℕ) → T (fewer (lead k) (f k)) → lead (k + 1) ≡ lead k
  leader_worse k t = leader_kept k (not_T (fewer (f k) (lead k)) (fewer_asymmetric (lead k) (f k) t))

  pub leader_better : (k : ℕ) → up k ≡ true → T (fewer (f k) (lead k)) → lead (k + 1) ≡ f k
  leader_better k e t = leader_by k true (sym (and_yes (up k) (fewer (f k) (lead k)) e) ∙ true_of_T (fewer (f k) (lead k)) t)

  pub leader_level : (k : ℕ) → f k ≡ lead k → lead (k + 1) ≡ lead k
  leader_level k e = leader_kept k (subst (λ (a : List ℕ). T (not (fewer (f k) a))) e (not_itself (f k)))

  -- while none is up
  pub leader_first : (k : ℕ) → ((j : ℕ) → j < k → up j ≡ false) → lead k ≡ f first
  unfolding leader
  leader_first zero none = refl
  leader_first (suc k) none =
      ap lead (sym (add-one k)) ∙ leader_down k (none k (omega arith)) ∙ leader_first k (λ j h. none j (omega arith))

  -- how the best of the first k + 1 comes from that of the first k
  leader_step : (P : List ℕ → Type 0) (k : ℕ) → (up k ≡ false → P (lead k)) → (T (not (fewer (f k) (lead k))) → P (lead k))
      → (up k ≡ true → T (fewer (f k) (lead k)) → P (f k)) → P (lead (suc k))
  leader_step P k down kept new =
      subst (λ (i : ℕ). P (lead i)) (add-one k)
      (⊎_elim
      (λ u.
      ⊎_elim (λ t. subst P (sym (leader_better k u t)) (new u t)) (λ n. subst P (sym (leader_kept k n)) (kept n)) (passes_or_fails (fewer (f k) (lead k))))
      (λ d. subst P (sym (leader_down k d)) (down d))
      (up_or_down (up k)))

  -- ---- one of those that are up

  pub leader_member : (n : ℕ) → first < n → up first ≡ true → (k : ℕ) → k ≤ n → Among f up n (lead k)
  unfolding leader
  leader_member n below is_up zero h = record { place = first; below = below; is_up = is_up; same = refl }
  leader_member n below is_up (suc k) h =
      let so_far = leader_member n below is_up k (omega arith) in
      leader_step (Among f up n) k (λ d. so_far) (λ w. so_far) (λ u t. record { place = k; below = omega arith; is_up = u; same = refl })

  -- ---- no other has fewer

  -- none before k that is up has fewer than a
  abbrev Least : ℕ → List ℕ → Type 0
  Least k a = (j : ℕ) → j < k → up j ≡ true → T (not (fewer (f j) a))

  least_new : (k : ℕ) → Least k (lead k) → T (fewer (f k) (lead k)) → Least (suc k) (f k)
  least_new k least t =
      below_suc (λ j. up j ≡ true → T (not (fewer (f j) (f k)))) k
      (λ j h u. not_T (fewer (f j) (f k)) (λ b. T_not (fewer (f j) (lead k)) (least j h u) (fewer_transitive (f j) (f k) (lead k) b t)))
      (λ u. not_itself (f k))

  pub leader_least : (k : ℕ) → Least k (lead k)
  leader_least zero = λ j h u. absurd (omega arith)
  leader_least (suc k) =
      let least : Least k (lead k) = leader_least k in
      let more = below_suc (λ j. up j ≡ true → T (not (fewer (f j) (lead k)))) k least in
      leader_step (Least (suc k)) k (λ d. more (λ u. absurd (subst T (sym u ∙ d) tt))) (λ n. more (λ u. n)) (λ u t. least_new k least t)

  -- flags as they come, before the first that is up
  pub alive_begin : (k : ℕ) (alive : List Bool) → ((j : ℕ) → j < k → up j ≡ false) → ((j : ℕ) → get_or alive j false ≡ up j) → Alive f up first k alive
  alive_begin k alive none same = record { before = λ j h. same j ∙ none j h ∙ and_no (up j) _ (none j h); after = λ j h. same j }

  module _ (entries : ℕ) (sized : (j : ℕ) → length (f j) ≡ entries) where
    pub leader_length : (k : ℕ) → length (lead k) ≡ entries
    unfolding leader
    leader_length zero = sized first
    leader_length (suc k) =
        let so_far = leader_length k in
        leader_step (λ (a : List ℕ). length a ≡ entries) k (λ d. so_far) (λ n. so_far) (λ u t. sized k)

    pub level_or_worse : (k j : ℕ) → j < k → up j ≡ true → (lead k ≡ f j) ⊎ T (fewer (lead k) (f j))
    level_or_worse k j h u =
        ⊎_elim inl (⊎_elim inr (λ b. absurd (T_not (fewer (f j) (lead k)) (leader_least k j h u) b)))
        (fewer-total (lead k) (f j) (leader_length k ∙ sym (sized j)))

    -- ---- the flags

    module _ (k : ℕ) (alive : List Bool) (so_far : Alive f up first k alive) where
      -- the flags after candidate k, by what they are before it, at it and after it
      next : (a : List ℕ) (alive' : List Bool) → lead (k + 1) ≡ a
          → ((j : ℕ) → j < k → get_or alive' j false ≡ (up j && not (fewer a (f j)))) → get_or alive' k false ≡ (up k && not (fewer a (f k)))
          → ((j : ℕ) → k + 1 ≤ j → get_or alive' j false ≡ up j) → Alive f up first (k + 1) alive'
      next a alive' e before at after = record {
        before = subst (λ (b : List ℕ). (j : ℕ) → j < k + 1 → get_or alive' j false ≡ (up j && not (fewer b (f j)))) (sym e)
            (below_more (λ j. get_or alive' j false ≡ (up j && not (fewer a (f j)))) k before at);
        after = after;
      }

      here : get_or alive k false ≡ up k
      here = so_far.after k (omega arith)

      later : (j : ℕ) → k + 1 ≤ j → get_or alive j false ≡ up j
      later j h = so_far.after j (omega arith)

      pub alive_down : up k ≡ false → Alive f up first (k + 1) alive
      alive_down d = next (lead k) alive (leader_down k d) so_far.before (here ∙ d ∙ and_no (up k) _ d) later

      pub alive_worse : T (fewer (lead k) (f k)) → Alive f up first (k + 1) (set alive k false)
      alive_worse t =
          next (lead k) (set alive k false) (leader_worse k t)
          (λ j h. get_or-set_other alive k j false false (λ e. omega arith) ∙ so_far.before j h)
          (put_down_at k alive ∙ bettered_down (up k) (fewer (lead k) (f k)) t)
          (λ j h. get_or-set_other alive k j false false (λ e. omega arith) ∙ later j h)

      -- those level with the best so far are worse than one that betters it
      passed_by : T (fewer (f k) (lead k)) → (j : ℕ) → j < k → up j ≡ true → T (fewer (f k) (f j))
      passed_by t j h u =
          ⊎_elim (λ e. subst (λ (a : List ℕ). T (fewer (f k) a)) e t) (fewer_transitive (f k) (lead k) (f j) t) (level_or_worse k j h u)

      pub alive_better : up k ≡ true → T (fewer (f k) (lead k)) → Alive f up first (k + 1) (dropped k alive)
      alive_better is_up t =
          next (f k) (dropped k alive) (leader_better k is_up t)
          (λ j h.
          dropped_before k j alive h
          ∙ ⊎_elim (λ u. bettered_down (up j) (fewer (f k) (f j)) (passed_by t j h u)) (λ d. and_no (up j) _ d) (up_or_down (up j)))
          (dropped_after k k alive (omega arith) ∙ here ∙ level_stays (up k) (fewer (f k) (f k)) (not_itself (f k)))
          (λ j h. dropped_after k j alive (omega arith) ∙ later j h)

      pub alive_level : f k ≡ lead k → Alive f up first (k + 1) alive
      alive_level e =
          let level : T (not (fewer (lead k) (f k))) = subst (λ (a : List ℕ). T (not (fewer a (f k)))) e (not_itself (f k)) in
          next (lead k) alive (leader_level k e) so_far.before (here ∙ level_stays (up k) (fewer (lead k) (f k)) level) later
