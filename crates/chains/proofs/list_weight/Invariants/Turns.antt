-- Where the loop of `list_weight` stands: the states left find the rest of the words.
-- Assumes nothing.
use Prim.Native.Nat.{ℕ, suc, ◌+◌, ◌-◌, ◌≤◌, ◌<◌}
use native.Mathlib.Nat.{lt_of_lt_of_le}
use native.Mathlib.Omega.{arith}
use mathlib.Core.Path.{◌≡◌, refl, sym, ap, ◌∙◌, subst}
use mathlib.Core.List.{List}
use lib.ListN.{length}
use Rattle.events.specs.declared.Event.{Event}
use Rattle.paths.specs.Paths.{path_room}
use Rattle.rotations.specs.Model.Put.{puts}
use Rattle.rotations.proofs.Puts.{puts_none, puts-append, length-puts, puts-place}
use Rattle.bounds.specs.Model.Places.{state_count}
use Rattle.bounds.specs.Model.Tables.{bits_at}
use Rattle.chains.specs.Model.Chaining.{at_state, after_state, after_states, found, found_from, unbegun, lighter_listed, weight_listed, Indexed, Near, ToListState, ToListWeight}
use Rattle.chains.proofs.States.{bits_after_state, indexed_after_state}

-- what n states from i on leave
abbrev pub listed_from : List Event → ℕ → ℕ → ℕ → ℕ → List ℕ → List ℕ × ℕ → List ℕ × (List ℕ × ℕ)
listed_from table first w n i us s = (after_states table w n i us, puts (found_from table first w n i us) s)

one_state : (table : List Event) (first w n i : ℕ) (us : List ℕ) (s : List ℕ × ℕ)
    → listed_from table first w (suc n) i us s ≡ listed_from table first w n (i + 1)
    (lighter_listed table first w i us s).0 (lighter_listed table first w i us s).1
unfolding after_states found_from
one_state table first w n i us s =
    ap (λ (y : List ℕ × ℕ). (after_states table w n (i + 1) (after_state table w i us), y))
    (puts-append (found table (at_state table i us) (unbegun (bits_at us) first w)) (found_from table first w n (i + 1) (after_state table w i us)) s)

module _ {table : List Event} {work paths : List ℕ} {at states first w : ℕ} (ask : ToListWeight table work paths at states first w) where
  -- at state i and position next, with the work area and the path table
  pub record Stands (i next : ℕ) (us ls : List ℕ) : Type 0 where
    pub indexed : Indexed table us
    pub near : Near ls next
    pub same_bits : bits_at us ≡ bits_at work
    pub same_us : length us ≡ length work
    pub same_ls : length ls ≡ length paths
    pub left : listed_from table first w (states - i) i us (ls, next) ≡ weight_listed table first w states work (paths, at)

  pub record Stage : Type 0 where
    pub i : ℕ
    pub next : ℕ
    pub us : List ℕ
    pub ls : List ℕ
    pub stands : Stands i next us ls

  pub stands_first : Stands 0 at work paths
  stands_first = record {
    indexed = ask.indexed;
    near = ask.near;
    same_bits = refl;
    same_us = refl;
    same_ls = refl;
    left = ap (λ (n : ℕ). listed_from table first w n 0 work (paths, at)) (all states);
  }
    where
      all : (x : ℕ) → x - 0 ≡ x
      all x = omega arith

  module _ (x : Stage) where
    module _ (less : x.i < states) where
      few : x.i < state_count
      few = lt_of_lt_of_le less ask.few_states

      pub asks_state : ToListState table x.us x.ls x.next x.i first w
      asks_state = record {
        indexed = x.stands.indexed;
        state_small = few;
        short_to_turn = λ turned. subst (λ (N : ℕ). N ≤ 128) (sym x.stands.same_bits) (ask.short_to_turn turned);
        light = ask.light;
        near = x.stands.near;
      }

      module _ {us ls : List ℕ} {r : ℕ} (same_us : length us ≡ length work) (same_ls : length ls ≡ length paths)
          (turn : (us, (ls, r)) ≡ lighter_listed table first w x.i x.us (x.ls, x.next)) where
        abbrev words : List ℕ
        words = found table (at_state table x.i x.us) (unbegun (bits_at x.us) first w)

        left_again : listed_from table first w (states - (x.i + 1)) (x.i + 1) us (ls, r) ≡ weight_listed table first w states work (paths, at)
        left_again =
            let n : ℕ = states - (x.i + 1) in
            let one : states - x.i ≡ suc n = omega arith in
            ap (λ (y : List ℕ × (List ℕ × ℕ)). listed_from table first w n (x.i + 1) y.0 y.1) turn
            ∙ sym (one_state table first w n x.i x.us (x.ls, x.next))
            ∙ sym (ap (λ (m : ℕ). listed_from table first w m x.i x.us (x.ls, x.next)) one) ∙ x.stands.left

        near_again : Near ls r
        near_again =
            let e : (ls, r) ≡ puts words (x.ls, x.next) = ap (λ (y : List ℕ × (List ℕ × ℕ)). y.1) turn in
            subst (λ (y : List ℕ × ℕ). Near y.0 y.1) (sym e)
            (subst (λ (n : ℕ). (puts words (x.ls, x.next)).1 ≤ path_room n + 1) (sym (length-puts words (x.ls, x.next)))
            (puts-place words (x.ls, x.next) x.stands.near))

        pub stands_next : Stands (x.i + 1) r us ls
        stands_next = record {
          indexed = subst (Indexed table) (sym (ap (λ (y : List ℕ × (List ℕ × ℕ)). y.0) turn))
              (indexed_after_state x.stands.indexed x.i few w);
          near = near_again;
          same_bits = ap (λ (y : List ℕ × (List ℕ × ℕ)). bits_at y.0) turn ∙ bits_after_state x.stands.indexed x.i few w
              ∙ x.stands.same_bits;
          same_us = same_us;
          same_ls = same_ls;
          left = left_again;
        }

    pub all_listed : states ≤ x.i → (x.us, (x.ls, x.next)) ≡ weight_listed table first w states work (paths, at)
    unfolding after_states found_from
    all_listed over =
        let none : states - x.i ≡ 0 = omega arith in
        ap (λ (y : List ℕ × ℕ). (x.us, y)) (sym (puts_none (x.ls, x.next)))
        ∙ sym (ap (λ (m : ℕ). listed_from table first w m x.i x.us (x.ls, x.next)) none) ∙ x.stands.left
