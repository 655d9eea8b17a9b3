-- Where the loop of `chain` stands: what is still to be found, appended from here, gives the whole (`Stands`). It begins so, a turn keeps it, and at
-- its end all is appended.
-- Assumes nothing.
use Prim.Native.Nat.{ℕ, ◌+◌, ◌-◌, ◌/◌, ◌≤◌, ◌<◌, ◌^◌}
use native.Mathlib.Omega.{arith}
use mathlib.Core.Path.{◌≡◌, refl, sym, ap, ◌∙◌, subst}
use mathlib.Core.Logic.{inl, inr}
use mathlib.Core.List.{List, []}
use lib.ListN.{length, get_or}
use Rattle.events.specs.declared.Event.{Event}
use Rattle.events.specs.Events.{no_event}
use Rattle.paths.specs.Paths.{path_room}
use Rattle.rotations.specs.Model.Put.{puts}
use Rattle.rotations.proofs.Puts.{puts-append, length-puts, puts-place, puts_past, puts_none}
use Rattle.bounds.specs.declared.Chain.{Chain}
use Rattle.code.specs.Model.Steps.{most_steps}
use Rattle.bounds.specs.Model.Tables.{start_at, end_at, bits_at, beginning, following, ToFollow}
use Rattle.bounds.proofs.Placed.{lt_or_ge}
use Rattle.bounds.proofs.Looked.{beginning_bounds, beginning_skips, following_bounds, following_skips}
use Rattle.chains.specs.Model.Chaining.{found, found_by, Joins, Near, ToChain, ToJoin}
use Rattle.chains.proofs.Found.{finds, finds_none, rest_from, found_is_rest, rest_turn, rest_over, rest_skips}

-- past the room nothing more is appended
puts_full : (us : List ℕ) (s : List ℕ × ℕ) → s.1 ≡ path_room (length s.0) + 1 → puts us s ≡ s
puts_full us s e =
    let same : s ≡ (s.0, path_room (length s.0) + 1) = ap (λ (x : ℕ). (s.0, x)) e in
    ap (puts us) same ∙ puts_past us s.0 ∙ sym same

-- what is appended stays near
puts_near : (us : List ℕ) (l : List ℕ) (p : ℕ) → Near l p → Near (puts us (l, p)).0 (puts us (l, p)).1
puts_near us l p h = subst (λ (n : ℕ). (puts us (l, p)).1 ≤ path_room n + 1) (sym (length-puts us (l, p))) (puts-place us (l, p) h)

module _ {table : List Event} {work paths : List ℕ} {at : ℕ} {begun : Chain} (ask : ToChain table work paths at begun) where
  abbrev from : ℕ
  from = start_at work 0

  abbrev to : ℕ
  to = end_at work

  abbrev pub room : ℕ
  room = length paths / 2

  abbrev joins : Joins table work
  joins = ask.joins

  abbrev rest : ℕ → List ℕ
  rest = rest_from joins begun

  -- at place k of the events and position p of the path table l
  pub record Stands (k p : ℕ) (l : List ℕ) : Type 0 where
    pub size : length l ≡ length paths
    pub near : Near l p
    pub above : from ≤ k
    pub below : k ≤ to
    pub done : puts (rest k) (l, p) ≡ puts (found table work begun) (paths, at)

  pub record Stage : Type 0 where
    pub k : ℕ
    pub p : ℕ
    pub l : List ℕ
    pub stands : Stands k p l

  few : bits_at work ≤ most_steps
  few = joins.ready.small.bits_small

  short : begun.steps ≤ most_steps
  short = let a = ask.unfinished.within in let b = few in omega arith

  -- where the position is past the room, what is skipped does not matter
  skipped : (k k' p : ℕ) (l : List ℕ) → length l ≡ length paths → Near l p → k ≤ k' → k' ≤ to
      → (p ≤ room → (x : ℕ) → k ≤ x → x < k' → finds joins begun x ≡ []) → puts (rest k) (l, p) ≡ puts (rest k') (l, p)
  unfolding path_room
  skipped k k' p l e h below last none =
      elim (lt_or_ge room p) [
        | inl full ↦
            let over : p ≡ path_room (length l) + 1 = past (length l) (length paths) e h full in
            puts_full (rest k) (l, p) over ∙ sym (puts_full (rest k') (l, p) over)
        | inr open_room ↦
            let d : k + (k' - k) ≡ k' = omega arith in
            ap (λ (us : List ℕ). puts us (l, p))
            (rest_skips joins begun (k' - k) k (rw d last) (λ x g g'. none open_room x g (rw d at g')) ∙ ap rest d)
      ]
    where
      past : (m n : ℕ) → m ≡ n → p ≤ m / 2 + 1 → n / 2 < p → p ≡ m / 2 + 1
      past m n same a b = omega arith

  pub stands_first : {k : ℕ} → k ≡ beginning work at room begun → Stands k at paths
  stands_first is = rw is stands
    where
      b : (from ≤ beginning work at room begun) × (beginning work at room begun ≤ to)
      b = beginning_bounds table work from to joins.ready at room begun short

      stands : Stands (beginning work at room begun) at paths
      stands = record {
        size = refl;
        near = ask.near;
        above = b.0;
        below = b.1;
        done = sym (ap (λ (us : List ℕ). puts us (paths, at)) (found_is_rest joins begun ask.unfinished)
            ∙ skipped from (beginning work at room begun) at paths refl ask.near b.0 b.1
            (λ open_room x g g'. let last = b.1 in
            finds_none joins begun ask.unfinished x g (omega arith)
            (beginning_skips table work from to joins.ready at room begun short joins.segment open_room x g g')));
      }

  module _ (x : Stage) where
    module _ (inside : x.k < to) where
      abbrev e : Event
      e = get_or table x.k no_event

      pub asks_join : {f : Event} → f ≡ e → ToJoin table work x.l x.p begun f
      asks_join is = record {
        joins = joins;
        unfinished = ask.unfinished;
        joinable = rw is (joins.joinable x.k x.stands.above inside);
        near = x.stands.near;
      }

      len_short : e.length ≤ most_steps
      len_short = (joins.segment.lengths x.k x.stands.above inside).1

      pub asks_follow : {f : Event} → f ≡ e → to < 2 ^ 64 → ToFollow work begun f.length x.k
      asks_follow is h = record {
        small = joins.ready.small;
        steps_small = short;
        length_small = rw is len_short;
        next_fits = omega arith;
      }

      -- after a turn: the event read, the table, the position and the next place, as the code has them
      module _ {f : Event} {zs : List ℕ} {r k' : ℕ} (read : f ≡ e) (joined : (zs, r) ≡ puts (found_by table work begun f) (x.l, x.p))
          (followed : k' ≡ following work r room begun f.length x.k) where
        put : (zs, r) ≡ puts (found_by table work begun e) (x.l, x.p)
        put = rw read at joined

        is : k' ≡ following work r room begun e.length x.k
        is = rw read at followed

        turn_bounds : (x.k < k') × (k' ≤ to)
        turn_bounds =
            rw is (following_bounds table work from to joins.ready r room begun short x.k e.length
            x.stands.above inside refl len_short)

        turn_size : length zs ≡ length paths
        turn_size =
            ap (λ (s : List ℕ × ℕ). length s.0) put ∙ length-puts (finds joins begun x.k) (x.l, x.p) ∙ x.stands.size

        turn_near : Near zs r
        turn_near =
            subst (λ (s : List ℕ × ℕ). Near s.0 s.1) (sym put)
            (puts_near (finds joins begun x.k) x.l x.p x.stands.near)

        turned : puts (rest x.k) (x.l, x.p) ≡ puts (rest (x.k + 1)) (zs, r)
        turned =
            ap (λ (us : List ℕ). puts us (x.l, x.p)) (rest_turn joins begun x.k inside)
            ∙ puts-append (finds joins begun x.k) (rest (x.k + 1)) (x.l, x.p)
            ∙ sym (ap (puts (rest (x.k + 1))) put)

        pub stands_next : Stands k' r zs
        stands_next =
            let b = turn_bounds in
            let above = x.stands.above in
            record {
              size = turn_size;
              near = turn_near;
              above = omega (arith, b.0);
              below = b.1;
              done =
                  sym (skipped (x.k + 1) k' r zs turn_size turn_near (omega (arith, b.0)) b.1
                  (λ open_room y g g'. let last = b.1 in
                  finds_none joins begun ask.unfinished y (omega arith) (omega arith)
                  (following_skips table work from to joins.ready r room begun short joins.segment open_room
                  x.k e.length y above inside refl (omega arith) (rw is at g'))))
                  ∙ sym turned ∙ x.stands.done;
            }

        pub nearer : to - k' < to - x.k
        nearer = let b = turn_bounds in omega (arith, b.0, b.1)

    pub all_found : to ≤ x.k → (x.l, x.p) ≡ puts (found table work begun) (paths, at)
    all_found over =
        sym (puts_none (x.l, x.p)) ∙ sym (ap (λ (us : List ℕ). puts us (x.l, x.p)) (rest_over joins begun x.k over))
        ∙ x.stands.done
