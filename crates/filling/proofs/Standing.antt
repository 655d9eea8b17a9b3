-- Where the loop of `fill` stands: the work area still knows where each state's events begin, and the table and the counts are those of the weights so far
-- (`Standing`). It begins so, and a weight keeps it, or shows that there are too many paths.
-- Assumes nothing.
use Prim.Native.Nat.{ℕ, ◌+◌, ◌-◌, ◌/◌, ◌≤◌, ◌<◌}
use native.Mathlib.Omega.{arith}
use mathlib.Core.Path.{◌≡◌, refl, sym, ap, ap₂, ◌∙◌, subst}
use mathlib.Core.Bool.{Bool, true, false, cond}
use mathlib.Core.List.{List}
use lib.ListN.{length, get_or, replicate}
use Rattle.order.specs.Order.{Order}
use Rattle.order.specs.Questions.{work_size}
use Rattle.events.specs.declared.Event.{Event}
use Rattle.events.specs.Events.{events, entry, no_event}
use Rattle.events.proofs.Inputs.{whole_input}
use Rattle.paths.specs.Paths.{paths, path_room}
use Rattle.paths.specs.Model.Joining.{unbegun_first, chain_words}
use Rattle.code.specs.Links.{terminated, steps_of, event_states}
use Rattle.code.proofs.Links.{few_steps, some_steps, same_states, same_threshold}
use Rattle.bounds.specs.Model.Places.{area_size}
use Rattle.bounds.specs.Model.Tables.{surveyed, indexed, Fits}
use Rattle.rotations.specs.Model.Put.{puts}
use Rattle.chains.specs.Model.Chaining.{most_weight, after_states, found_from, weight_listed, Noted, ToListWeight}
use Rattle.chains.proofs.Listed.{no_error_event, Delimits, delimits_after, found_from_is_chain_words}
use Rattle.chains.proofs.Indexing.{noteworthy, delimits_order, entries_listed}
use Rattle.filling.specs.Model.Filling.{settled_paths, settled_counts, Settles, TableFor, ToFill}
use Rattle.filling.proofs.Weights.{Held, held_first, held_sizes, settles, held_after, too_many}
use Rattle.filling.proofs.Ordered.{Ordered, ordered}

-- what is known from the beginning
pub record Ready (o : Order) (np nc nw : ℕ) : Type 0 where
  pub ok : Ordered o
  pub table : List Event
  pub from : TableFor o table
  pub all : length table ≡ length (events from.longer)
  pub enough : o.d - 1 ≤ nc
  pub wide : area_size ≤ nw

pub area-inside : {n : ℕ} → work_size ≤ n → area_size ≤ n
unfolding work_size
area-inside w = omega arith

-- what is asked of `fill` gives that, whatever room the path table has
abbrev pub ready : {o : Order} {table : List Event} {plain work : List ℕ} (np : ℕ) → ToFill o table plain work → Ready o np (length plain) (length work)
ready {o} {table} np to_fill = record {
  ok = ordered o to_fill.order;
  table = table;
  from = to_fill.from;
  all = to_fill.all;
  enough = to_fill.counts;
  wide = area-inside to_fill.wide;
}

-- the number of states that begin events, and what a chain that is not begun has as its first length
pub record Begins (o : Order) (states first : ℕ) : Type 0 where
  pub all_states : states ≡ event_states o
  pub first_is : first ≡ unbegun_first o

-- where chains are turned, words have at most 128 steps
turned_short : (o : Order) → o.N ≤ 128 → (unbegun_first o ≡ 1 → ⊥) → steps_of o ≤ 128
unfolding unbegun_first steps_of
turned_short o few = by (terminated o)
  where
    by : (b : Bool) → (◌≡◌ {A = ℕ} (cond b 1 0) 1 → ⊥) → cond b (o.N + o.v) o.N ≤ 128
    by true n = absurd (n refl)
    by false n = few

module _ {o : Order} {np nc nw : ℕ} (b : Ready o np nc nw) where
  -- the order that the events in the table are of
  abbrev c : Order
  c = b.from.longer

  entries : (k : ℕ) → k < length (events c) → get_or b.table k no_event ≡ entry (get_or (events c) k no_error_event)
  entries k h = ap (λ (t : List Event). get_or t k no_event) b.from.collected ∙ entries_listed c (length b.table) k h

  light_too : c.d ≤ most_weight
  light_too = let same = same_threshold b.from.no_longer in let h = b.ok.light in omega arith

  at_all : (k : ℕ) → k < length (events c) → Fits (get_or b.table k no_event)
  at_all k h =
      noteworthy b.from.no_longer (some_steps o b.ok.code) (few_steps c b.from.code) b.from.code.small_memory light_too (λ e h. whole_input c b.from.code h) b.table nw b.wide
      b.from.fits entries k (omega arith) (omega arith)

  -- the events can be noted
  pub noted : Noted b.table 0 (length b.table)
  noted = record { inside = omega arith; fits = λ k h g. at_all k (let e = b.all in omega arith) }

  pub record Standing (w at : ℕ) (ps cs ws : List ℕ) : Type 0 where
    pub low : w ≤ o.d
    pub delimits : Delimits o c b.table ws
    pub work_size_is : length ws ≡ nw
    pub held : Held o b.ok np nc b.enough w at ps cs

  pub begun : {us vs ws ps cs : List ℕ} → us ≡ replicate nw 0 → vs ≡ surveyed b.table (length b.table - 0) 0 us → ws ≡ indexed (steps_of o) vs → length ws ≡ nw
      → ps ≡ replicate np 0 → cs ≡ replicate nc 0 → Standing 1 0 ps cs ws
  begun {us} {vs} {ws} {ps} {cs} zeros is-vs is-ws kept ep ec =
      let all : length b.table - 0 ≡ length (events c) = let e = b.all in omega arith in
      let same : ws ≡ indexed (steps_of o) (surveyed b.table (length (events c)) 0 (replicate nw 0)) = is-ws ∙ ap (indexed (steps_of o)) (is-vs ∙ ap₂ (λ (k : ℕ) (l : List ℕ). surveyed b.table k 0 l) all zeros) in
      record {
        low = b.ok.threshold;
        delimits = rw same (delimits_order b.from.no_longer (some_steps o b.ok.code) (few_steps c b.from.code) b.from.code.small_memory light_too (λ e h. whole_input c b.from.code h) b.table nw b.wide b.from.fits entries);
        work_size_is = kept;
        held = rw (ep, ec) (held_first o b.ok np nc b.enough);
      }

-- once there is no weight left
pub ended : {o : Order} {np nc nw : ℕ} {b : Ready o np nc nw} {w at : ℕ} {ps cs ws : List ℕ} → Standing b w at ps cs ws → o.d ≤ w → Held o b.ok np nc b.enough o.d at ps cs
ended {o} {np} {nc} {b = b} {w} {at} {ps} {cs} s over = let last : w ≡ o.d = let l = s.low in omega arith in subst (λ (n : ℕ). Held o b.ok np nc b.enough n at ps cs) last s.held

-- before a weight below the threshold
module _ {o : Order} {np nc nw : ℕ} {b : Ready o np nc nw} {w at : ℕ} {ps cs ws : List ℕ} (s : Standing b w at ps cs ws) (light : w < o.d) {states first : ℕ} (begins : Begins o states first) where
  -- what `list_weight` asks
  pub asked : ToListWeight b.table ws ps at states first w
  unfolding path_room
  asked =
      let e = begins.all_states in
      let f = same_states b.from.no_longer in
      let d = s.delimits.few_states in
      let t = b.ok.light in
      record {
        indexed = s.delimits.indexed;
        few_states = omega arith;
        short_to_turn = λ n. rw s.delimits.bits (turned_short o b.ok.few (λ q. n (begins.first_is ∙ q)));
        light = omega arith;
        near = rw (held_sizes o b.ok np nc b.enough w at ps cs s.low s.held).0 (let p = s.held.place in let f = s.held.fits in omega arith);
      }

  -- it has left ws', ps' and next
  module _ {ws' ps' : List ℕ} {next : ℕ} (left : ◌≡◌ {A = List ℕ × (List ℕ × ℕ)} (ws', (ps', next)) (weight_listed b.table first w states ws (ps, at))) where
    words : ◌≡◌ {A = List ℕ × ℕ} (ps', next) (puts (chain_words o w) (ps, at))
    words =
        ap (λ (x : List ℕ × (List ℕ × ℕ)). x.1) left
        ∙ ap₂ (λ (f k : ℕ). puts (found_from b.table f w k 0 ws) (ps, at)) begins.first_is begins.all_states
        ∙ ap (λ (l : List ℕ). puts l (ps, at)) (found_from_is_chain_words o b.from.longer b.table ws w s.delimits)

    pub settled : Settles ps' cs at next w o.N
    settled = settles o b.ok np nc b.enough w at ps cs light s.held ps' next words

    delimits_then : Delimits o b.from.longer b.table ws'
    delimits_then =
        subst (Delimits o b.from.longer b.table) (sym (ap (λ (x : List ℕ × (List ℕ × ℕ)). x.0) left ∙ ap (λ (k : ℕ). after_states b.table w k 0 ws) begins.all_states))
        (delimits_after o b.from.longer b.table w (event_states o) 0 ws s.delimits (let e = same_states b.from.no_longer in omega arith))

    pub stands_next : next ≤ np / 2 → length ws' ≡ nw → {ps'' cs'' : List ℕ} → ps'' ≡ settled_paths ps' at next → cs'' ≡ settled_counts (length ps') cs at next w
        → Standing b (w + 1) next ps'' cs'' ws'
    stands_next room kept ep ec = record {
      low = omega arith;
      delimits = delimits_then;
      work_size_is = kept;
      held = rw (ep, ec) (held_after o b.ok np nc b.enough w at ps cs light s.held ps' next words room);
    }

    pub overfull : np / 2 < next → np / 2 < length (paths o)
    overfull past = too_many o b.ok np nc b.enough w at ps cs light s.held ps' next words past
