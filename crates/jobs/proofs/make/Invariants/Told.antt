-- What the calls of `make` ask, and what they tell of the plan.
-- Assumes nothing.
use Prim.Native.Nat.{ℕ, ◌-◌, ◌≤◌, ◌<◌}
use native.Mathlib.Nat.{le_refl, le_trans}
use native.Mathlib.Omega.{arith}
use mathlib.Core.Path.{◌≡◌, refl, sym, ap, ap₂, ◌∙◌, subst}
use mathlib.Core.Logic.{◌≢◌}
use mathlib.Core.List.{List, [], ◌∷◌, ◌++◌, map, append-nil}
use Rattle.std.specs.Prelude.{Ok}
use lib.ListN.{length, get_or, take, replicate, length-map}
use Rattle.lists.specs.Lists.{padded, cleared}
use Rattle.order.specs.Order.{Order, with_length}
use Rattle.order.specs.Answers.{order_in}
use Rattle.order.specs.Model.Accepted.{Accepted}
use Rattle.order.specs.Model.Lengths.{NoLonger}
use Rattle.order.proofs.Lengths.{no_longer_with}
use Rattle.code.specs.Links.{steps_of}
use Rattle.events.specs.declared.Event.{Event}
use Rattle.events.specs.Events.{events, entry, no_event, event_table}
use Rattle.events.specs.Model.Counting.{count_within}
use Rattle.events.proofs.Shorter.{counted_shorter}
use Rattle.collection.specs.Model.Gathered.{AllEvents, Gathered}
use Rattle.paths.specs.Paths.{paths, plain_counts, path_table, path_room}
use Rattle.filling.specs.Model.Filling.{ToFill, AllPaths}
use Rattle.lengths.specs.Model.Noted.{ToListShorter}
use Rattle.jobs.specs.declared.Job.TheVariants as J
use Rattle.jobs.specs.declared.Plan.{Plan}
use Rattle.jobs.specs.Jobs.{SearchTables}
use Rattle.jobs.specs.Model.Steps.{row_order, listed_before, ToMake}
use Rattle.jobs.proofs.Answers.{lists, served, few_before}

-- ---- the events at the front of their table

front : {A : Type 0} (xs ys : List A) → take (length xs) (xs ++ ys) ≡ xs
front [] ys = refl
front (x ∷ xs) ys = ap (λ l. x ∷ l) (front xs ys)

first_entries : (o : Order) (size n : ℕ) → n ≡ length (events o) → take n (event_table size o) ≡ map entry (events o)
unfolding event_table padded
first_entries o size n e =
    ap (λ (k : ℕ). take k (event_table size o)) (e ∙ sym (length-map (events o) entry)) ∙ front (map entry (events o)) (replicate (size - length (map entry (events o))) no_event)

-- a table that they fill
full_table : (o : Order) → event_table (length (map entry (events o))) o ≡ map entry (events o)
unfolding event_table padded
full_table o =
    let es : List Event = map entry (events o) in
    let none : length es - length es ≡ 0 = omega arith in
    ap (λ (k : ℕ). es ++ replicate k no_event) none ∙ append-nil es

-- ---- lists as they were lent

cleared_as : (l m : List ℕ) → length l ≡ length m → cleared 0 l ≡ cleared 0 m
unfolding cleared
cleared_as l m e = ap (λ (n : ℕ). replicate n 0) e

pub paths_as : (o : Order) {table plain : List ℕ} (ls after ms counts : List ℕ) (at : ℕ) → length ls ≡ length table → length ms ≡ length plain
    → AllPaths o ls after ms counts at → AllPaths o table after plain counts at
paths_as o ls after ms counts at kl km a = record {
  fits = subst (λ (k : ℕ). length (paths o) ≤ path_room k) kl a.fits;
  number = a.number;
  words = a.words ∙ ap (λ (k : ℕ). path_table k o) kl;
  plain_counts_are = a.plain_counts_are ∙ ap (λ (k : ℕ). padded k 0 (plain_counts o)) km;
}

-- ---- what is known once the events are gathered and fit

pub record Got (plan : Plan) (t : SearchTables) (es : List Event) (us : List ℕ) (n : ℕ) : Type 0 where
  pub may : ToMake plan t.plain t.undetected t.work
  pub got : Gathered (order_in plan.order) t.events es t.work us (Ok n)
  pub wide : length us ≡ length t.work

module _ {plan : Plan} {t : SearchTables} {es : List Event} {us : List ℕ} {n : ℕ} (g : Got plan t es us n) where
  abbrev longer : Order
  longer = order_in plan.order

  pub all-events : AllEvents longer t.events es n
  all-events = g.got.inside

  -- the events alone
  abbrev table : List Event
  table = take n es

  entries : table ≡ map entry (events longer)
  entries = let yes = all-events in ap (take n) yes.table ∙ first_entries longer (length t.events) n yes.number

  all : length table ≡ length (events longer)
  all = ap length entries ∙ length-map (events longer) entry

  collected : table ≡ event_table (length table) longer
  collected = entries ∙ sym (full_table longer) ∙ ap (λ (l : List Event). event_table (length l) longer) (sym entries)

  pub work_zero : (us₀ : List ℕ) → length us₀ ≡ length us → (vs : List ℕ) → vs ≡ cleared 0 us₀ → vs ≡ cleared 0 t.work
  work_zero us₀ kept vs e = e ∙ cleared_as us₀ t.work (kept ∙ g.wide)

  -- the paths of an order that is no longer may be listed
  to_list : (o : Order) → Accepted o → NoLonger o longer → (ms : List ℕ) → o.d - 1 ≤ length ms → (vs : List ℕ) → length vs ≡ length us → vs ≡ cleared 0 us → ToFill o table ms vs
  to_list o accepted no_longer ms room vs kv zeros =
      let wide : length vs ≡ length t.work = kv ∙ g.wide in
      record {
        order = accepted;
        from = record {
          longer = longer;
          code = g.may.collected.code;
          no_longer = no_longer;
          collected = collected;
          fits = rw all (le_refl _);
        };
        all = all;
        counts = room;
        wide = rw wide g.may.wide;
        zeros = zeros ∙ cleared_as us vs (sym kv);
      }

  -- the shorter lengths that are listed before
  abbrev before : List ℕ
  before = listed_before plan.job plan.shorter.now

  zero : us ≡ cleared 0 us
  zero = g.got.zeros ∙ cleared_as t.work us (sym g.wide)

  pub to_list_shorter : plan.job ≢ J.Collect → ToListShorter (row_order plan) before table t.plain us
  unfolding row_order with_length
  to_list_shorter z =
      let asked = served plan.job plan.shorter.now (row_order plan) t.plain t.undetected g.may.job in
      let room = (lists plan.job plan.shorter.now (row_order plan) t.plain t.undetected z g.may.job).plain_room in
      record {
        few = few_before plan.job plan.shorter.now (row_order plan) t.plain t.undetected g.may.job;
        degree = λ h. let d = (asked h).0.whole.degree in record { some_degree = d.some_degree; at_most_12 = d.at_most_12 };
        zeros = zero;
        each = λ i h.
            let (_, serve, same) = asked (omega arith) in
            let h' : i < length plan.shorter.now = subst (λ (Ns : List ℕ). i < length Ns) same h in
            let N : ℕ = get_or plan.shorter.now i 0 in
            subst (λ (Ns : List ℕ). ToFill (with_length (get_or Ns i 0) (row_order plan)) table t.plain us) (sym same)
            (to_list (with_length N (row_order plan)) (serve.each i h') (no_longer_with longer N (le_trans (serve.shorter i h') g.may.no_longer.at_most)) t.plain room us refl zero);
      }

  pub to_fill : plan.job ≢ J.Collect → (ms : List ℕ) → length ms ≡ length t.plain → (vs : List ℕ) → length vs ≡ length us → vs ≡ cleared 0 us → ToFill (row_order plan) table ms vs
  to_fill z ms km vs kv zeros =
      let asked = lists plan.job plan.shorter.now (row_order plan) t.plain t.undetected z g.may.job in
      to_list (row_order plan) asked.order g.may.no_longer ms (rw km asked.plain_room) vs kv zeros

  pub few_told : (few : ℕ) → few ≡ count_within table (length table) (steps_of (row_order plan)) → few ≡ length (events (row_order plan))
  few_told few e =
      e ∙ ap₂ (λ (x : List Event) (k : ℕ). count_within x k (steps_of (row_order plan))) collected all ∙ counted_shorter g.may.no_longer (length table)
