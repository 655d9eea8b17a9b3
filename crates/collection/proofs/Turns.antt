-- The turns of the collection: each makes the work area ready and filled for its state and length (`turn_ready`), and what all turns meet is the list
-- of all events (`all-turns`).
-- Assumes nothing.
use Prim.Native.Nat.{ℕ, zero, suc, ◌+◌, ◌-◌, ◌*◌, ◌/◌, ◌%◌, ◌^◌, ◌≤◌, ◌<◌}
use native.Mathlib.Nat.{add_comm, suc-mul}
use native.Mathlib.Decide.{ℕ_discrete}
use native.Mathlib.Omega.{arith}
use mathlib.Core.Path.{◌≡◌, refl, sym, ap, ap₂, ◌∙◌, subst}
use mathlib.Core.Logic.{◌≢◌, ◌⊎◌, inl, inr, ⊎_elim}
use mathlib.Core.List.{List, [], ◌∷◌, ◌++◌, map, flat_map, map-append}
use lib.Arith.{digits_div, digits_mod}
use lib.Dec.{lit<}
use lib.ListN.{length, get_or, set, length-set}
use lib.Seq.{get_or-set_other, get_or-set_same}
use Rattle.lists.specs.Lists.{up_from}
use Rattle.lists.proofs.Lengths.{up_from-append}
use Rattle.lists.proofs.Blocks.{flat_map_append}
use Rattle.code.specs.Links.{steps_of, event_states}
use Rattle.code.specs.Trellis.{step_weight}
use Rattle.code.specs.Model.Steps.{most_steps}
use Rattle.order.specs.Order.{Order}
use Rattle.events.specs.declared.Event.{Event}
use Rattle.events.specs.Events.{entry, events_of_length, events_of_state, events}
use Rattle.needed.specs.Model.Tables.{row_words, step_count, steps_place, length_place, threshold_place, half_place, tables_end, length_at, half_at, rows_from, weights_from, prepared, turned}
use Rattle.needed.proofs.Places.{threshold_region, half_region, store_leaves}
use Rattle.needed.proofs.Filling.{length-rows_from, length-weights_from, turned-first, turned_later}
use Rattle.needed.proofs.Rows.{Agree, Filled, need-cong, least_to_cong, rows_agree, rows_elsewhere, rows-filled}
use Rattle.collection.proofs.Ready.{Ready, half_at_most}

-- ---- the work area

-- the upper part but for the length stays
ready_same : (gs : List ℕ) (v d : ℕ) (a b : List ℕ) → length b ≡ length a → ((k : ℕ) → steps_place ≤ k → k ≢ length_place → get_or b k 0 ≡ get_or a k 0) → Ready gs v d a → Ready gs v d b
ready_same gs v d a b size same r =
    let enough = r.enough in
    record {
      enough = omega arith;
      steps = λ x h. same (steps_place + x) (omega arith) (λ e. absurd (omega arith)) ∙ r.steps x h;
      threshold_is = same threshold_place (omega arith) (λ e. absurd (omega arith)) ∙ r.threshold_is;
      half_is = same half_place (omega arith) (λ e. absurd (omega arith)) ∙ r.half_is;
    }

-- a store to the length
length_elsewhere : (work : List ℕ) (x k : ℕ) → k ≢ length_place → get_or (set work length_place x) k 0 ≡ get_or work k 0
length_elsewhere work x k n = get_or-set_other work length_place k x 0 n

-- what a turn leaves
pub record Turned (gs : List ℕ) (v d words steps k : ℕ) (work : List ℕ) : Type 0 where
  pub ready : Ready gs v d work
  pub filled : Filled (k / steps) words steps work
  pub length_is : length_at work ≡ k % steps + 1

module _ (gs : List ℕ) (v d words steps k : ℕ) (work : List ℕ) (few : steps ≤ most_steps) (hw : words ≤ 32) (hv : v ≤ 8) (ready : Ready gs v d work) where
  abbrev marked : List ℕ
  marked = set work length_place (k % steps + 1)

  marked_ready : Ready gs v d marked
  marked_ready = ready_same gs v d work marked (length-set work length_place (k % steps + 1)) (λ j h n. length_elsewhere work (k % steps + 1) j n) ready

  marked-length : length_at marked ≡ k % steps + 1
  marked-length = let enough = ready.enough in get_or-set_same work length_place (k % steps + 1) 0 (omega arith)

  marked-filled : Filled (k / steps) words steps work → Filled (k / steps) words steps marked
  marked-filled filled r s hr hs =
      let half = half_at_most v hv in
      let is = marked_ready.half_is in
      let small : half_at marked ≤ 128 = omega arith in
      let same : Agree r marked work = record { rows = λ j h. length_elsewhere work (k % steps + 1) j (λ e. absurd (omega arith)); upper = λ j h n. length_elsewhere work (k % steps + 1) j n } in
      need-cong marked work r s (length_elsewhere work (k % steps + 1) (r * row_words + s / 8) (λ e. absurd (omega arith)))
      ∙ filled r s hr hs ∙ sym (least_to_cong (k / steps) marked work small r s same (omega arith))

  pub turn_ready : (k % steps ≢ 0 → Filled (k / steps) words steps work) → Turned gs v d words steps k (turned words steps k work)
  turn_ready before = elim (ℕ_discrete (k % steps) 0) [
    | yes e ↦
        let new : List ℕ = rows_from (k / steps) words steps 0 marked in
        let half = half_at_most v hv in
        let is = marked_ready.half_is in
        let enough = marked_ready.enough in
        let agree : Agree 0 new marked = rows_agree (k / steps) words steps 0 marked hw (omega arith) in
        subst (Turned gs v d words steps k) (turned-first words steps k work e) (record {
          ready = ready_same gs v d marked new (length-rows_from (k / steps) words steps 0 marked) agree.upper marked_ready;
          filled = λ r s hr hs. rows-filled (k / steps) words steps 0 marked hw (omega arith) (omega arith) (omega arith) r s (omega arith) (omega arith) hs;
          length_is = rows_elsewhere (k / steps) words steps 0 marked length_place hw (inr (omega arith)) ∙ marked-length;
        })
    | no n ↦ subst (Turned gs v d words steps k) (turned_later words steps k work n) (record { ready = marked_ready; filled = marked-filled (before n); length_is = marked-length })
  ]

pub length-turned : (words steps k : ℕ) (work : List ℕ) → length (turned words steps k work) ≡ length work
length-turned words steps k work = elim (ℕ_discrete (k % steps) 0) [
  | yes e ↦ ap length (sym (turned-first words steps k work e)) ∙ length-rows_from (k / steps) words steps 0 (set work length_place (k % steps + 1)) ∙ length-set work length_place (k % steps + 1)
  | no n ↦ ap length (sym (turned_later words steps k work n)) ∙ length-set work length_place (k % steps + 1)
]

-- ---- before the first turn

weights_elsewhere : (gs : List ℕ) (n x : ℕ) (work : List ℕ) (k : ℕ) → (k < steps_place + x) ⊎ (steps_place + x + n ≤ k) → get_or (weights_from gs n x work) k 0 ≡ get_or work k 0
unfolding weights_from
weights_elsewhere gs zero x work k h = refl
weights_elsewhere gs (suc n) x work k h =
    weights_elsewhere gs n (x + 1) (set work (steps_place + x) (step_weight gs (x / 2) (x % 2))) k (⊎_elim (λ l. inl (omega arith)) (λ l. inr (omega arith)) h)
    ∙ get_or-set_other work (steps_place + x) k (step_weight gs (x / 2) (x % 2)) 0 (λ e. ⊎_elim (λ (l : k < steps_place + x). absurd (omega arith)) (λ (l : steps_place + x + suc n ≤ k). absurd (omega arith)) h)

weights-stored : (gs : List ℕ) (n x : ℕ) (work : List ℕ) (y : ℕ) → steps_place + x + n ≤ length work → x ≤ y → y < x + n → get_or (weights_from gs n x work) (steps_place + y) 0 ≡ step_weight gs (y / 2) (y % 2)
unfolding weights_from
weights-stored gs zero x work y room h g = absurd (omega arith)
weights-stored gs (suc n) x work y room h g =
    let w : ℕ = step_weight gs (x / 2) (x % 2) in
    let size = length-set work (steps_place + x) w in
    elim (ℕ_discrete y x) [
      | yes e ↦
          weights_elsewhere gs n (x + 1) (set work (steps_place + x) w) (steps_place + y) (inl (omega arith))
          ∙ ap (λ (z : ℕ). get_or (set work (steps_place + x) w) (steps_place + z) 0) e ∙ get_or-set_same work (steps_place + x) w 0 (omega arith) ∙ ap (λ (z : ℕ). step_weight gs (z / 2) (z % 2)) (sym e)
      | no ne ↦ weights-stored gs n (x + 1) (set work (steps_place + x) w) y (omega arith) (omega arith) (omega arith)
    ]

pub length-prepared : (gs : List ℕ) (v d : ℕ) (work : List ℕ) → length (prepared gs v d work) ≡ length work
unfolding prepared
length-prepared gs v d work =
    length-weights_from gs step_count 0 (set (set work threshold_place d) half_place (2 ^ (v - 1))) ∙ length-set (set work threshold_place d) half_place (2 ^ (v - 1)) ∙ length-set work threshold_place d

pub prepared_ready : (gs : List ℕ) (v d : ℕ) (work : List ℕ) → tables_end ≤ length work → Ready gs v d (prepared gs v d work)
unfolding prepared
prepared_ready gs v d work h =
    let one : List ℕ = set work threshold_place d in
    let two : List ℕ = set one half_place (2 ^ (v - 1)) in
    let size = length-weights_from gs step_count 0 two in
    let size2 = length-set one half_place (2 ^ (v - 1)) in
    let size1 = length-set work threshold_place d in
    let threshold-kept = store_leaves half_region threshold_region half_place threshold_place (λ e. absurd (omega arith)) (lit< tt) (lit< tt) record { from = omega arith; before = omega arith } record { from = omega arith; before = omega arith } one (2 ^ (v - 1)) in
    record {
      enough = omega arith;
      steps = λ x g. weights-stored gs step_count 0 two x (omega arith) (omega arith) (omega arith);
      threshold_is = weights_elsewhere gs step_count 0 two threshold_place (inr (omega arith)) ∙ threshold-kept ∙ get_or-set_same work threshold_place d 0 (omega arith);
      half_is = weights_elsewhere gs step_count 0 two half_place (inr (omega arith)) ∙ get_or-set_same one half_place (2 ^ (v - 1)) 0 (omega arith);
    }

-- ---- all turns

module _ {A : Type 0} (steps : ℕ) (f : ℕ → ℕ → List A) where
  -- the turns of one state
  state_turns : (a j n : ℕ) → j + n ≤ steps → flat_map (λ k. f (k / steps) (k % steps + 1)) (up_from (a * steps + j) n) ≡ flat_map (f a) (up_from (j + 1) n)
  unfolding up_from flat_map
  state_turns a j zero h = refl
  state_turns a j (suc n) h =
      ap₂ ◌++◌ (ap₂ (λ (x y : ℕ). f x (y + 1)) (digits_div a (omega arith)) (digits_mod a (omega arith)))
      (ap (λ (x : ℕ). flat_map (λ k. f (k / steps) (k % steps + 1)) (up_from x n)) (next_turn (a * steps) j) ∙ state_turns a (suc j) n (omega arith) ∙ ap (λ (x : ℕ). flat_map (f a) (up_from x n)) (one_more j))
    where
      next_turn : (x y : ℕ) → suc (x + y) ≡ x + suc y
      next_turn x y = omega arith

      one_more : (y : ℕ) → suc y + 1 ≡ suc (y + 1)
      one_more y = omega arith

  pub states_turns : (a m : ℕ) → flat_map (λ k. f (k / steps) (k % steps + 1)) (up_from (a * steps) (m * steps)) ≡ flat_map (λ i. flat_map (f i) (up_from 1 steps)) (up_from a m)
  unfolding up_from flat_map
  states_turns a zero = ap (λ (x : ℕ). flat_map (λ k. f (k / steps) (k % steps + 1)) (up_from (a * steps) x)) (none steps)
    where
      none : (x : ℕ) → 0 * x ≡ 0
      none x = omega arith
  states_turns a (suc m) =
      ap (λ (x : ℕ). flat_map turn (up_from (a * steps) x)) (suc-mul m steps ∙ add_comm (m * steps) steps)
      ∙ ap (flat_map turn) (up_from-append (a * steps) steps (m * steps))
      ∙ flat_map_append turn (up_from (a * steps) steps) (up_from (a * steps + steps) (m * steps))
      ∙ ap₂ ◌++◌ (ap (λ (x : ℕ). flat_map turn (up_from x steps)) (no_step (a * steps)) ∙ state_turns a 0 steps (omega arith))
      (ap (λ (x : ℕ). flat_map turn (up_from x (m * steps))) (sym (suc-mul a steps)) ∙ states_turns (suc a) m)
    where
      turn : ℕ → List A
      turn k = f (k / steps) (k % steps + 1)

      no_step : (x : ℕ) → x ≡ x + 0
      no_step x = omega arith

map_flat_map : {A B C : Type 0} (f : B → C) (g : A → List B) (xs : List A) → map f (flat_map g xs) ≡ flat_map (λ x. map f (g x)) xs
unfolding flat_map
map_flat_map f g [] = refl
map_flat_map f g (x ∷ xs) = map-append f (g x) (flat_map g xs) ∙ ap (λ l. map f (g x) ++ l) (map_flat_map f g xs)

-- what turn k meets, and what the turns from k on meet
unfoldable pub turn_events : Order → ℕ → List Event
turn_events o k = map entry (events_of_length o (k / steps_of o) (k % steps_of o + 1))

unfoldable pub turns_from : Order → ℕ → ℕ → List Event
turns_from o n k = flat_map (turn_events o) (up_from k n)

pub turns_more : (o : Order) (n k : ℕ) → turns_from o (suc n) k ≡ turn_events o k ++ turns_from o n (suc k)
unfolding turns_from up_from flat_map
turns_more o n k = refl

pub turns_none : (o : Order) (k : ℕ) → turns_from o 0 k ≡ []
unfolding turns_from up_from flat_map
turns_none o k = refl

pub all-turns : (o : Order) → turns_from o (event_states o * steps_of o) 0 ≡ map entry (events o)
unfolding turns_from turn_events events events_of_state
all-turns o =
    ap (λ (x : ℕ). flat_map (λ k. map entry (events_of_length o (k / steps_of o) (k % steps_of o + 1))) (up_from x (event_states o * steps_of o))) (none (steps_of o))
    ∙ states_turns (steps_of o) (λ i l. map entry (events_of_length o i l)) 0 (event_states o)
    ∙ sym (map_flat_map entry (λ i. flat_map (events_of_length o i) (up_from 1 (steps_of o))) (up_from 0 (event_states o))
    ∙ ap (λ (f : ℕ → List Event). flat_map f (up_from 0 (event_states o))) (λ k i. map_flat_map entry (events_of_length o i) (up_from 1 (steps_of o)) k))
  where
    none : (x : ℕ) → 0 ≡ 0 * x
    none x = omega arith
