-- What the chaining finds by one event more: nothing where the event is passed over (`found_none`), the rotations where it ends a chain (`found_last`),
-- or else what the chain begun with it finds (`found_more`). All it finds is what its events find, one after another (`found_is_rest`), and events
-- that are not worth joining may be skipped (`rest_skips`).
-- Assumes nothing.
use Prim.Native.Nat.{ℕ, zero, suc, ◌+◌, ◌-◌, ◌*◌, ◌^◌, ◌≤◌, ◌<◌}
use native.Mathlib.Nat.{add-zero}
use native.Mathlib.Omega.{arith}
use mathlib.Core.Path.{◌≡◌, refl, sym, ap, ◌∙◌, subst}
use mathlib.Core.Bool.{not, cond}
use mathlib.Core.Logic.{⊎_elim, ◌≢◌}
use mathlib.Core.List.Memᴰ
use mathlib.Core.List.{List, [], ◌∷◌, ◌++◌, flat_map, map, Memᴰ}
use lib.Arith.{lt_of_le-ne}
use lib.Dec.{T, leb, eqb, leb→le, ltb→lt, eqb→eq, not_T, nleb→lt}
use lib.Pow.{split}
use lib.ListN.{get_or}
use Rattle.lists.specs.Lists.{up_from}
use Rattle.lists.proofs.Member.{up_from_bounds}
use Rattle.lists.proofs.Sorted.{Within}
use Rattle.paths.specs.Chains.{steps, cost}
use Rattle.lists.proofs.Tests.{T_and, passes_or_fails}
use Rattle.lists.proofs.Blocks.{flat_map_cong_on, flat_map_map}
use Rattle.lists.proofs.Choices.{cond_true, cond_false, eqb_differs}
use Rattle.poly.specs.Word.{number}
use Rattle.events.specs.declared.Event.{Event}
use Rattle.events.specs.Events.{ErrorEvent, no_event}
use Rattle.paths.specs.Model.Joining.{turns, first_or, fits_in, joining, joined}
use Rattle.paths.proofs.Joined.{first_or_again, joining_more}
use Rattle.paths.proofs.Pruned.{joined_drops, fill_le_cost}
use Rattle.paths.proofs.UsedUp.{Calm, used_up, too_light}
use Rattle.bounds.specs.declared.Chain.{Chain}
use Rattle.bounds.specs.Model.Tables.{start_at, end_at, bits_at, least_at, fill_at, light_at, decided}
use Rattle.bounds.proofs.ZeroLoops.{zero_loop}
use Rattle.bounds.specs.declared.Joining.TheVariants.{Skipped, Complete, Continued}
use Rattle.bounds.proofs.Decided.{fits, whole, spare, ending, spent, ending_parts, not_whole, fit_parts, decided-skipped, decided-complete, decided-continued}
use Rattle.bounds.proofs.Looked.{Useless}
use Rattle.chains.specs.Model.Chaining.{word_of, error_event, at_hand, extended, found, found_by, Joinable, Joins, Unfinished}

pub word-extended : (N : ℕ) (begun : Chain) (e : Event)
    → number (extended N begun e).inputs ≡ number begun.inputs + word_of e * 2 ^ (N - begun.steps)
unfolding extended
word-extended N begun e = split (number begun.inputs + word_of e * 2 ^ (N - begun.steps)) 64

module _ {table : List Event} {work : List ℕ} (joins : Joins table work) where
  abbrev N : ℕ
  N = bits_at work

  abbrev es : List ErrorEvent
  es = at_hand table work

  abbrev from : ℕ
  from = start_at work 0

  abbrev to : ℕ
  to = end_at work

  -- an event at hand stands at a place of the table
  at_hand_lem : (e : ErrorEvent) → Memᴰ e es → (k : ℕ) × ((from ≤ k) × ((k < to) × (error_event (get_or table k no_event) ≡ e)))
  unfolding at_hand
  at_hand_lem e m =
      let h = Memᴰ.of_map (λ k. error_event (get_or table k no_event)) (up_from from (to - from)) m in
      let b = up_from_bounds from (to - from) h.1 in
      (h.0, (b.0, (omega arith, h.2)))

  pub some_step : (e : ErrorEvent) → Memᴰ e (at_hand table work) → 1 ≤ e.length
  unfolding error_event
  some_step e m =
      let h = at_hand_lem e m in
      subst (λ (x : ErrorEvent). 1 ≤ x.length) h.1.1.1 (joins.joinable h.0 h.1.0 h.1.1.0).some_step

  least_weighs : (e : ErrorEvent) → Memᴰ e es → least_at work e.length ≤ e.weight
  unfolding error_event
  least_weighs e m =
      let h = at_hand_lem e m in
      subst (λ (x : ErrorEvent). least_at work x.length ≤ x.weight) h.1.1.1
      (joins.ready.least_weighs h.0 h.1.0 h.1.1.0)

  -- steps that cannot be filled find nothing
  drops : (fuel left acc first budget : ℕ) → left ≤ N → budget < fill_at work left → joined fuel es N left acc first budget ≡ []
  drops =
      joined_drops N es some_step (least_at work) (fill_at work) joins.ready.fill_zero joins.ready.fill_step least_weighs

  -- a chain weighs at least what the table says of its steps
  pub least_whole : (c : List ErrorEvent) → Within c (at_hand table work) → steps c ≤ bits_at work → fill_at work (steps c) ≤ cost c
  least_whole =
      fill_le_cost N es some_step (least_at work) (fill_at work) joins.ready.fill_zero joins.ready.fill_step least_weighs

  -- where the table tells something of it, the zero loop is the first event at hand, and the others weigh as much
  calm : 1 ≤ light_at work → Calm (light_at work) es
  unfolding at_hand error_event up_from
  calm h =
      let c = joins.calming h in
      let loop = zero_loop (get_or table from no_event) c.loop in
      let low = loop.no_low in
      let high = loop.no_high in
      let some = c.some in
      let more : to - from ≡ suc (to - from - 1) = omega arith in
      record {
        loop = error_event (get_or table from no_event);
        others = map (λ k. error_event (get_or table k no_event)) (up_from (suc from) (to - from - 1));
        are = ap (λ (n : ℕ). map (λ k. error_event (get_or table k no_event)) (up_from from n)) more;
        one_step = loop.one_step;
        no_weight = loop.no_weight;
        no_input = omega (arith, low, high);
        weighs = λ e m.
            let k = Memᴰ.of_map (λ k. error_event (get_or table k no_event)) (up_from (suc from) (to - from - 1)) m in
            let b = up_from_bounds (suc from) (to - from - 1) k.1 in
            subst (λ (x : ErrorEvent). light_at work ≤ x.weight) k.2 (c.weighs k.0 (omega arith) (omega arith));
      }

  -- ---- one event more, by itself
  module _ (fuel left acc first budget : ℕ) (e : ErrorEvent) (inside : left ≤ N) (some : 1 ≤ e.length) where
    abbrev c : ℕ
    c = acc + e.input * 2 ^ (N - left)

    abbrev first' : ℕ
    first' = first_or first e.length

    abbrev rest : List ℕ
    rest = joined fuel es N (left - e.length) c first' (budget - e.weight)

    abbrev last : List ℕ
    last = cond (eqb e.weight budget) (turns N first' c) []

    joining_unfit : T (not (fits_in left budget e)) → joining N (joined fuel es N) left acc first budget e ≡ []
    unfolding joining
    joining_unfit t = cond_false (fits_in left budget e) (cond (eqb e.length left) last rest) [] t

    joining_whole : T (fits_in left budget e) → T (eqb e.length left)
        → joining N (joined fuel es N) left acc first budget e ≡ last
    unfolding joining
    joining_whole t s =
        cond_true (fits_in left budget e) (cond (eqb e.length left) last rest) [] t
        ∙ cond_true (eqb e.length left) last rest s

    joining_part : T (fits_in left budget e) → T (not (eqb e.length left))
        → joining N (joined fuel es N) left acc first budget e ≡ rest
    unfolding joining
    joining_part t s =
        cond_true (fits_in left budget e) (cond (eqb e.length left) last rest) [] t
        ∙ cond_false (eqb e.length left) last rest s

    -- an event that the least weight of the steps after it forbids
    pub not_worth : budget < e.weight + fill_at work (left - e.length)
        → joining N (joined fuel es N) left acc first budget e ≡ []
    unfolding fits_in
    not_worth heavy =
        ⊎_elim (λ t. fitting t) joining_unfit (passes_or_fails (fits_in left budget e))
      where
        none_left : e.length ≡ left → budget < e.weight
        none_left s =
            let z = joins.ready.fill_zero in
            let same : left - e.length ≡ 0 = omega arith in
            let f = ap (fill_at work) same in
            omega arith

        fitting : T (fits_in left budget e) → joining N (joined fuel es N) left acc first budget e ≡ []
        fitting t =
            let h = (T_and (leb e.length left) (leb e.weight budget)).0 t in
            let light = leb→le e.weight budget h.1 in
            ⊎_elim (λ s. absurd (let x = none_left (eqb→eq e.length left s) in omega arith))
            (λ s. joining_part t s ∙ drops fuel (left - e.length) c first' (budget - e.weight) (omega arith) (omega arith))
            (passes_or_fails (eqb e.length left))

  -- ---- more fuel than steps left changes nothing

  nothing : {A : Type 0} (xs : List A) → flat_map {B = ℕ} (λ _. []) xs ≡ []
  unfolding flat_map
  nothing [] = refl
  nothing (x ∷ xs) = nothing xs

  -- no event fits into no step
  no_step : (fuel left acc first budget : ℕ) (e : ErrorEvent) → left ≤ N → 1 ≤ e.length → left ≡ 0
      → joining N (joined fuel es N) left acc first budget e ≡ []
  unfolding fits_in
  no_step fuel left acc first budget e h some none =
      joining_unfit fuel left acc first budget e h some
      (not_T (fits_in left budget e) (λ t. let g = leb→le e.length left
      ((T_and (leb e.length left) (leb e.weight budget)).0 t).0 in omega arith))

  joined_fuel : (fuel fuel' left acc first budget : ℕ) → left ≤ N → left ≤ fuel → left ≤ fuel'
      → joined fuel es N left acc first budget ≡ joined fuel' es N left acc first budget
  unfolding joined
  joined_fuel zero zero left acc first budget h g g' = refl
  joined_fuel zero (suc fuel') left acc first budget h g g' =
      sym (flat_map_cong_on (joining N (joined fuel' es N) left acc first budget) (λ _. []) es
      (λ e m. no_step fuel' left acc first budget e h (some_step e m) (omega arith)) ∙ nothing es)
  joined_fuel (suc fuel) zero left acc first budget h g g' =
      flat_map_cong_on (joining N (joined fuel es N) left acc first budget) (λ _. []) es
      (λ e m. no_step fuel left acc first budget e h (some_step e m) (omega arith)) ∙ nothing es
  joined_fuel (suc fuel) (suc fuel') left acc first budget h g g' =
      flat_map_cong_on (joining N (joined fuel es N) left acc first budget)
      (joining N (joined fuel' es N) left acc first budget) es (λ e m.
      let some = some_step e m in
      joining_more N (joined fuel es N) (joined fuel' es N) left acc first budget e (joined_fuel fuel fuel' (left - e.length) (acc + e.input * 2 ^ (N - left))
      (first_or first e.length) (budget - e.weight) (omega arith) (omega arith) (omega arith)))

  -- ---- what one event of the table finds, by the decision on it

  module _ (begun : Chain) (e : Event) (is : Unfinished N begun) (able : Joinable N e) where
    abbrev fuel : ℕ
    fuel = begun.steps - 1

    abbrev longer : ℕ
    longer = number begun.inputs + word_of e * 2 ^ (N - begun.steps)

    abbrev first'' : ℕ
    first'' = first_or begun.first e.length

    by_unfit : T (not (fits work begun e)) → found_by table work begun e ≡ []
    unfolding found_by error_event fits_in
    by_unfit =
        joining_unfit fuel begun.steps (number begun.inputs) begun.first begun.budget
        (error_event e) is.within able.some_step

    by_whole : T (fits work begun e) → T (whole work begun e)
        → found_by table work begun e ≡ cond (spent work begun e) (turns N first'' longer) []
    unfolding found_by error_event fits_in
    by_whole =
        joining_whole fuel begun.steps (number begun.inputs) begun.first begun.budget
        (error_event e) is.within able.some_step

    by_part : T (fits work begun e) → T (not (whole work begun e))
        → found_by table work begun e ≡ joined fuel es N (begun.steps - e.length) longer first'' (begun.budget - e.weight)
    unfolding found_by error_event fits_in
    by_part =
        joining_part fuel begun.steps (number begun.inputs) begun.first begun.budget
        (error_event e) is.within able.some_step

    by_heavy : begun.budget < e.weight + fill_at work (begun.steps - e.length) → found_by table work begun e ≡ []
    unfolding found_by error_event
    by_heavy =
        not_worth fuel begun.steps (number begun.inputs) begun.first begun.budget
        (error_event e) is.within able.some_step

    by_long : begun.steps < e.length → found_by table work begun e ≡ []
    by_long long = by_unfit (not_T (fits work begun e) (λ t. let f = (fit_parts work begun e t).0 in omega arith))

    -- some step is left
    steps_left : T (fits work begun e) → T (not (whole work begun e)) → e.length < begun.steps
    steps_left f n = lt_of_le-ne (fit_parts work begun e f).0 (eqb_differs e.length begun.steps n)

    -- the weight that is left is not used up by anything
    by_light : T (fits work begun e) → T (not (whole work begun e)) → T (spare work begun e) → T (not (spent work begun e)) → found_by table work begun e ≡ []
    by_light f n p s =
        let l = ltb→lt (begun.budget - e.weight) (light_at work) p in
        let w = (fit_parts work begun e f).1 in
        let d : e.weight ≢ begun.budget = eqb_differs e.weight begun.budget s in
        let inside = is.within in
        by_part f n
        ∙ too_light N es (light_at work) (omega arith) (calm (omega arith)) some_step fuel (begun.steps - e.length) longer first''
        (begun.budget - e.weight) (omega arith) (left e.weight begun.budget w d) l
      where
        left : (x y : ℕ) → x ≤ y → x ≢ y → 1 ≤ y - x
        left x y g n = omega arith

    -- it is used up: zero loops follow
    by_used : T (fits work begun e) → T (not (whole work begun e)) → T (spare work begun e) → T (spent work begun e)
        → found_by table work begun e ≡ turns N first'' longer
    by_used f n p s =
        let l = ltb→lt (begun.budget - e.weight) (light_at work) p in
        let w = eqb→eq e.weight begun.budget s in
        let none : begun.budget - e.weight ≡ 0 = omega arith in
        let some = able.some_step in
        let short = steps_left f n in
        by_part f n
        ∙ ap (λ (x : ℕ). joined fuel es N (begun.steps - e.length) longer first'' x) none
        ∙ used_up N es (light_at work) (omega arith) (calm (omega arith)) fuel (begun.steps - e.length) longer first'' (omega arith) (omega arith)
        ∙ ap (λ (x : ℕ). turns N x longer) (first_or_again begun.first e.length 1 some)

    pub found_none : decided work begun e ≡ Skipped → found_by table work begun e ≡ []
    found_none d =
        ⊎_elim by_unfit (λ h. ⊎_elim (λ k. ended k.0 k.1) (λ k. by_heavy (nleb→lt _ _ k.1)) h)
        (decided-skipped work begun e d)
      where
        ended : T (ending work begun e) → T (not (spent work begun e)) → found_by table work begun e ≡ []
        ended t s =
            ⊎_elim (λ f. ⊎_elim (λ w. by_whole f w ∙ cond_false (spent work begun e) (turns N first'' longer) [] s) (λ p. by_light f p.0 p.1 s)
            (ending_parts work begun e t)) by_unfit (passes_or_fails (fits work begun e))

    pub found_last : decided work begun e ≡ Complete
        → found_by table work begun e ≡ turns N (extended N begun e).first (number (extended N begun e).inputs)
    unfolding extended
    found_last d =
        let h = decided-complete work begun e d in
        ⊎_elim (λ w. by_whole h.0 w ∙ cond_true (spent work begun e) (turns N first'' longer) [] h.1.1) (λ p. by_used h.0 p.0 p.1 h.1.1)
        (ending_parts work begun e h.1.0)
        ∙ ap (turns N first'') (sym (word-extended N begun e))

    pub found_more : decided work begun e ≡ Continued
        → found_by table work begun e ≡ found table work (extended N begun e)
    unfolding found extended
    found_more d =
        let h = decided-continued work begun e d in
        let some = able.some_step in
        let inside = is.within in
        let left = is.some_left in
        by_part h.0 (not_whole work begun e h.1.0)
        ∙ joined_fuel fuel (begun.steps - e.length) (begun.steps - e.length) longer first'' (begun.budget - e.weight)
        (omega arith) (omega arith) (omega arith)
        ∙ ap (λ (x : ℕ). joined (begun.steps - e.length) es N (begun.steps - e.length) x first'' (begun.budget - e.weight))
        (sym (word-extended N begun e))

  -- ---- the events one after another

  -- what the event at place k finds
  abbrev pub finds : Chain → ℕ → List ℕ
  finds begun k = found_by table work begun (get_or table k no_event)

  -- what the events from place k on find
  unfoldable pub rest_from : Chain → ℕ → List ℕ
  rest_from begun k = flat_map (finds begun) (up_from k (to - k))

  pub found_is_rest : (begun : Chain) → Unfinished N begun → found table work begun ≡ rest_from begun from
  unfolding found rest_from found_by at_hand joined
  found_is_rest begun is =
      ap (λ (x : ℕ). joined x es N begun.steps (number begun.inputs) begun.first begun.budget)
      (suc_of begun.steps is.some_left) ∙ unrolled (begun.steps - 1)
    where
      suc_of : (n : ℕ) → 1 ≤ n → n ≡ suc (n - 1)
      suc_of n h = omega arith

      unrolled : (fuel : ℕ) → joined (suc fuel) es N begun.steps (number begun.inputs) begun.first begun.budget
          ≡ flat_map (λ k. joining N (joined fuel es N) begun.steps (number begun.inputs) begun.first begun.budget
          (error_event (get_or table k no_event))) (up_from from (to - from))
      unrolled fuel =
          flat_map_map (joining N (joined fuel es N) begun.steps (number begun.inputs) begun.first begun.budget)
          (λ k. error_event (get_or table k no_event)) (up_from from (to - from))

  pub rest_turn : (begun : Chain) (k : ℕ) → k < to → rest_from begun k ≡ finds begun k ++ rest_from begun (k + 1)
  unfolding rest_from up_from flat_map
  rest_turn begun k h =
      let n : to - k ≡ suc (to - (k + 1)) = omega arith in
      let s : suc k ≡ k + 1 = omega arith in
      ap (λ (x : ℕ). flat_map (finds begun) (up_from k x)) n
      ∙ ap (λ (x : ℕ). finds begun k ++ flat_map (finds begun) (up_from x (to - (k + 1)))) s

  pub rest_over : (begun : Chain) (k : ℕ) → to ≤ k → rest_from begun k ≡ []
  unfolding rest_from up_from flat_map
  rest_over begun k h = ap (λ (x : ℕ). flat_map (finds begun) (up_from k x)) (none_of to k h)
    where
      none_of : (x y : ℕ) → x ≤ y → x - y ≡ 0
      none_of x y g = omega arith

  -- events that find nothing are skipped
  pub rest_skips : (begun : Chain) (n k : ℕ) → k + n ≤ to → ((x : ℕ) → k ≤ x → x < k + n → finds begun x ≡ [])
      → rest_from begun k ≡ rest_from begun (k + n)
  rest_skips begun zero k h none = ap (rest_from begun) (sym (add-zero k))
  rest_skips begun (suc n) k h none =
      rest_turn begun k (omega arith) ∙ ap (λ (l : List ℕ). l ++ rest_from begun (k + 1)) (none k (omega arith) (omega arith))
      ∙ rest_skips begun n (k + 1) (omega arith) (λ x g g'. none x (omega arith) (omega arith)) ∙ ap (rest_from begun) (shift k n)
    where
      shift : (a b : ℕ) → a + 1 + b ≡ a + suc b
      shift a b = omega arith

  -- an event too long for the steps left, or too heavy for what the tables say of its length
  pub finds_none : (begun : Chain) → Unfinished N begun → (k : ℕ) → from ≤ k → k < to
      → Useless work begun.steps begun.budget (get_or table k no_event).length → finds begun k ≡ []
  finds_none begun is k h g why =
      let able = joins.joinable k h g in
      let lightest = joins.ready.least_weighs k h g in
      ⊎_elim (by_long begun (get_or table k no_event) is able)
      (λ heavy. by_heavy begun (get_or table k no_event) is able (omega arith)) why
