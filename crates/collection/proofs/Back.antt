-- The events of one state and length, met by walking backwards from the state, where a test `go` cuts what cannot become one. For each test that
-- cuts no event and lets nothing else through (`Cuts`), the list is the definition's (`back_is`): its members by one step more at the end, its order
-- because the later inputs, the higher bits, are decided first.
-- Assumes nothing.
use Prim.Native.Nat.{ℕ, zero, suc, ◌+◌, ◌-◌, ◌*◌, ◌/◌, ◌%◌, ◌^◌, ◌≤◌, ◌<◌}
use native.Mathlib.Nat.{add-mul, add_assoc, mul_comm, mul_assoc, pow-succ', mod-eq_of_lt}
use native.Mathlib.Decide.{ℕ_discrete}
use native.Mathlib.Omega.{arith}
use mathlib.Core.Path.{◌≡◌, refl, sym, ap, ap₂, ◌∙◌, subst}
use mathlib.Core.Bool.{Bool, cond, ◌&&◌}
use mathlib.Core.Logic.{◌⊎◌, ⊎_elim}
use mathlib.Core.List.Memᴰ
use mathlib.Core.List.{List, [], ◌∷◌, ◌++◌, Memᴰ}
use lib.Dec.{T, ltb, ltb→lt, lt→ltb}
use Rattle.lists.proofs.Tests.{T_and}
use Rattle.lists.proofs.Choices.{of_guarded, in_first, guarded_sorted}
use Rattle.lists.proofs.Sorted.{Sorted, append-sorted, sorted_known}
use Rattle.lists.proofs.Keys.{By, by_asymmetric}
use Rattle.code.specs.Trellis.{next, step_weight, walk, walk_weight, first_meets}
use Rattle.code.proofs.Walks.{walk_lt}
use Rattle.code.proofs.Meets.{Meets, of_first_meets, in_first_meets}
use Rattle.order.specs.Order.{Order}
use Rattle.events.specs.Events.{ErrorEvent, is_listed, events_of_length}
use Rattle.events.proofs.Listed.{of_events_of_length, in_events_of_length, events_of_length-sorted}
use Rattle.collection.proofs.Halving.{twice_half, step_low, step_high, before_fits, before_is}
use Rattle.collection.proofs.Ways.{Way, way_none, way_more, way_less, weight_more}
use Rattle.collection.proofs.Earlier.{less_before}

-- each of the two states before s leads to it
module _ (v : ℕ) (pos : 1 ≤ v) (s : ℕ) (h : s < 2 ^ v) where
  pub low_leads : next v (s / 2) (s % 2) ≡ s
  unfolding next
  low_leads = step_low (2 ^ v) (2 ^ (v - 1)) (twice_half v pos) s h

  pub high_leads : next v (s / 2 + 2 ^ (v - 1)) (s % 2) ≡ s
  unfolding next
  high_leads = step_high (2 ^ v) (2 ^ (v - 1)) (twice_half v pos) s h

module _ (gs : List ℕ) (v i l : ℕ) (go : ℕ → ℕ → ℕ → Bool) where
  -- t steps are still to be taken back from state s; c are the inputs of the later steps, and w is what those weigh
  unfoldable pub back : ℕ → ℕ → ℕ → ℕ → List ErrorEvent
  back zero s c w = cond (go 0 s w) (record { state = i; length = l; weight = w; input = c } ∷ []) []
  back (suc t) s c w =
      cond (go (suc t) s w)
      (back t (s / 2) (2 * c + s % 2) (w + step_weight gs (s / 2) (s % 2))
      ++ back t (s / 2 + 2 ^ (v - 1)) (2 * c + s % 2) (w + step_weight gs (s / 2 + 2 ^ (v - 1)) (s % 2))) []

  -- the test lets the first state through, ends only at i and below d, stays above i in between, and cuts no way that can still become an event
  pub record Cuts (d : ℕ) : Type 0 where
    pub root : (s w : ℕ) → T (go l s w)
    pub ends : (s w : ℕ) → s < 2 ^ v → T (go 0 s w) → (s ≡ i) × (w < d)
    pub stays : (t s w : ℕ) → s < 2 ^ v → 1 ≤ t → t < l → T (go t s w) → i < s
    pub keeps : (t s w low : ℕ) → t < l → Way v i l t s low → w + walk_weight gs v t i low < d → T (go t s w)

  module _ (d : ℕ) (cuts : Cuts d) (pos : 1 ≤ v) (hi : i < 2 ^ v) where
    abbrev half : ℕ
    half = 2 ^ (v - 1)

    -- the state before, and the input, where b leads from p to s
    two_before : (p b s : ℕ) → p < 2 ^ v → b < 2 → s ≡ next v p b → ((p ≡ s / 2) × (b ≡ s % 2)) ⊎ ((p ≡ s / 2 + half) × (b ≡ s % 2))
    unfolding next
    two_before p b s hp hb e = before_is (2 ^ v) half (twice_half v pos) p b s hp hb e

    -- at the end the test lets everything through; before, every way that is light enough
    goes : (t s w low : ℕ) → t ≤ l → Way v i l t s low → w + walk_weight gs v t i low < d → T (go t s w)
    goes t s w low h way light = elim (ℕ_discrete t l) [
      | yes e ↦ subst (λ (x : ℕ). T (go x s w)) (sym e) (cuts.root s w)
      | no n ↦ cuts.keeps t s w low (omega arith) way light
    ]

    -- ---- the members

    abbrev event : ℕ → ℕ → ErrorEvent
    event c w = record { state = i; length = l; weight = w; input = c }

    -- a way to s, and the event that it makes with the later steps
    record Made (t s c w : ℕ) (e : ErrorEvent) : Type 0 where
      low : ℕ
      way : Way v i l t s low
      light : w + walk_weight gs v t i low < d
      is : event (c * 2 ^ t + low) (w + walk_weight gs v t i low) ≡ e

    -- the input so far, and one more
    input_more : (c b m r : ℕ) → (2 * c + b) * m + r ≡ c * (2 * m) + (b * m + r)
    input_more c b m r =
        ap (λ (x : ℕ). x + r) (add-mul (2 * c) b m ∙ ap (λ (x : ℕ). x + b * m) (mul_comm_left c m)) ∙ add_assoc (c * (2 * m)) (b * m) r
      where
        mul_comm_left : (x y : ℕ) → 2 * x * y ≡ x * (2 * y)
        mul_comm_left x y = ap (λ (z : ℕ). z * y) (mul_comm 2 x) ∙ mul_assoc x 2 y

    module _ (t s c w p : ℕ) (leads : next v p (s % 2) ≡ s) where
      abbrev c' : ℕ
      c' = 2 * c + s % 2

      abbrev w' : ℕ
      w' = w + step_weight gs p (s % 2)

      made_more : (e : ErrorEvent) → (suc t < l → i < s) → Made t p c' w' e → Made (suc t) s c w e
      made_more e over m =
          let b : ℕ = s % 2 in
          let hb : b < 2 = omega arith in
          let r : ℕ = m.low in
          let longer : Way v i l (suc t) (next v p b) (b * 2 ^ t + r) = way_more v i l t p r b hb m.way (λ h. subst (λ (x : ℕ). i < x) (sym leads) (over h)) in
          let weighs : walk_weight gs v (suc t) i (b * 2 ^ t + r) ≡ walk_weight gs v t i r + step_weight gs p b =
          weight_more v i l t r b hb m.way.fits gs ∙ ap (λ (x : ℕ). walk_weight gs v t i r + step_weight gs x b) m.way.arrives in
          let sum : w' + walk_weight gs v t i r ≡ w + walk_weight gs v (suc t) i (b * 2 ^ t + r) = moved w (step_weight gs p b) (walk_weight gs v t i r) (walk_weight gs v (suc t) i (b * 2 ^ t + r)) weighs in
          record {
            low = b * 2 ^ t + r;
            way = subst (λ (x : ℕ). Way v i l (suc t) x (b * 2 ^ t + r)) leads longer;
            light = subst (λ (x : ℕ). x < d) sum m.light;
            is = ap₂ event (sym (input_more c b (2 ^ t) r ∙ ap (λ (x : ℕ). c * x + (b * 2 ^ t + r)) (sym (pow-succ' 2 t)))) (sym sum) ∙ m.is;
          }
        where
          moved : (x y z u : ℕ) → u ≡ z + y → x + y + z ≡ x + u
          moved x y z u e = omega arith

    of_back : (t s c w : ℕ) {e : ErrorEvent} → t ≤ l → 1 ≤ l → s < 2 ^ v → Memᴰ e (back t s c w) → Made t s c w e
    unfolding back walk_weight
    of_back zero s c w ht hl hs m =
        let h = of_guarded (go 0 s w) (event c w ∷ []) m in
        let end = cuts.ends s w hs h.0 in
        let only = ⊎_elim (λ e. e) (λ none. absurd (Memᴰ.not-nil none)) (Memᴰ.cases_cons h.1) in
        ended end.0 end.1 (sym only)
      where
        ended : s ≡ i → w < d → {e : ErrorEvent} → event c w ≡ e → Made zero s c w e
        ended e h q = record {
          low = 0;
          way = subst (λ (x : ℕ). Way v i l 0 x 0) (sym e) (way_none v i l);
          light = omega arith;
          is = ap₂ event (one c) (none w) ∙ q;
        }
          where
            one : (x : ℕ) → x * 1 + 0 ≡ x
            one x = omega arith

            none : (x : ℕ) → x + 0 ≡ x
            none x = omega arith
    of_back (suc t) s c w {e} ht hl hs m =
        let twice = twice_half v pos in
        let h = of_guarded (go (suc t) s w) (back t (s / 2) (2 * c + s % 2) (w + step_weight gs (s / 2) (s % 2)) ++ back t (s / 2 + half) (2 * c + s % 2) (w + step_weight gs (s / 2 + half) (s % 2))) m in
        let over : suc t < l → i < s = λ g. cuts.stays (suc t) s w hs (omega arith) g h.0 in
        let fit = before_fits (2 ^ v) half twice s hs in
        let fit0 : s / 2 < 2 ^ v = omega arith in
        ⊎_elim
        (λ first. made_more t s c w (s / 2) (low_leads v pos s hs) e over (of_back t (s / 2) (2 * c + s % 2) (w + step_weight gs (s / 2) (s % 2)) (omega arith) hl fit0 first))
        (λ second. made_more t s c w (s / 2 + half) (high_leads v pos s hs) e over (of_back t (s / 2 + half) (2 * c + s % 2) (w + step_weight gs (s / 2 + half) (s % 2)) (omega arith) hl fit.1 second))
        (Memᴰ.append_cases (back t (s / 2) (2 * c + s % 2) (w + step_weight gs (s / 2) (s % 2))) h.1)

    in_back : (t s c w low : ℕ) → t ≤ l → s < 2 ^ v → Way v i l t s low → w + walk_weight gs v t i low < d
        → Memᴰ (event (c * 2 ^ t + low) (w + walk_weight gs v t i low)) (back t s c w)
    unfolding back walk_weight walk
    in_back zero s c w low ht hs way light =
        let nothing : low ≡ 0 = (let f = way.fits in omega arith) in
        let same : event (c * 1 + low) (w + 0) ≡ event c w = ap₂ event (one c low nothing) (none w) in
        Memᴰ.cast same (in_first (go 0 s w) (event c w ∷ []) [] (goes zero s w low ht way light) (Memᴰ.head refl))
      where
        one : (x y : ℕ) → y ≡ 0 → x * 1 + y ≡ x
        one x y e = omega arith

        none : (x : ℕ) → x + 0 ≡ x
        none x = omega arith
    in_back (suc t) s c w low ht hs way light =
        let cut = way_less v i l t s low way in
        let r : ℕ = cut.rest in
        let b : ℕ = cut.bit in
        let p : ℕ = walk v t i r in
        let fits : r < 2 ^ t = cut.way.fits in
        let weighs : walk_weight gs v (suc t) i low ≡ walk_weight gs v t i r + step_weight gs p b =
        ap (walk_weight gs v (suc t) i) cut.is ∙ weight_more v i l t r b cut.bit_lt fits gs in
        let earlier : (q : ℕ) → p ≡ q → b ≡ s % 2 → q < 2 ^ v → Memᴰ (event (c * 2 ^ suc t + low) (w + walk_weight gs v (suc t) i low)) (back t q (2 * c + s % 2) (w + step_weight gs q (s % 2))) =
        λ q ep eb hq.
        let same : w + step_weight gs q (s % 2) + walk_weight gs v t i r ≡ w + walk_weight gs v (suc t) i low =
        moved w (step_weight gs q (s % 2)) (walk_weight gs v t i r) (walk_weight gs v (suc t) i low) (weighs ∙ ap₂ (λ (x y : ℕ). walk_weight gs v t i r + step_weight gs x y) ep eb) in
        let number : (2 * c + s % 2) * 2 ^ t + r ≡ c * 2 ^ suc t + low =
        input_more c (s % 2) (2 ^ t) r ∙ ap₂ (λ (x y : ℕ). c * x + y) (sym (pow-succ' 2 t)) (ap (λ (x : ℕ). x * 2 ^ t + r) (sym eb) ∙ sym cut.is) in
        Memᴰ.cast (sym (ap₂ event number same))
        (in_back t q (2 * c + s % 2) (w + step_weight gs q (s % 2)) r (omega arith) hq (subst (λ (x : ℕ). Way v i l t x r) ep cut.way) (subst (λ (x : ℕ). x < d) (sym same) light)) in
        let fit = before_fits (2 ^ v) half (twice_half v pos) s hs in
        let low_fits : s / 2 < 2 ^ v = omega arith in
        in_first (go (suc t) s w) (back t (s / 2) (2 * c + s % 2) (w + step_weight gs (s / 2) (s % 2)) ++ back t (s / 2 + half) (2 * c + s % 2) (w + step_weight gs (s / 2 + half) (s % 2))) [] (goes (suc t) s w low ht way light)
        (⊎_elim (λ h. Memᴰ.append_left (back t (s / 2 + half) (2 * c + s % 2) (w + step_weight gs (s / 2 + half) (s % 2))) (earlier (s / 2) h.0 h.1 low_fits))
        (λ h. Memᴰ.append_right (back t (s / 2) (2 * c + s % 2) (w + step_weight gs (s / 2) (s % 2))) (earlier (s / 2 + half) h.0 h.1 fit.1))
        (two_before p b s (walk_lt v t i r hi) cut.bit_lt cut.last))
      where
        moved : (x y z u : ℕ) → u ≡ z + y → x + y + z ≡ x + u
        moved x y z u e = omega arith

    -- ---- the order

    -- a way to s / 2 has a smaller input number than one to s / 2 with the highest bit set
    ways_ordered : (t s a b : ℕ) → s < 2 ^ v → Way v i l t (s / 2) a → Way v i l t (s / 2 + half) b → a < b
    ways_ordered t s a b hs wa wb =
        let fit = before_fits (2 ^ v) half (twice_half v pos) s hs in
        let one : suc (v - 1) ≡ v = omega arith in
        let low_fits : s / 2 < 2 ^ v = omega arith in
        less_before v i t (v - 1) (s / 2) a b (omega arith) fit.0 wa.fits wb.fits
        (ap₂ (λ (x y : ℕ). x % 2 ^ y) wa.arrives one ∙ mod-eq_of_lt low_fits)
        (ap₂ (λ (x y : ℕ). x % 2 ^ y) wb.arrives one ∙ mod-eq_of_lt fit.1)

    ordered : (t s c w0 w1 : ℕ) → s < 2 ^ v → (x y : ErrorEvent) → Made t (s / 2) c w0 x → Made t (s / 2 + half) c w1 y → x.input < y.input
    ordered t s c w0 w1 hs x y m n =
        let less = ways_ordered t s m.low n.low hs m.way n.way in
        let at_x : c * 2 ^ t + m.low ≡ x.input = ap (λ (e : ErrorEvent). e.input) m.is in
        let at_y : c * 2 ^ t + n.low ≡ y.input = ap (λ (e : ErrorEvent). e.input) n.is in
        omega arith

    back_sorted : (t s c w : ℕ) → t ≤ l → 1 ≤ l → s < 2 ^ v → Sorted (By (λ (e : ErrorEvent). e.input)) (back t s c w)
    unfolding back
    back_sorted zero s c w ht hl hs = guarded_sorted (By (λ e. e.input)) (go 0 s w) (event c w ∷ []) (λ y m. absurd (Memᴰ.not-nil m), tt)
    back_sorted (suc t) s c w ht hl hs =
        let fit = before_fits (2 ^ v) half (twice_half v pos) s hs in
        let low_fits : s / 2 < 2 ^ v = omega arith in
        let c' : ℕ = 2 * c + s % 2 in
        let w0 : ℕ = w + step_weight gs (s / 2) (s % 2) in
        let w1 : ℕ = w + step_weight gs (s / 2 + half) (s % 2) in
        guarded_sorted (By (λ e. e.input)) (go (suc t) s w) (back t (s / 2) c' w0 ++ back t (s / 2 + half) c' w1)
        (append-sorted (By (λ e. e.input)) (back t (s / 2) c' w0) (back t (s / 2 + half) c' w1)
        (back_sorted t (s / 2) c' w0 (omega arith) hl low_fits) (back_sorted t (s / 2 + half) c' w1 (omega arith) hl fit.1)
        (λ x y m n. ordered t s c' w0 w1 hs x y (of_back t (s / 2) c' w0 (omega arith) hl low_fits m) (of_back t (s / 2 + half) c' w1 (omega arith) hl fit.1 n)))

    -- ---- the definition's list

    -- the way of an event that closes
    of_way : (c : ℕ) → 1 ≤ l → Way v i l l i c → Meets v i l i c
    of_way c hl w = record { some_step = hl; arrives = w.arrives; above = λ t g h. w.above t g (omega arith) h }

    in_way : (c : ℕ) → c < 2 ^ l → Meets v i l i c → Way v i l l i c
    in_way c h m = record { fits = h; arrives = m.arrives; above = λ j g _ k. m.above j g k }

    -- an event of i, of length l
    abbrev EventIs : ErrorEvent → Type 0
    EventIs e = (c : ℕ) × (c < 2 ^ l) × T (first_meets v i l i c && ltb (walk_weight gs v l i c) d) × (event c (walk_weight gs v l i c) ≡ e)

    of_root : 1 ≤ l → (e : ErrorEvent) → Memᴰ e (back l i 0 0) → EventIs e
    of_root hl e m =
        let made = of_back l i 0 0 (omega arith) hl hi m in
        let c : ℕ = made.low in
        let light = made.light in
        let w : ℕ = walk_weight gs v l i c in
        let below : w < d = omega arith in (
          c,
          made.way.fits,
          (T_and (first_meets v i l i c) (ltb w d)).1 (in_first_meets v i l i c (of_way c hl made.way), lt→ltb w d below),
          ap₂ event (plain (2 ^ l) c) (none w) ∙ made.is,
        )
      where
        plain : (x y : ℕ) → y ≡ 0 * x + y
        plain x y = omega arith

        none : (x : ℕ) → x ≡ 0 + x
        none x = omega arith

    in_root : (e : ErrorEvent) → EventIs e → Memᴰ e (back l i 0 0)
    in_root e (c, fits, t, is) =
        let w : ℕ = walk_weight gs v l i c in
        let h = (T_and (first_meets v i l i c) (ltb w d)).0 t in
        let below : w < d = ltb→lt w d h.1 in
        Memᴰ.cast (sym (ap₂ event (plain (2 ^ l) c) (none w) ∙ is))
        (in_back l i 0 0 c (omega arith) hi (in_way c fits (of_first_meets v i l i c h.0)) (omega arith))
      where
        plain : (x y : ℕ) → 0 * x + y ≡ y
        plain x y = omega arith

        none : (x : ℕ) → 0 + x ≡ x
        none x = omega arith

-- the list that is met is the definition's
pub back_is : (o : Order) (i l : ℕ) (go : ℕ → ℕ → ℕ → Bool) → Cuts o.generators o.v i l go o.d → 1 ≤ o.v → i < 2 ^ o.v → 1 ≤ l
    → back o.generators o.v i l go l i 0 0 ≡ events_of_length o i l
unfolding is_listed
back_is o i l go cuts pos hi hl =
    sorted_known (By (λ (e : ErrorEvent). e.input)) (by_asymmetric (λ e. e.input)) (EventIs o.generators o.v i l go o.d cuts pos hi)
    (back o.generators o.v i l go l i 0 0) (events_of_length o i l)
    (back_sorted o.generators o.v i l go o.d cuts pos hi l i 0 0 (omega arith) hl hi) (events_of_length-sorted o i l)
    (λ e. (of_root o.generators o.v i l go o.d cuts pos hi hl e, in_root o.generators o.v i l go o.d cuts pos hi e))
    (λ e. (λ m. of_events_of_length o i l m, λ x. Memᴰ.cast (sym x.3) (in_events_of_length o i l x.0 x.1 x.2)))
