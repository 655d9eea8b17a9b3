-- What the recursion meets over a work area that is ready and filled: the definition's events of the state and length at hand, as records of the
-- event table (`found_is`). The inputs of a node are those of a walk to the state, so they fit two halves of 64 bits on every link (`inputs_fit`).
-- Assumes nothing.
use Prim.Native.Nat.{ℕ, zero, suc, ◌+◌, ◌-◌, ◌*◌, ◌/◌, ◌%◌, ◌^◌, ◌≤◌, ◌<◌}
use native.Mathlib.Nat.{div-add-mod', pow-succ'}
use native.Mathlib.Omega.{arith}
use mathlib.Core.Path.{◌≡◌, refl, sym, ap, ap₂, ◌∙◌, subst}
use mathlib.Core.Bool.{Bool, true, false, cond, ◌||◌}
use mathlib.Core.List.{List, [], ◌∷◌, ◌++◌, map, map-append}
use lib.Arith.{digits_div}
use lib.Dec.{T, ltb, eqb}
use lib.Pow.{pow_pos, shl-shr, shr_lt}
use Rattle.poly.proofs.Sum.{half_push, mod2_push}
use Rattle.poly.proofs.Shifts.{push_low_fits, push_carry}
use Rattle.lists.proofs.Choices.{cond_cong_on}
use Rattle.code.specs.Links.{steps_of, event_states}
use Rattle.code.specs.Trellis.{next, step_weight, walk}
use Rattle.code.proofs.Links.{states_le}
use Rattle.code.proofs.Ends.{inputs_fit}
use Rattle.order.specs.Order.{Order}
use Rattle.order.specs.Model.Accepted.{AcceptedCode}
use Rattle.events.specs.declared.Event.{Event}
use Rattle.events.specs.Events.{entry, events_of_length}
use Rattle.collection.specs.declared.Node.{Node}
use Rattle.needed.specs.Model.Tables.{need, step_at, length_at, half_at}
use Rattle.collection.specs.Model.Backward.{goes_on, earlier, finished, found_in, found, first}
use Rattle.collection.proofs.Halving.{twice_half, before_fits}
use Rattle.collection.proofs.Back.{low_leads, high_leads, back, back_is}
use Rattle.needed.proofs.Rows.{Filled}
use Rattle.collection.proofs.Ready.{Ready, step_is, go, ready_cuts, states_few}

-- ---- the halves of an input

low_more : (c b : ℕ) → b < 2 → c % 2 ^ 64 * 2 % 2 ^ 64 + b ≡ (2 * c + b) % 2 ^ 64
low_more c b h = omega arith

high_more : (c b : ℕ) → b < 2 → c / 2 ^ 64 < 2 ^ 63 → c / 2 ^ 64 * 2 % 2 ^ 64 + c % 2 ^ 64 / 2 ^ 63 ≡ (2 * c + b) / 2 ^ 64
high_more c b h g =
    ap (λ (x : ℕ). x + c % 2 ^ 64 / 2 ^ 63) (no_overflow (c / 2 ^ 64) g)
    ∙ sym (ap (λ (x : ℕ). (2 * x + b) / 2 ^ 64) (sym (div-add-mod' c (2 ^ 64))) ∙ ap (λ (x : ℕ). x / 2 ^ 64) (push_carry (c / 2 ^ 64) (c % 2 ^ 64) b)
    ∙ digits_div (c / 2 ^ 64 * 2 + c % 2 ^ 64 / 2 ^ 63) (push_low_fits (c % 2 ^ 64) b h))
  where
    no_overflow : (x : ℕ) → x < 2 ^ 63 → x * 2 % 2 ^ 64 ≡ x * 2
    no_overflow x p = omega arith

-- there is room for one input more
high_fits : (c : ℕ) → c * 2 ^ 1 < 2 ^ 128 → c / 2 ^ 64 < 2 ^ 63
high_fits c h = shr_lt 63 64 (subst (λ (x : ℕ). x < 2 ^ 127) (shl-shr c 1) (shr_lt 127 1 h))

input_lt : (c b k : ℕ) → c < 2 ^ k → b < 2 → 2 * c + b < 2 ^ suc k
input_lt c b k h g = subst (λ (x : ℕ). 2 * c + b < x) (sym (pow-succ' 2 k)) (twice c b (2 ^ k) h g)
  where
    twice : (x y m : ℕ) → x < m → y < 2 → 2 * x + y < 2 * m
    twice x y m p q = omega arith

-- where t of l steps are left from s, the inputs c gathered so far are those of the other steps, a walk from s to i
record Behind (v i l t s c : ℕ) : Type 0 where
  fits : c < 2 ^ (l - t)
  arrives : walk v (l - t) s c ≡ i

-- one step more, from a state that leads to s
behind_more : (v i l t s c p : ℕ) → t < l → next v p (s % 2) ≡ s → Behind v i l (suc t) s c → Behind v i l t p (2 * c + s % 2)
unfolding walk
behind_more v i l t s c p less leads h =
    let one_more : suc (l - suc t) ≡ l - t = omega arith in
    record {
      fits = subst (λ (k : ℕ). 2 * c + s % 2 < 2 ^ k) one_more (input_lt c (s % 2) (l - suc t) h.fits (omega arith));
      arrives =
          sym (ap (λ (k : ℕ). walk v k p (2 * c + s % 2)) one_more)
          ∙ ap₂ (walk v (l - suc t)) (ap (next v p) (mod2_push c (s % 2) (omega arith)) ∙ leads) (half_push c (s % 2) (omega arith)) ∙ h.arrives;
    }

-- no step
behind_none : (v i l : ℕ) → Behind v i l l i 0
unfolding walk
behind_none v i l = let none : l - l ≡ 0 = omega arith in record { fits = pow_pos (l - l); arrives = ap (λ (k : ℕ). walk v k i 0) none }

-- a node of t steps left from s, the later inputs c and their weight w
abbrev node : ℕ → ℕ → ℕ → ℕ → Node
node t s c w = record { state = s; left = t; weight = w; low = c % 2 ^ 64; high = c / 2 ^ 64 }

map_cond : {A B : Type 0} (f : A → B) (b : Bool) (xs ys : List A) → map f (cond b xs ys) ≡ cond b (map f xs) (map f ys)
map_cond f true xs ys = refl
map_cond f false xs ys = refl

-- `room`: a walk to i that is shorter than l has room for one input more
module _ (gs : List ℕ) (v d : ℕ) (work : List ℕ) (ready : Ready gs v d work) (i words rows l : ℕ) (filled : Filled i words rows work)
    (pos : 1 ≤ v) (most : v ≤ 8) (covers : 2 ^ v ≤ 8 * words) (hi : i < 2 ^ v) (short : l ≤ rows) (hl : 1 ≤ l) (hd : d ≤ 64) (length_is : length_at work ≡ l)
    (room : (k s c : ℕ) → k < l → c < 2 ^ k → walk v k s c ≡ i → c * 2 ^ 1 < 2 ^ 128) where
  abbrev test : ℕ → ℕ → ℕ → Bool
  test = go gs v d work ready i words rows l filled pos most covers hi short

  few : 2 ^ v ≤ 256
  few = states_few gs v d work ready i words rows l filled pos most covers hi short

  goes_same : (t s c w : ℕ) → goes_on work (node t s c w) ≡ test t s w
  unfolding goes_on
  goes_same t s c w = ap₂ (λ (x y : ℕ). eqb t x || ltb (w + need work t s) y) length_is ready.threshold_is

  -- the node before, by its highest bit
  earlier_is : (t s c w top p : ℕ) → p ≡ s / 2 + top * half_at work → p < 256 → c / 2 ^ 64 < 2 ^ 63
      → earlier work (node (suc t) s c w) top ≡ node t p (2 * c + s % 2) (w + step_weight gs p (s % 2))
  unfolding earlier
  earlier_is t s c w top p e hp hc =
      let b : ℕ = s % 2 in
      let hb : b < 2 = omega arith in
      let state_is : s / 2 + top * half_at work ≡ p = sym e in
      let weight_is : w + step_at work (s / 2 + top * half_at work) b ≡ w + step_weight gs p b =
      ap (λ (x : ℕ). w + step_at work x b) state_is ∙ ap (λ (x : ℕ). w + x) (step_is gs v d work ready p b hp hb) in
      λ k. record { state = state_is k; left = one_less t k; weight = weight_is k; low = low_more c b hb k; high = high_more c b hb hc k }
    where
      one_less : (x : ℕ) → suc x - 1 ≡ x
      one_less x = omega arith

  found_back : (t s c w : ℕ) → t ≤ l → s < 2 ^ v → Behind v i l t s c → found_in t work (node t s c w) ≡ map entry (back gs v i l test t s c w)
  unfolding found_in back finished entry
  found_back zero s c w ht hs hc =
      cond_cong_on (goes_on work (node 0 s c w)) (finished work (node 0 s c w) ∷ []) (entry (record { state = i; length = l; weight = w; input = c }) ∷ []) [] []
      (λ g.
      let end = (ready_cuts gs v d work ready i words rows l filled pos most covers hi short hl hd).ends s w hs (subst T (goes_same 0 s c w) g) in
      λ k. record { state = end.0 k; length = length_is k; weight = w; low = c % 2 ^ 64; high = c / 2 ^ 64 } ∷ []) (λ _. refl)
      ∙ ap (λ (b : Bool). cond b (entry (record { state = i; length = l; weight = w; input = c }) ∷ []) []) (goes_same 0 s c w)
      ∙ sym (map_cond entry (test 0 s w) (record { state = i; length = l; weight = w; input = c } ∷ []) [])
  found_back (suc t) s c w ht hs hc =
      let fit = before_fits (2 ^ v) (2 ^ (v - 1)) (twice_half v pos) s hs in
      let small : 2 ^ v ≤ 256 = few in
      let b : ℕ = s % 2 in
      let hb : b < 2 = omega arith in
      let high : c / 2 ^ 64 < 2 ^ 63 = high_fits c (room (l - suc t) s c (omega arith) hc.fits hc.arrives) in
      let half = ready.half_is in
      let first-list : found_in t work (earlier work (node (suc t) s c w) 0) ≡ map entry (back gs v i l test t (s / 2) (2 * c + b) (w + step_weight gs (s / 2) b)) =
      ap (found_in t work) (earlier_is t s c w 0 (s / 2) (no_top (s / 2) (half_at work)) (omega arith) high)
      ∙ found_back t (s / 2) (2 * c + b) (w + step_weight gs (s / 2) b) (omega arith) (omega arith) (behind_more v i l t s c (s / 2) ht (low_leads v pos s hs) hc) in
      let second-list : found_in t work (earlier work (node (suc t) s c w) 1) ≡ map entry (back gs v i l test t (s / 2 + 2 ^ (v - 1)) (2 * c + b) (w + step_weight gs (s / 2 + 2 ^ (v - 1)) b)) =
      ap (found_in t work) (earlier_is t s c w 1 (s / 2 + 2 ^ (v - 1)) (one_top (s / 2) (half_at work) (2 ^ (v - 1)) half) (omega arith) high)
      ∙ found_back t (s / 2 + 2 ^ (v - 1)) (2 * c + b) (w + step_weight gs (s / 2 + 2 ^ (v - 1)) b) (omega arith) fit.1 (behind_more v i l t s c (s / 2 + 2 ^ (v - 1)) ht (high_leads v pos s hs) hc) in
      ap₂ (λ (x : Bool) (y : List Event). cond x y []) (goes_same (suc t) s c w)
      (ap₂ (λ (x y : List Event). x ++ y) first-list second-list
      ∙ sym (map-append entry (back gs v i l test t (s / 2) (2 * c + b) (w + step_weight gs (s / 2) b)) (back gs v i l test t (s / 2 + 2 ^ (v - 1)) (2 * c + b) (w + step_weight gs (s / 2 + 2 ^ (v - 1)) b))))
      ∙ sym (map_cond entry (test (suc t) s w) (back gs v i l test t (s / 2) (2 * c + b) (w + step_weight gs (s / 2) b) ++ back gs v i l test t (s / 2 + 2 ^ (v - 1)) (2 * c + b) (w + step_weight gs (s / 2 + 2 ^ (v - 1)) b)) [])
    where
      no_top : (x h : ℕ) → x ≡ x + 0 * h
      no_top x h = omega arith

      one_top : (x h m : ℕ) → h ≡ m → x + m ≡ x + 1 * h
      one_top x h m e = omega arith

-- the events of turn k
pub found_is : (o : Order) (acc : AcceptedCode o) (work : List ℕ) (words k : ℕ) → Ready o.generators o.v o.d work → Filled (k / steps_of o) words (steps_of o) work
    → 2 ^ o.v ≤ 8 * words → k / steps_of o < event_states o → k % steps_of o + 1 ≤ steps_of o → o.d ≤ 64 → length_at work ≡ k % steps_of o + 1
    → found work (first (steps_of o) k) ≡ map entry (events_of_length o (k / steps_of o) (k % steps_of o + 1))
unfolding first
found_is o acc work words k ready filled covers begins short hd length_is =
    let steps : ℕ = steps_of o in
    let i : ℕ = k / steps in
    let l : ℕ = k % steps + 1 in
    let pos = acc.some_memory in
    let most = acc.small_memory in
    let some : 1 ≤ l = omega arith in
    let hi : i < 2 ^ o.v = let few = states_le o in omega arith in
    found_back o.generators o.v o.d work ready i words steps l filled pos most covers hi short some hd length_is
    (λ n s c less fits arrives. inputs_fit o acc i s n c begins fits arrives 1 (omega arith)) l i 0 0 (omega arith) hi (behind_none o.v i l)
    ∙ ap (map entry) (back_is o i l (go o.generators o.v o.d work ready i words steps l filled pos most covers hi short)
    (ready_cuts o.generators o.v o.d work ready i words steps l filled pos most covers hi short some hd) pos hi some)
