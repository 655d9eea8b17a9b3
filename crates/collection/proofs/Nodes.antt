-- Laws of the nodes: what the tests come to in each case, that sums stay small one step back, and what the events met from a node are.
-- Assumes nothing.
use Prim.Native.Nat.{ℕ, zero, suc, ◌+◌, ◌*◌, ◌/◌, ◌%◌, ◌^◌, ◌≤◌, ◌<◌}
use native.Mathlib.Omega.{arith}
use mathlib.Core.Path.{◌≡◌, refl, sym, ap, ap₂, ◌∙◌}
use mathlib.Core.Logic.{◌≢◌}
use mathlib.Core.Bool.{Bool, true, false, not, cond, ◌&&◌, ◌||◌}
use mathlib.Core.List.{List}
use Rattle.std.specs.Prelude.{None, Some}
use lib.Dec.{T, ltb, eqb, ltb→lt, not_T}
use Rattle.lists.proofs.Choices.{eqb_passes, eqb_fails}
use Rattle.lists.proofs.Tests.{true_of_T, false_of_T_not}
use Rattle.code.specs.Model.Steps.{most_steps}
use Rattle.collection.specs.declared.Branches.{Branches}
use Rattle.collection.specs.declared.Branches.TheVariants as B
use Rattle.collection.specs.declared.Decision.{Decision}
use Rattle.collection.specs.declared.Decision.TheVariants as D
use Rattle.collection.specs.declared.Node.{Node}
use Rattle.needed.specs.Model.Tables.{need, step_at, length_at, threshold_at, half_at, Tables, Step}
use Rattle.collection.specs.Model.Backward.{goes_on, earlier, first, decided, ways_on, last_of, decided_last, Walkable, Back}
use Rattle.needed.proofs.Filling.{step_small, need-small}

pub ltb_fails : (m n : ℕ) → n ≤ m → T (not (ltb m n))
ltb_fails m n h = not_T (ltb m n) (λ t. let k = ltb→lt m n t in absurd (omega arith))

-- ---- whether a node goes on

pub goes_root : (work : List ℕ) (e : Node) → e.left ≡ length_at work → true ≡ goes_on work e
unfolding goes_on
goes_root work e h = sym (ap (λ (b : Bool). b || ltb (e.weight + need work e.left e.state) (threshold_at work)) (true_of_T (eqb e.left (length_at work)) (eqb_passes e.left (length_at work) h)))

pub goes_below : (work : List ℕ) (e : Node) (r : ℕ) → e.left ≢ length_at work → r ≡ need work e.left e.state
    → ltb (e.weight + r) (threshold_at work) ≡ goes_on work e
unfolding goes_on
goes_below work e r n is =
    ap (λ (x : ℕ). ltb (e.weight + x) (threshold_at work)) is
    ∙ sym (ap (λ (b : Bool). b || ltb (e.weight + need work e.left e.state) (threshold_at work)) (false_of_T_not (eqb e.left (length_at work)) (eqb_fails e.left (length_at work) n)))

-- ---- what to do at a node

-- whichever test is asked first
pub decided_goes : (work : List ℕ) (at room : ℕ) (e : Node) (g : Bool) → goes_on work e ≡ g → cond g (decided_last at room e.left) D.Cut ≡ decided work at room e
unfolding decided
decided_goes work at room e g h =
    ap (λ (b : Bool). cond b (decided_last at room e.left) D.Cut) (sym h) ∙ in_order (goes_on work e) (ltb room at) (eqb e.left 0)
  where
    in_order : (a b z : Bool) → ◌≡◌ {A = Decision} (cond a (cond b D.Cut (cond z D.Event D.On)) D.Cut) (cond b D.Cut (cond a (cond z D.Event D.On) D.Cut))
    in_order true b z = refl
    in_order false true z = refl
    in_order false false z = refl

-- ---- one step back

pub top_small : (top h : ℕ) → top < 2 → h ≤ 128 → top * h ≤ 128
top_small zero h p q = omega arith
top_small (suc zero) h p q = omega arith
top_small (suc (suc top)) h p q = absurd (omega arith)

pub before_small : (work : List ℕ) (e : Node) (top : ℕ) → Tables work → Walkable e → top < 2 → e.state / 2 + top * half_at work < 256
before_small work e top ok n h = let small = top_small top (half_at work) h ok.half_small in let s = n.state_small in omega arith

pub earlier_node : (work : List ℕ) (e : Node) (top : ℕ) → Tables work → Walkable e → 0 < e.left → top < 2 → Walkable (earlier work e top)
unfolding earlier
earlier_node work e top ok n pos h =
    let step = step_small work {p = e.state / 2 + top * half_at work} {b = e.state % 2} record { tables = ok; state = before_small work e top ok n h; input = omega arith } in
    let left = n.left_small in
    let weight = n.weight_small in
    record { state_small = before_small work e top ok n h; left_small = omega arith; weight_small = omega arith }

pub first_node : (steps k : ℕ) → steps ≤ most_steps → k / steps < 256 → k % steps < steps → Walkable (first steps k)
unfolding first
first_node steps k most state rem = record { state_small = state; left_small = omega arith; weight_small = omega arith }

-- the sums of `step_back`
module _ (work : List ℕ) (e : Node) (top : ℕ) (ok : Back work e top) where
  pub step_before : Step work (e.state / 2 + top * half_at work) (e.state % 2)
  step_before = record { tables = ok.tables; state = before_small work e top ok.tables ok.walkable ok.top_bit; input = omega arith }

  pub weight_fits : (r : ℕ) → r ≡ step_at work (e.state / 2 + top * half_at work) (e.state % 2) → e.weight + r < 2 ^ 64
  weight_fits r is = let step = step_small work step_before in let weight = ok.walkable.weight_small in omega arith

pub sum_fits : (e : Node) (r : ℕ) (work : List ℕ) → Walkable e → r ≡ need work e.left e.state → e.weight + r < 2 ^ 64
sum_fits e r work n is = let small = need-small work e.left e.state in let weight = n.weight_small in omega arith

pub earlier_shorter : (work : List ℕ) (e : Node) (top : ℕ) → 0 < e.left → (earlier work e top).left < e.left
unfolding earlier
earlier_shorter work e top pos = omega arith

-- ---- of two nodes, which go on, and the last that does

abbrev ways : Bool → Bool → Branches
ways a b = cond a (cond b B.Both B.Low) (cond b B.High B.Neither)

module _ (work : List ℕ) (x y : Node) where
  pub ways_are : (a b : Bool) → goes_on work x ≡ a → goes_on work y ≡ b → ways a b ≡ ways_on work x y
  unfolding ways_on
  ways_are a b p q = sym (ap₂ ways p q)

  pub ways_both : ways_on work x y ≡ B.Both → T (goes_on work x && goes_on work y)
  unfolding ways_on
  ways_both e = of_both (goes_on work x) (goes_on work y) e
    where
      of_both : (a b : Bool) → ways a b ≡ B.Both → T (a && b)
      of_both true true e = tt
      of_both true false e = cc
      of_both false true e = cc
      of_both false false e = cc

  pub ways_one : (ways_on work x y ≡ B.Both → ⊥) → T (not (goes_on work x && goes_on work y))
  unfolding ways_on
  ways_one n = one (goes_on work x) (goes_on work y) n
    where
      one : (a b : Bool) → (ways a b ≡ B.Both → ⊥) → T (not (a && b))
      one true true n = absurd (n refl)
      one true false n = tt
      one false b n = tt

  -- the second where it goes on, and else the first where that does
  abbrev last : Node
  last = cond (goes_on work y) y x

  ways_last : last_of (ways_on work x y) x y ≡ cond (goes_on work last) (Some last) None
  unfolding ways_on
  ways_last = chosen (goes_on work x) (goes_on work y) ∙ ap (λ (g : Bool). cond g (Some last) None) (sym (of_chosen (goes_on work y)))
    where
      chosen : (a b : Bool) → last_of (ways a b) x y ≡ cond (cond b b a) (Some (cond b y x)) None
      chosen true true = refl
      chosen true false = refl
      chosen false true = refl
      chosen false false = refl

      of_chosen : (b : Bool) → goes_on work (cond b y x) ≡ cond b (goes_on work y) (goes_on work x)
      of_chosen true = refl
      of_chosen false = refl

  pub last_found : (e : Node) → last_of (ways_on work x y) x y ≡ Some e → (e ≡ last) × (goes_on work last ≡ true)
  last_found e is = of_some (goes_on work last) (sym ways_last ∙ is)
    where
      of_some : (g : Bool) → cond g (Some last) None ≡ Some e → (e ≡ last) × (g ≡ true)
      of_some true is' = (cc, refl)
      of_some false is' = cc

  -- none goes on where the last does not
  pub ways_none : last_of (ways_on work x y) x y ≡ None → goes_on work last ≡ false
  ways_none is = of_none (goes_on work last) (sym ways_last ∙ is)
    where
      of_none : (g : Bool) → cond g (Some last) None ≡ None → g ≡ false
      of_none true is' = cc
      of_none false is' = refl

-- the last node before that goes on, or the one with the highest bit clear
abbrev pub last_before : List ℕ → Node → Node
last_before work e = cond (goes_on work (earlier work e 1)) (earlier work e 1) (earlier work e 0)

-- what both nodes before have
pub last_has : (work : List ℕ) (e : Node) (P : Node → Type 0) → P (earlier work e 0) → P (earlier work e 1) → P (last_before work e)
last_has work e P low high = of_two (goes_on work (earlier work e 1))
  where
    of_two : (b : Bool) → P (cond b (earlier work e 1) (earlier work e 0))
    of_two true = high
    of_two false = low
