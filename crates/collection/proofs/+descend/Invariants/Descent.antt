-- Where the loop of `descend` stands: at which node, with which position and table, so that what is still to be appended is what the call appends.
--     Stage      before a turn.        Standing     where the two ways of a turn meet, at the node that is followed
--     standing_first     before the loop.        met_both, met_one     a turn later, where both nodes before go on, or at most one does
-- Assumes nothing.
use Prim.Native.Nat.{ℕ, ◌+◌, ◌<◌, ◌≤◌}
use native.Mathlib.Omega.{arith}
use mathlib.Core.Path.{◌≡◌, refl, sym, ap, ◌∙◌, subst}
use mathlib.Core.List.{List}
use Rattle.std.specs.Prelude.{None, Some, true, false}
use lib.Dec.{lit<}
use lib.ListN.{length, set}
use Rattle.events.specs.declared.Event.{Event}
use Rattle.collection.specs.declared.Branches.{Branches}
use Rattle.collection.specs.declared.Branches.TheVariants as B
use Rattle.collection.specs.declared.Decision.{Decision}
use Rattle.collection.specs.declared.Decision.TheVariants as D
use Rattle.collection.specs.declared.Node.{Node}
use Rattle.code.specs.Model.Steps.{most_steps}
use Rattle.needed.specs.Model.Tables.{length_at, Tables}
use Rattle.collection.specs.Model.Backward.{goes_on, earlier, finished, found, appends, decided, ways_on, last_of, decided_last, Walkable, Back, TwoBack, Descent}
use Rattle.collection.proofs.Nodes.{earlier_node, earlier_shorter, last_before, last_has, ways_both, ways_one, last_found, ways_none, decided_goes}
use Rattle.collection.proofs.Appends.{Kept, appends_kept, node_longer, node_both, node_one, node_open, node_cut, node_end, node_ends}

-- a call: the work area, the node, the table and the position in it
pub record Call : Type 0 where
  pub ys : List ℕ
  pub node : Node
  pub l : List Event
  pub at : ℕ

module _ (c : Call) where
  abbrev ys : List ℕ
  ys = c.ys

  abbrev n : ℕ
  n = length c.l

  pub record Standing (p : ℕ) (e : Node) (zs : List Event) : Type 0 where
    pub kept : Kept n (zs, p)
    pub walkable : Walkable e
    pub shorter : e.left ≤ c.node.left
    pub same : appends (found ys e) (zs, p) ≡ appends (found ys c.node) (c.l, c.at)

  pub record Stage (p : ℕ) (e : Node) (zs : List Event) (what : Decision) : Type 0 where
    pub tables : Tables ys
    pub short : length_at ys ≤ most_steps
    pub is_what : what ≡ decided ys p n e
    pub stands : Standing p e zs

  pub standing_first : Walkable c.node → c.at ≤ n + 1 → Standing c.at c.node c.l
  standing_first is near = record { kept = record { size = refl; near = near }; walkable = is; shorter = omega arith; same = refl }

  module _ {p : ℕ} {e : Node} {zs : List Event} {what : Decision} (x : Stage p e zs what) where
    -- ---- a turn

    module _ (more : what ≡ D.On) where
      open_here : decided ys p n e ≡ D.Cut → ⊥
      open_here z = cc (x.is_what)

      no_end : decided ys p n e ≡ D.Event → ⊥
      no_end z = cc (x.is_what)

      some_left : 0 < e.left
      some_left = node_longer ys zs p n e x.stands.kept.size open_here no_end

      -- what `step_back` asks
      pub back_by : (top : ℕ) → top < 2 → Back ys e top
      back_by top h = record { tables = x.tables; walkable = x.stands.walkable; some_left = some_left; top_bit = h }

      walkable_by : (top : ℕ) → top < 2 → Walkable (earlier ys e top)
      walkable_by top h = earlier_node ys e top x.tables x.stands.walkable some_left h

      last_shorter : (last_before ys e).left < e.left
      last_shorter = last_has ys e (λ y. y.left < e.left) (earlier_shorter ys e 0 some_left) (earlier_shorter ys e 1 some_left)

      standing_at : {p' : ℕ} {zs' : List Event} → Kept n (zs', p') → appends (found ys (last_before ys e)) (zs', p') ≡ appends (found ys e) (zs, p)
          → Standing p' (last_before ys e) zs'
      standing_at kept same = record {
        kept = kept;
        walkable = last_has ys e Walkable (walkable_by 0 (lit< tt)) (walkable_by 1 (lit< tt));
        shorter = let less = last_shorter in let before = x.stands.shorter in omega arith;
        same = same ∙ x.stands.same;
      }

      -- the nodes before, whatever they are called
      module _ (low high : Node) (is-low : low ≡ earlier ys e 0) (is-high : high ≡ earlier ys e 1) where
        pub low_walkable : Walkable low
        low_walkable = subst Walkable (sym is-low) (walkable_by 0 (lit< tt))

        -- what `ways_on` asks
        pub two_back : TwoBack ys low high
        two_back = record { tables = x.tables; low_walkable = low_walkable; high_walkable = subst Walkable (sym is-high) (walkable_by 1 (lit< tt)) }

        -- what the call asks
        pub low_descent : Descent ys zs p low
        low_descent =
            let size = x.stands.kept.size in
            let near = x.stands.kept.near in
            record { tables = x.tables; short = x.short; walkable = low_walkable; near = omega arith }

        pub low_shorter : low.left < c.node.left
        low_shorter =
            let less : low.left < e.left = subst (λ (y : Node). y.left < e.left) (sym is-low) (earlier_shorter ys e 0 some_left) in
            let before = x.stands.shorter in
            omega arith

        module _ (ways : Branches) (is : ways ≡ ways_on ys low high) where
          is_ways : ways ≡ ways_on ys (earlier ys e 0) (earlier ys e 1)
          is_ways = cc

          pub met_both : ways ≡ B.Both → (zs' : List Event) (r : ℕ) → (zs', r) ≡ appends (found ys low) (zs, p) → Standing r (last_before ys e) zs'
          met_both b zs' r there =
              let first : (zs', r) ≡ appends (found ys (earlier ys e 0)) (zs, p) = cc in
              let two = ways_both ys (earlier ys e 0) (earlier ys e 1) (cc) in
              subst (λ (u : List Event × ℕ). Standing u.1 (last_before ys e) u.0) (sym first)
              (standing_at (appends_kept (found ys (earlier ys e 0)) n (zs, p) x.stands.kept) (node_both ys zs p n e x.stands.kept.size open_here no_end two))

          pub met_one : (ways ≡ B.Both → ⊥) → Standing p (last_before ys e) zs
          met_one b =
              let one = ways_one ys (earlier ys e 0) (earlier ys e 1) (λ z. b (is_ways ∙ z)) in
              standing_at x.stands.kept (node_one ys zs p n e x.stands.kept.size open_here no_end one)

          last_same : last_of ways low high ≡ last_of (ways_on ys (earlier ys e 0) (earlier ys e 1)) (earlier ys e 0) (earlier ys e 1)
          last_same = cc is_ways

          module _ (last : Node) (is_last : Some last ≡ last_of ways low high) where
            goes : (last ≡ last_before ys e) × (goes_on ys (last_before ys e) ≡ true)
            goes = last_found ys (earlier ys e 0) (earlier ys e 1) last (sym (is_last ∙ last_same))

            last_is : last ≡ last_before ys e
            last_is = goes.0

            pub last_left : last.left < e.left
            last_left = rw last_is last_shorter

            decided_there : (at room : ℕ) (then : Decision) → then ≡ decided_last at room last.left → then ≡ decided ys at room last
            decided_there at room then there = there ∙ decided_goes ys at room last true (ap (goes_on ys) last_is ∙ goes.1)

            -- the next turn, at the last that goes on
            pub stage-next : (p' : ℕ) (zs' : List Event) (then : Decision) → Standing p' (last_before ys e) zs' → then ≡ decided_last p' n last.left → Stage p' last zs' then
            stage-next p' zs' then stands there = record {
              tables = x.tables;
              short = x.short;
              is_what = decided_there p' n then there;
              stands = subst (λ (y : Node). Standing p' y zs') (sym last_is) stands;
            }

          -- neither goes on: nothing is left to be appended
          pub none_left : None ≡ last_of ways low high → (p' : ℕ) (zs' : List Event) → Standing p' (last_before ys e) zs'
              → (zs', p') ≡ appends (found ys c.node) (c.l, c.at)
          none_left none p' zs' stands =
              let last : Node = last_before ys e in
              let no : goes_on ys last ≡ false = ways_none ys (earlier ys e 0) (earlier ys e 1) (sym (none ∙ last_same)) in
              node_cut ys zs' p' n last stands.kept.size (sym (decided_goes ys p' n last false no)) ∙ stands.same

    -- ---- the end

    pub left_over : (what ≡ D.Event → ⊥) → (what ≡ D.On → ⊥) → (zs, p) ≡ appends (found ys c.node) (c.l, c.at)
    left_over no-event no_more = node_ends ys zs p n e x.stands.kept.size (λ z. no-event (x.is_what ∙ z)) (λ z. no_more (x.is_what ∙ z)) ∙ x.stands.same

    module _ (last : what ≡ D.Event) where
      still_open : decided ys p n e ≡ D.Cut → ⊥
      still_open z = cc (x.is_what)

      pub inside : p ≤ n
      inside = node_open ys zs p n e x.stands.kept.size still_open

      pub one_more : (made : Event) → made ≡ finished ys e → (zs' : List Event) (r : ℕ) → zs' ≡ set zs p made → r ≡ p + 1
          → (zs', r) ≡ appends (found ys c.node) (c.l, c.at)
      one_more made is zs' r stored counted =
          let here : ◌≡◌ {A = List Event × ℕ} (zs', r) (set zs p (finished ys e), p + 1) = cc in
          let last-here : decided ys p n e ≡ D.Event = sym x.is_what ∙ last in
          here ∙ node_end ys zs p n e x.stands.kept.size still_open last-here ∙ x.stands.same
