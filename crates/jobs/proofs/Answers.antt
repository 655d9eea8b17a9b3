-- What a call answers and leaves, at each of its ends: too many events, too many paths, events alone, or all listed and the job done over it.
-- Assumes nothing.
use Prim.Native.Nat.{ℕ, suc, ◌-◌, ◌≤◌, ◌<◌}
use native.Mathlib.Omega.{arith}
use mathlib.Core.Path.{◌≡◌, refl, sym, ap, ap₂, ◌∙◌, subst}
use mathlib.Core.Logic.{◌⊎◌, ◌≢◌, inl, inr, ⊎_elim}
use mathlib.Core.Bool.{Bool, true}
use mathlib.Core.List.{List, [], ◌∷◌, ◌++◌, Memᴰ}
use lib.ListN.{length, replicate, drop}
use Rattle.lists.specs.Lists.{padded, cleared}
use Rattle.lists.proofs.Tests.{lt_or_ge}
use Rattle.order.specs.Order.{Order, with_length}
use Rattle.order.specs.Answer.{Answer, accepted, refused, refusal_number}
use Rattle.order.specs.Answers.{order_in}
use Rattle.events.specs.declared.Event.{Event}
use Rattle.events.specs.Events.{events, event_table}
use Rattle.paths.specs.Paths.{paths, plain_counts, path_table}
use Rattle.collection.specs.Model.Gathered.{AllEvents}
use Rattle.filling.specs.Model.Filling.{AllPaths}
use Rattle.undetected.specs.Undetected.{undetected_counts}
use Rattle.undetected.specs.Model.Steps.{Readable, divided_counts}
use Rattle.undetected.proofs.Counts.{length-divided_counts, counted-all, counted-cleared}
use Rattle.choice.specs.Choice.{candidates, first_of, Choice, choice_among, choice}
use Rattle.choice.specs.Model.Steps.{laid, offered_by, CheckDegree}
use Rattle.choice.proofs.Best.{best_alone}
use Rattle.choice.proofs.Offered.{all_offered, some_offered_of}
use Rattle.choice.proofs.Left.{chosen_counts, chosen-is-choice}
use Rattle.narrowing.specs.Narrowed.{narrowed, longest, set_choice}
use Rattle.narrowing.specs.Model.Firsts.{Ranked, ToAdd}
use Rattle.narrowing.proofs.Narrowed.{some_left}
use Rattle.narrowing.proofs.Ranked.{ranked_to_add, ranked_more, kept_narrowed}
use Rattle.narrowing.specs.declared.Firsts.{Firsts}
use Rattle.lengths.specs.Model.Noted.{AllFit, OneTooMany}
use Rattle.lengths.specs.Shorter.{for_each}
use Rattle.lengths.proofs.Listed.{readable_left, divided_left}
use Rattle.row.specs.declared.Row.{Row}
use Rattle.jobs.specs.declared.Job.{Job}
use Rattle.jobs.specs.declared.Job.TheVariants as J
use Rattle.jobs.specs.declared.Plan.{Plan}
use Rattle.row.specs.Answered.{row}
use Rattle.jobs.specs.Jobs.{SearchTables, search_tables, cleared_search, filled_search, chosen, collected, listed, counted, rows_of, made, ran}
use Rattle.jobs.specs.Model.Steps.{row_order, listed_before, ToList, ToChooseFor, ToServe, JobAsks, ToFinishOver, LeftBy, ToNarrow, ToFinish, ChoseOf, Finished, MadeAs}
use Rattle.jobs.proofs.Fits.{fit_or_not, too_many_events, too_many_paths, all_fit}

abbrev Outcome : Type 0
Outcome = Answer Row × SearchTables

-- so many are told to share the counts
abbrev shared_by : (ℕ → ℕ) → Choice → Choice
shared_by f c = record { polynomial = c.polynomial; shared = f c.shared; undetected = c.undetected }

-- alone, it is the best
alone_chosen : (counts : ℕ → List ℕ) (p : ℕ) → shared_by (λ n. 0) (choice_among counts (p ∷ [])) ≡ record { polynomial = p; shared = 0; undetected = counts p }
unfolding choice_among first_of
alone_chosen counts p = ap (λ (ps : List ℕ). record { polynomial = first_of ps; shared = 0; undetected = counts (first_of ps) }) (best_alone counts p)

-- events collected for l, a row for o
module _ (Ns : List ℕ) (l o : Order) (t : SearchTables) where
  abbrev ne : ℕ
  ne = length t.events

  abbrev np : ℕ
  np = length t.paths

  pub ran_13 : (job : Job) → ne < length (events l) → ran job Ns l o t ≡ (refused 13, cleared_search t)
  unfolding ran
  ran_13 job h = sym (too_many_events l _ ne np (cleared_search t) _ h)

  module _ (fits : length (events l) ≤ ne) where
    pub ran_14 : (job : Job) → OneTooMany np (rows_of job Ns o) → ran job Ns l o t ≡ (refused 14, cleared_search t)
    unfolding ran
    ran_14 job h = sym (too_many_paths l (rows_of job Ns o) ne np (cleared_search t) (made job Ns l o t) fits h)

    pub ran-made : (job : Job) → AllFit np (rows_of job Ns o) → made job Ns l o t ≡ ran job Ns l o t
    unfolding ran
    ran-made job h = all_fit l (rows_of job Ns o) ne np (cleared_search t) (made job Ns l o t) fits h

  -- ---- a refusal from 13 on clears everything

  abbrev Ends : Job → Type 0
  Ends job = (made job Ns l o t ≡ ran job Ns l o t) ⊎ ((k : ℕ) × (ran job Ns l o t ≡ (refused (suc k), cleared_search t)))

  ended : (job : Job) → Ends job
  ended job = elim (lt_or_ge ne (length (events l))) [
    | inl more ↦ inr (12, ran_13 job more)
    | inr fits ↦ ⊎_elim (λ h. inl (ran-made fits job h)) (λ h. inr (13, ran_14 fits job h)) (fit_or_not np (rows_of job Ns o))
  ]

  made_accepted : (job : Job) → refusal_number (made job Ns l o t).0 ≡ 0
  unfolding refusal_number made collected listed chosen counted
  made_accepted J.Collect = refl
  made_accepted J.List = refl
  made_accepted J.Choose = refl
  made_accepted J.ChooseFor = refl
  made_accepted (J.Count p) = refl

  pub late : (job : Job) → (refusal_number (ran job Ns l o t).0 ≡ 0 → ⊥) → ran job Ns l o t ≡ ((ran job Ns l o t).0, cleared_search t)
  late job some = ⊎_elim
      (λ e. absurd (some (sym (ap (λ (x : Outcome). refusal_number x.0) e) ∙ made_accepted job)))
      (λ e. e.1 ∙ ap (λ (x : Outcome). (x.0, cleared_search t)) (sym e.1))
      (ended job)

  -- ---- what is counted over the tables that are left where all is listed

  module _ (es : List Event) (ls ms us : List ℕ) (n at : ℕ) (events-left : AllEvents l t.events es n) (zeros : us ≡ cleared 0 t.work) where
    -- events alone
    pub only_collected : (r : Row) → r ≡ row n 0 0 0 → ◌≡◌ {A = Outcome} (accepted r, search_tables es t.paths t.plain t.undetected us) (made J.Collect Ns l o t)
    unfolding made collected
    only_collected r e =
        ap (λ (x : Row). (accepted x, search_tables es t.paths t.plain t.undetected us)) e
        ∙ (λ i. (accepted (row (events-left.number i) 0 0 0), search_tables (events-left.table i) t.paths t.plain t.undetected (zeros i)))

    module _ (paths-left : AllPaths o t.paths ls t.plain ms at) (few : ℕ) (is-few : few ≡ length (events o)) where
      abbrev nc : ℕ
      nc = length t.plain

      abbrev nu : ℕ
      nu = length t.undetected

      -- what is left, with the undetected list
      abbrev done : List ℕ → SearchTables
      done after = search_tables es ls ms after us

      tables_left : (after list : List ℕ) → after ≡ list
          → done after ≡ search_tables (event_table ne l) (path_table np o) (padded nc 0 (plain_counts o)) list (cleared 0 t.work)
      tables_left after list e = λ i. search_tables (events-left.table i) (paths-left.words i) (paths-left.plain_counts_are i) (e i) (zeros i)

      told : (r : Row) (p s : ℕ) → r ≡ row few at p s → accepted r ≡ accepted (row (length (events o)) (length (paths o)) p s)
      told r p s e = ap (λ (x : Row). accepted x) e ∙ (λ i. accepted (row (is-few i) (paths-left.number i) p s))

      paired : {a b : Answer Row} {x y : SearchTables} → a ≡ b → x ≡ y → ◌≡◌ {A = Outcome} (a, x) (b, y)
      paired e f = ap₂ (λ a x. (a, x)) e f

      pub only_listed : (r : Row) (after : List ℕ) → after ≡ t.undetected → r ≡ row few at 0 0 → ◌≡◌ {A = Outcome} (accepted r, done after) (made J.List Ns l o t)
      unfolding made listed
      only_listed r after same e = paired (told r 0 0 e) (tables_left after t.undetected same)

      module _ (may : ToChooseFor o t.plain t.undetected) where
        readable : Readable o.N (o.d - 1) ls ms
        readable = readable_left o may.list.order.code paths-left may.list.plain_room

        divided : (p : ℕ) → divided_counts o.m ls ms (o.d - 1) p ≡ undetected_counts o p
        divided = divided_left o may.list.order.code paths-left

        degree : CheckDegree o.m
        degree = record { some_degree = may.whole.degree.some_degree; at_most_12 = may.whole.degree.at_most_12 }

        over : ToFinishOver o.N o.m (o.d - 1) ls ms t.undetected
        over = record { readable = readable; degree = degree; counts = may.undetected_room }

        -- in a list of zeros, as the choice leaves it
        laid_left : (p : ℕ) → laid (undetected_counts o p) (replicate nu 0) ≡ padded nu 0 (undetected_counts o p)
        unfolding laid
        laid_left p =
            let blank : List ℕ = replicate nu 0 in
            ap (λ (x : List ℕ). laid x blank) (sym (divided p))
            ∙ ap (λ (k : ℕ). divided_counts o.m ls ms (o.d - 1) p ++ drop k blank) (length-divided_counts o.m p ls ms (o.d - 1))
            ∙ sym (counted-all o.m p ls ms (o.d - 1) blank)
            ∙ counted-cleared o.m p ls ms (o.d - 1) nu may.undetected_room ∙ ap (padded nu 0) (divided p)

        -- the best of those offered is told, and so many
        pub is_chosen : (ps : List ℕ) (shared : ℕ → ℕ) (r : Row) (after : List ℕ) → ChoseOf ps shared o.m (o.d - 1) few at ls ms t.undetected after r
            → ◌≡◌ {A = Outcome} (accepted r, done after) (chosen l o t (shared_by shared (choice_among (undetected_counts o) ps)))
        unfolding chosen filled_search
        is_chosen ps shared r after (x, chose, e) =
            paired (told r x.polynomial (shared x.shared) e) (tables_left after _ (chosen_counts o divided chose ∙ laid_left x.polynomial))
            ∙ ap (λ (c : Choice). chosen l o t (shared_by shared c)) (chosen-is-choice o divided chose)

        -- ---- of all

        pub best_of_all : (r : Row) (after : List ℕ) → ChoseOf (offered_by o.m (replicate 2048 true)) (λ n. n) o.m (o.d - 1) few at ls ms t.undetected after r
            → ◌≡◌ {A = Outcome} (accepted r, done after) (made J.Choose Ns l o t)
        unfolding made choice
        best_of_all r after chose =
            is_chosen _ (λ n. n) r after chose ∙ ap (λ (ps : List ℕ). chosen l o t (choice_among (undetected_counts o) ps)) (all_offered o.m degree.at_most_12)

        -- ---- of one, whose best is itself

        pub best_of_one : (p : ℕ) (r : Row) (after : List ℕ) → ChoseOf (p ∷ []) (λ n. 0) o.m (o.d - 1) few at ls ms t.undetected after r
            → ◌≡◌ {A = Outcome} (accepted r, done after) (made (J.Count p) Ns l o t)
        unfolding made counted
        best_of_one p r after chose =
            is_chosen (p ∷ []) (λ n. 0) r after chose ∙ ap (λ (c : Choice). chosen l o t (shared_by (λ n. 0) c)) (alone_chosen (undetected_counts o) p)

        -- ---- of those left by a set of lengths

        module _ (noted : Firsts) (ranked : Ranked o Ns noted) (few-lengths : length Ns ≤ 7) where
          to_add : ToAdd o.N (o.d - 1) o.m ls ms noted
          to_add = let light = may.list.order.threshold in ranked_to_add o ranked few-lengths readable degree light.some_weight light.at_most_64

          left_is : (flags : List Bool) → LeftBy o.m (o.d - 1) noted ls ms flags → offered_by o.m flags ≡ narrowed o (o.N ∷ Ns) (candidates o.m)
          unfolding with_length
          left_is flags (f, added, kept) =
              let light = may.list.order.threshold in
              kept_narrowed o (ranked_more o {N = o.N} ranked divided added) kept light.some_weight light.at_most_64

          pub to_narrow : ToNarrow o.N o.m (o.d - 1) noted ls ms
          to_narrow = record {
            add = to_add;
            some_left = λ flags left.
                let (p, member) = some_left o (o.N ∷ Ns) in
                some_offered_of o.m flags (subst (Memᴰ p) (sym (left_is flags left)) member);
          }

          pub best_left : (r : Row) (after : List ℕ) (flags : List Bool) → LeftBy o.m (o.d - 1) noted ls ms flags
              → ChoseOf (offered_by o.m flags) (λ n. n) o.m (o.d - 1) few at ls ms t.undetected after r → ◌≡◌ {A = Outcome} (accepted r, done after) (made J.ChooseFor Ns l o t)
          unfolding made set_choice longest first_of with_length
          best_left r after flags left chose =
              is_chosen _ (λ n. n) r after chose ∙ ap (λ (ps : List ℕ). chosen l o t (choice_among (undetected_counts o) ps)) (left_is flags left)

      -- ---- by the job

      -- the shorter lengths that are listed have been noted
      module _ (job : Job) (a : JobAsks job Ns o t.plain t.undetected) (noted : Firsts) (ranked : Ranked o (listed_before job Ns) noted) where
        pub to_finish : ToFinish job o.N o.m (o.d - 1) noted ls ms t.undetected
        unfolding JobAsks ToFinish listed_before
        to_finish = by job a ranked
          where
            by : (job : Job) → JobAsks job Ns o t.plain t.undetected → Ranked o (listed_before job Ns) noted → ToFinish job o.N o.m (o.d - 1) noted ls ms t.undetected
            by J.Collect a k = tt
            by J.List a k = tt
            by J.Choose a k = over a
            by J.ChooseFor a k = (over a.0, to_narrow a.0 noted k a.1.few)
            by (J.Count p) a k = (over a.0, a.1)

        pub is_done : job ≢ J.Collect → (r : Row) (after : List ℕ) → Finished job o.m (o.d - 1) noted few at ls ms t.undetected after r → ◌≡◌ {A = Outcome} (accepted r, done after) (made job Ns l o t)
        unfolding JobAsks Finished listed_before
        is_done = by job a ranked
          where
            by : (job : Job) → JobAsks job Ns o t.plain t.undetected → Ranked o (listed_before job Ns) noted → job ≢ J.Collect → (r : Row) (after : List ℕ)
                → Finished job o.m (o.d - 1) noted few at ls ms t.undetected after r → ◌≡◌ {A = Outcome} (accepted r, done after) (made job Ns l o t)
            by J.Collect a k z r after f = absurd (z refl)
            by J.List a k z r after f = only_listed r after f.0 f.1
            by J.Choose a k z r after f = best_of_all a r after f
            by J.ChooseFor a k z r after f = best_left a.0 noted k a.1.few r after f.0 f.1 f.2
            by (J.Count p) a k z r after f = best_of_one a.0 p r after f

-- ---- what `make` shows of a plan at each of its ends

pub lists : (job : Job) (Ns : List ℕ) (o : Order) (plain undetected : List ℕ) → job ≢ J.Collect → JobAsks job Ns o plain undetected → ToList o plain
unfolding JobAsks
lists J.Collect Ns o plain undetected z a = absurd (z refl)
lists J.List Ns o plain undetected z a = a
lists J.Choose Ns o plain undetected z a = a.list
lists J.ChooseFor Ns o plain undetected z a = a.0.list
lists (J.Count p) Ns o plain undetected z a = a.0.list

-- what a job asks where shorter lengths are listed
pub served : (job : Job) (Ns : List ℕ) (o : Order) (plain undetected : List ℕ) → JobAsks job Ns o plain undetected → 1 ≤ length (listed_before job Ns)
    → ToChooseFor o plain undetected × ToServe Ns o × (listed_before job Ns ≡ Ns)
unfolding JobAsks listed_before
served J.Collect Ns o plain undetected a h = absurd (omega (arith, h))
served J.List Ns o plain undetected a h = absurd (omega (arith, h))
served J.Choose Ns o plain undetected a h = absurd (omega (arith, h))
served J.ChooseFor Ns o plain undetected a h = (a.0, a.1, refl)
served (J.Count p) Ns o plain undetected a h = absurd (omega (arith, h))

pub few_before : (job : Job) (Ns : List ℕ) (o : Order) (plain undetected : List ℕ) → JobAsks job Ns o plain undetected → length (listed_before job Ns) ≤ 7
unfolding JobAsks listed_before
few_before J.Collect Ns o plain undetected a = omega arith
few_before J.List Ns o plain undetected a = omega arith
few_before J.Choose Ns o plain undetected a = omega arith
few_before J.ChooseFor Ns o plain undetected a = a.1.few
few_before (J.Count p) Ns o plain undetected a = omega arith

-- where paths are listed, those of the row are
row_first : (job : Job) (Ns : List ℕ) (o : Order) → job ≢ J.Collect → rows_of job Ns o ≡ o ∷ for_each (listed_before job Ns) o
unfolding rows_of listed_before for_each
row_first J.Collect Ns o z = absurd (z refl)
row_first J.List Ns o z = refl
row_first J.Choose Ns o z = refl
row_first J.ChooseFor Ns o z = refl
row_first (J.Count p) Ns o z = refl

module _ (plan : Plan) (t : SearchTables) where
  abbrev longer : Order
  longer = order_in plan.order

  abbrev o : Order
  o = row_order plan

  abbrev shorter : List ℕ
  shorter = plan.shorter.now

  -- the lengths that are listed besides
  abbrev others : List Order
  others = for_each (listed_before plan.job shorter) o

  pub made_as : (x : Answer Row) (left : SearchTables) → ◌≡◌ {A = Outcome} (x, left) (ran plan.job shorter longer o t) → MadeAs plan t x left
  made_as x left e = record { answered = ap (λ (y : Outcome). y.0) e; leaves = λ _. ap (λ (y : Outcome). y.1) e }

  refused_as : (k : ℕ) (left : SearchTables) → ran plan.job shorter longer o t ≡ (refused (suc k), cleared_search t) → MadeAs plan t (refused (suc k)) left
  unfolding refusal_number
  refused_as k left h = record { answered = sym (ap (λ (y : Outcome). y.0) h); leaves = λ z. absurd (omega (arith, z)) }

  pub as_13 : (left : SearchTables) → length t.events < length (events longer) → MadeAs plan t (refused 13) left
  as_13 left h = refused_as 12 left (ran_13 shorter longer o t plan.job h)

  pub as_14 : (left : SearchTables) → plan.job ≢ J.Collect → length (events longer) ≤ length t.events → OneTooMany (length t.paths) (o ∷ others) → MadeAs plan t (refused 14) left
  as_14 left z f h = refused_as 13 left (ran_14 shorter longer o t f plan.job (subst (OneTooMany (length t.paths)) (sym (row_first plan.job shorter o z)) h))

  module _ (es : List Event) (us : List ℕ) (n : ℕ) (events-left : AllEvents longer t.events es n) (zeros : us ≡ cleared 0 t.work) where
    none_listed : plan.job ≡ J.Collect → AllFit (length t.paths) (rows_of plan.job shorter o)
    unfolding rows_of AllFit
    none_listed is = subst (λ (job : Job). AllFit (length t.paths) (rows_of job shorter o)) (sym is) tt

    pub as_collected : (r : Row) → r ≡ row n 0 0 0 → plan.job ≡ J.Collect → MadeAs plan t (accepted r) (search_tables es t.paths t.plain t.undetected us)
    as_collected r e is =
        made_as _ _ (only_collected shorter longer o t es [] [] us n 0 events-left zeros r e
        ∙ ap (λ (job : Job). made job shorter longer o t) (sym is) ∙ ran-made shorter longer o t events-left.fits plan.job (none_listed is))

    pub as_done : (ls ms : List ℕ) (at : ℕ) → AllPaths o t.paths ls t.plain ms at → AllFit (length t.paths) others → (few : ℕ) → few ≡ length (events o) → plan.job ≢ J.Collect
        → (a : JobAsks plan.job shorter o t.plain t.undetected) (noted : Firsts) → Ranked o (listed_before plan.job shorter) noted
        → (r : Row) (after : List ℕ) → Finished plan.job o.m (o.d - 1) noted few at ls ms t.undetected after r → MadeAs plan t (accepted r) (search_tables es ls ms after us)
    unfolding AllFit
    as_done ls ms at paths-left others-fit few is-few z a noted ranked r after f =
        made_as _ _ (is_done shorter longer o t es ls ms us n at events-left zeros paths-left few is-few plan.job a noted ranked z r after f
        ∙ ran-made shorter longer o t events-left.fits plan.job (subst (AllFit (length t.paths)) (sym (row_first plan.job shorter o z)) (paths-left.fits, others-fit)))
