-- What the decision on an event says: by which of four tests it was made, and that an event that is joined fits.
-- Assumes nothing.
use Prim.Native.Nat.{ℕ, ◌+◌, ◌-◌, ◌≤◌, ◌<◌}
use mathlib.Core.Path.{◌≡◌, refl}
use mathlib.Core.Bool.{Bool, true, false, not, cond, ◌&&◌, ◌||◌}
use mathlib.Core.Logic.{◌⊎◌, inl, inr, ◌≢◌}
use mathlib.Core.List.{List}
use lib.Arith.{lt_of_le-ne}
use lib.Dec.{T, leb, ltb, eqb, leb→le, T_not}
use Rattle.lists.proofs.Choices.{eqb_passes}
use Rattle.lists.proofs.Tests.{T_and}
use Rattle.events.specs.declared.Event.{Event}
use Rattle.bounds.specs.declared.Chain.{Chain}
use Rattle.bounds.specs.declared.Joining.{Joining}
use Rattle.bounds.specs.declared.Joining.TheVariants.{Skipped, Complete, Continued}
use Rattle.bounds.specs.Model.Tables.{fill_at, light_at, decided}

-- ---- of four tests, which one made it

abbrev verdict : Bool → Bool → Bool → Bool → Joining
verdict f l w m = cond f (cond l (cond w Complete Skipped) (cond m Continued Skipped)) Skipped

verdict_skipped : (f l w m : Bool) → verdict f l w m ≡ Skipped → T (not f) ⊎ ((T l × T (not w)) ⊎ (T (not l) × T (not m)))
verdict_skipped false l w m e = inl tt
verdict_skipped true true true m e = absurd (cc)
verdict_skipped true true false m e = inr (inl (tt, tt))
verdict_skipped true false w true e = absurd (cc)
verdict_skipped true false w false e = inr (inr (tt, tt))

verdict_complete : (f l w m : Bool) → verdict f l w m ≡ Complete → T f × (T l × T w)
verdict_complete false l w m e = absurd (cc)
verdict_complete true true true m e = (tt, (tt, tt))
verdict_complete true true false m e = absurd (cc)
verdict_complete true false w true e = absurd (cc)
verdict_complete true false w false e = absurd (cc)

verdict_continued : (f l w m : Bool) → verdict f l w m ≡ Continued → T f × (T (not l) × T m)
verdict_continued false l w m e = absurd (cc)
verdict_continued true true true m e = absurd (cc)
verdict_continued true true false m e = absurd (cc)
verdict_continued true false w true e = (tt, (tt, tt))
verdict_continued true false w false e = absurd (cc)

verdict_fits : (f l w m : Bool) → verdict f l w m ≢ Skipped → T f
verdict_fits false l w m n₀ = absurd (n₀ refl)
verdict_fits true l w m n₀ = tt

-- ---- the tests

module _ (work : List ℕ) (begun : Chain) (e : Event) where
  abbrev pub fits : Bool
  fits = leb e.length begun.steps && leb e.weight begun.budget

  abbrev pub whole : Bool
  whole = eqb e.length begun.steps

  -- the weight left after it is below that of every event but the zero loop
  abbrev pub spare : Bool
  spare = ltb (begun.budget - e.weight) (light_at work)

  abbrev pub ending : Bool
  ending = whole || spare

  abbrev pub spent : Bool
  spent = eqb e.weight begun.budget

  abbrev pub enough : Bool
  enough = leb (e.weight + fill_at work (begun.steps - e.length)) begun.budget

  pub fit_parts : T fits → (e.length ≤ begun.steps) × (e.weight ≤ begun.budget)
  fit_parts t =
      let h = (T_and (leb e.length begun.steps) (leb e.weight begun.budget)).0 t in
      (leb→le e.length begun.steps h.0, leb→le e.weight begun.budget h.1)

  pub decided-skipped : decided work begun e ≡ Skipped
      → T (not fits) ⊎ ((T ending × T (not spent)) ⊎ (T (not ending) × T (not enough)))
  unfolding decided
  decided-skipped = verdict_skipped fits ending spent enough

  pub decided-complete : decided work begun e ≡ Complete → T fits × (T ending × T spent)
  unfolding decided
  decided-complete = verdict_complete fits ending spent enough

  pub decided-continued : decided work begun e ≡ Continued → T fits × (T (not ending) × T enough)
  unfolding decided
  decided-continued = verdict_continued fits ending spent enough

  -- an event that is joined fits
  pub decided_fits : decided work begun e ≢ Skipped → (e.length ≤ begun.steps) × (e.weight ≤ begun.budget)
  unfolding decided
  decided_fits n₀ = fit_parts (verdict_fits fits ending spent enough n₀)

  -- it ends a chain in one of two ways
  pub ending_parts : T ending → T whole ⊎ (T (not whole) × T spare)
  ending_parts = by whole
    where
      by : (b : Bool) → T (b || spare) → T b ⊎ (T (not b) × T spare)
      by true t = inl tt
      by false t = inr (tt, t)

  pub not_whole : T (not ending) → T (not whole)
  not_whole = by whole
    where
      by : (b : Bool) → T (not (b || spare)) → T (not b)
      by true t = t
      by false t = tt

  -- and leaves some steps where more follow
  pub decided_shorter : decided work begun e ≡ Continued → e.length < begun.steps
  decided_shorter more =
      let h = decided-continued more in
      let f = (fit_parts h.0).0 in
      let n : e.length ≢ begun.steps =
      λ q. T_not whole (not_whole h.1.0) (eqb_passes e.length begun.steps q) in
      lt_of_le-ne f n
