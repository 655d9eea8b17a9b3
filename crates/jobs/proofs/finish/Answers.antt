-- By the job: nobody is chosen; or the best of all, of those left by a set of lengths, or of one alone.
use Prim.Native.Nat.{ℕ, ◌-◌, ◌<◌, ◌^◌}
use native.Mathlib.Nat.{one-le-pow}
use native.Mathlib.Omega.{arith}
use mathlib.Core.Path.{◌≡◌, refl, sym, subst}
use mathlib.Core.Logic.{inl, inr}
use mathlib.Core.Bool.{Bool, true, false}
use mathlib.Core.List.{List, [], ◌∷◌, Memᴰ}
use lib.ListN.{get_or, replicate, get_or-replicate}
use Rattle.choice.specs.Model.Steps.{offered_by, ToChoose}
use Rattle.choice.proofs.Offered.{some_offered_of}
use Rattle.jobs.specs.Model.Steps.{ToFinishOver, ToFinish, Finished}
use Rattle.jobs.proofs.finish.Goals as goal

-- a flag of a candidate is up
abbrev SomeUp : ℕ → List Bool → Type 0
SomeUp m flags = (k : ℕ) × (k < 2 ^ (m - 1)) × (get_or flags k false ≡ true)

to-choose : {bits m entries : ℕ} {flags : List Bool} {table plain undetected : List ℕ} → ToFinishOver bits m entries table plain undetected → SomeUp m flags
    → ToChoose entries m flags undetected
to-choose over up = record { degree = over.degree; counts = over.counts; some_offered = up }

all_up : (m : ℕ) → SomeUp m (replicate 2048 true)
all_up m = (0, one-le-pow (m - 1) 2 (omega arith), get_or-replicate 2048 0 true false (omega arith))

one_up : (m : ℕ) (flags : List Bool) {p : ℕ} → offered_by m flags ≡ p ∷ [] → SomeUp m flags
one_up m flags {p} e = some_offered_of m flags (subst (Memᴰ p) (sym e) (Memᴰ.head refl))

pub listing_of-listing-requires : goal.listing_of-listing-requires
unfolding ToFinish
listing_of-listing-requires c =
    let asked = rw c.in-Choose.is at c.requires in
    asked.readable

pub best_of-best-requires : goal.best_of-best-requires
unfolding ToFinish
best_of-best-requires c =
    let asked = rw c.in-Choose.is at c.requires in
    rw c.listing_of-listing.ensures.2 (to-choose asked (all_up _))

pub listing_of-listing-requires-in-ChooseFor : goal.listing_of-listing-requires-in-ChooseFor
unfolding ToFinish
listing_of-listing-requires-in-ChooseFor c =
    let asked = rw c.in-ChooseFor.is at c.requires in
    asked.0.readable

pub left_by-left-requires : goal.left_by-left-requires
unfolding ToFinish
left_by-left-requires c =
    let asked = rw c.in-ChooseFor.is at c.requires in
    rw c.listing_of-listing-in-ChooseFor.ensures.2 asked.1.add.firsts

pub best_of-fit-requires : goal.best_of-fit-requires
unfolding ToFinish
best_of-fit-requires c =
    let asked = rw c.in-ChooseFor.is at c.requires in
    let listing = c.listing_of-listing-in-ChooseFor.ensures in
    let left = rw (listing.0, listing.1, listing.2) at c.left_by-left.ensures in
    rw listing.2 (to-choose asked.0 (asked.1.some_left _ left))

pub listing_of-listing-requires-in-Count : goal.listing_of-listing-requires-in-Count
unfolding ToFinish
listing_of-listing-requires-in-Count c =
    let asked = rw c.in-Count.is at c.requires in
    asked.0.readable

pub only-requires : goal.only-requires
unfolding ToFinish
only-requires c =
    let asked = rw c.in-Count.is at c.requires in
    record { degree = asked.0.degree; candidate = asked.1 }

pub best_of-alone-requires : goal.best_of-alone-requires
unfolding ToFinish
best_of-alone-requires c =
    let asked = rw c.in-Count.is at c.requires in
    rw c.listing_of-listing-in-Count.ensures.2 (to-choose asked.0 (one_up _ _ c.only.ensures))

pub returns-in-Collect : goal.returns-in-Collect
unfolding Finished
returns-in-Collect c = elim c.in-Collect.is [ inl is ↦ rw is (refl, c.row_of.ensures) | inr is ↦ rw is (refl, c.row_of.ensures) ]

pub returns-in-Choose : goal.returns-in-Choose
unfolding Finished
returns-in-Choose c =
    let chose = c.best_of-best in
    let listing = c.listing_of-listing.ensures in
    rw c.in-Choose.is (chose.result, rw (listing.0, listing.1, listing.2) at chose.ensures, c.row_of-in-Choose.ensures)

pub returns-in-ChooseFor : goal.returns-in-ChooseFor
unfolding Finished
returns-in-ChooseFor c =
    let left = c.left_by-left in
    let chose = c.best_of-fit in
    let listing = c.listing_of-listing-in-ChooseFor.ensures in
    rw c.in-ChooseFor.is (left.result, rw (listing.0, listing.1, listing.2) at left.ensures, (chose.result, rw (listing.0, listing.1, listing.2) at chose.ensures, c.row_of-in-ChooseFor.ensures))

pub returns-in-Count : goal.returns-in-Count
unfolding Finished
returns-in-Count c =
    let chose = c.best_of-alone in
    let listing = c.listing_of-listing-in-Count.ensures in
    rw c.in-Count.is (chose.result, rw c.only.ensures at (rw (listing.0, listing.1, listing.2) at chose.ensures), c.row_of-in-Count.ensures)
