-- The events are gathered, the path table is filled from them, those that the order of the row has are counted, and the job is done.
use Rattle.std.proofs.Common.{◌≡◌, Ok, length, inl, inr}
use Rattle.std.proofs.lemmas.Result.{err_from_is_err_and}
use Rattle.lists.specs.Lists.{cleared}
use Rattle.order.specs.Order.{with_length}
use Rattle.order.specs.Answers.{order_in}
use Rattle.events.specs.Events.{events}
use Rattle.filling.specs.Model.Filling.{AllPaths, Filled}
use Rattle.lengths.specs.Model.Noted.{OneTooMany, ListedShorter}
use Rattle.jobs.specs.Lent.{lent}
use Rattle.jobs.specs.Model.Steps.{row_order, listed_before}
use Rattle.jobs.proofs.Answers.{to_finish, lists, as_13, as_14, as_collected, as_done}
use Rattle.jobs.proofs.make.Invariants.Told.{Got, all-events, to_list_shorter, to_fill, paths_as, work_zero, few_told}
use Rattle.jobs.proofs.make.Goals as goal
use Rattle.jobs.proofs.make.Goals.{In_ok-n, In_ok-noted, In_ok-at, After-count_within-few}

-- ---- what is known on the way

got : (c : In_ok-n) → Got c.args.plan (lent c.args.tables) c.gather.new.events c.gather.new.work c.in_ok-n.n
got c = record { may = c.requires; got = c.in_ok-n.ensures; wide = c.gather.auto.work }

listed : (c : In_ok-noted)
    → ListedShorter (row_order c.args.plan) (listed_before c.args.plan.job c.args.plan.shorter.now) (Ok c.in_ok-noted.noted) c.args.tables.paths.now c.gather.new.work c.list_shorter.new.work
listed c = rw (c.row_order-order.ensures, c.listed_before-shorter.ensures) at c.in_ok-noted.ensures

filled : (c : In_ok-at)
    → Filled (row_order c.args.plan) c.list_shorter.new.paths c.fill.new.paths c.list_shorter.new.plain c.fill.new.plain c.list_shorter.new.work c.fill.new.work (Ok c.in_ok-at.at)
filled c = rw c.row_order-order.ensures at c.in_ok-at.ensures

there : (c : In_ok-at) → AllPaths (row_order c.args.plan) c.args.tables.paths.now c.fill.new.paths c.args.tables.plain.now c.fill.new.plain c.in_ok-at.at
there c = paths_as (row_order c.args.plan) _ _ _ _ _ c.list_shorter.auto.paths c.list_shorter.auto.plain (filled c).inside

zeros : (c : In_ok-at) → c.fill.new.work ≡ cleared 0 c.args.tables.work.now
zeros c = work_zero (got (goal.at.In_ok-at c).In_ok-n) _ c.list_shorter.auto.work _ (filled c).zeros

few : (c : After-count_within-few) → c.count_within-few.result ≡ length (events (row_order c.args.plan))
few c = few_told (got (goal.at.After-count_within-few c).In_ok-n) _ (rw (c.steps.ensures, c.new.ensures, c.row_order-order.ensures) at c.count_within-few.ensures)

-- ---- the goals

pub returns-in_err-n : goal.returns-in_err-n
returns-in_err-n c =
    let p = err_from_is_err_and c.from_residual.result c.from_residual.ensures.1 in
    let past = c.in_err-n.ensures.past in
    rw (p.1, p.2, past.0) (as_13 c.args.plan (lent c.args.tables) _ past.1)

pub returns-in-Collect : goal.returns-in-Collect
returns-in-Collect c =
    let g = got (goal.at.returns-in-Collect c).In_ok-n in
    as_collected c.args.plan (lent c.args.tables) _ _ _ (all-events g) g.got.zeros _ c.row_of.ensures c.in-Collect.is

pub list_shorter-requires : goal.list_shorter-requires
list_shorter-requires c =
    rw (c.row_order-order.ensures, c.listed_before-shorter.ensures) (to_list_shorter (got (goal.at.list_shorter-requires c).In_ok-n) c.in_default.not-Collect)

pub returns-in_err-noted : goal.returns-in_err-noted
unfolding OneTooMany
returns-in_err-noted c =
    let at = goal.at.returns-in_err-noted c in
    let p = err_from_is_err_and c.from_residual-in_err-noted.result c.from_residual-in_err-noted.ensures.1 in
    let past = (rw (c.row_order-order.ensures, c.listed_before-shorter.ensures) at c.in_err-noted.ensures).past in
    rw (p.1, p.2, past.0) (as_14 c.args.plan (lent c.args.tables) _ c.in_default.not-Collect (all-events (got at.In_ok-n)).fits (inr past.1))

pub fill-requires : goal.fill-requires
fill-requires c =
    let at = goal.at.fill-requires c in
    rw c.row_order-order.ensures
    (to_fill (got at.In_ok-n) c.in_default.not-Collect _ c.list_shorter.auto.plain _ c.list_shorter.auto.work (listed at.In_ok-noted).zeros)

pub returns-in_err-at : goal.returns-in_err-at
unfolding OneTooMany
returns-in_err-at c =
    let at = goal.at.returns-in_err-at c in
    let p = err_from_is_err_and c.from_residual-in_err-at.result c.from_residual-in_err-at.ensures.1 in
    let past = (rw c.row_order-order.ensures at c.in_err-at.ensures).past in
    rw (p.1, p.2, past.0)
    (as_14 c.args.plan (lent c.args.tables) _ c.in_default.not-Collect (all-events (got at.In_ok-n)).fits (inl (rw c.list_shorter.auto.paths at past.1)))

pub new-requires : goal.new-requires
new-requires c =
    rw c.row_order-order.ensures (lists c.args.plan.job c.args.plan.shorter.now _ _ _ c.in_default.not-Collect c.requires.job).order.code

pub finish-requires : goal.finish-requires
unfolding row_order with_length order_in
finish-requires c =
    let at = goal.at.finish-requires c in
    to_finish c.args.plan.shorter.now (order_in c.args.plan.order) (row_order c.args.plan) (lent c.args.tables) _ _ _ _ _ _
    (all-events (got at.In_ok-n)) (zeros at.In_ok-at) (there at.In_ok-at) _ (few at.After-count_within-few) c.args.plan.job c.requires.job _ (listed at.In_ok-noted).inside.1

pub returns : goal.returns
unfolding row_order with_length order_in
returns c =
    let at = goal.at.returns c in
    let noted = (listed at.In_ok-noted).inside in
    as_done c.args.plan (lent c.args.tables) _ _ _ (all-events (got at.In_ok-n)) (zeros at.In_ok-at) _ _ _ (there at.In_ok-at) noted.0
    _ (few at.After-count_within-few) c.in_default.not-Collect c.requires.job _ noted.1 _ _ c.finish.ensures
