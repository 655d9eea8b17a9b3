-- The events stand by length, so those that fit come first.
pub mod Point
use Rattle.std.proofs.Common.{leb, rules}
use Rattle.std.proofs.lemmas.List.Sorted.{IsPartitionPoint-from_clause, IsPartitionedBy-leb}
use Rattle.events.specs.declared.Event.{Event}
use Rattle.chains.proofs.fitting_end.Answers.Point.{by_length, end_is_point}
use Rattle.chains.proofs.fitting_end.Goals as goal

pub returns : goal.returns
returns c =
    let a = c.args in
    let p = c.requires in
    let parted = IsPartitionedBy-leb (λ (e : Event). e.length) _ a.bits (by_length a.events.now a.from a.to a.bits p.0 p.1.0 p.1.1) in
    let point = IsPartitionPoint-from_clause (λ (e : Event). leb e.length a.bits) _ _ c.partition_point.ensures.partitioned parted (λ a r q k. search rules) in
    end_is_point a.events.now a.from a.to a.bits p.0 p.1.0 p.1.1 _ c.partition_point.ensures.bound point
