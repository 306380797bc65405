use Rattle.std.proofs.Common.{rules, arith}
use Rattle.std.proofs.Math.Dec.{ltb}
use Rattle.std.proofs.lemmas.Bool.{ltb-true, ltb-false}
use Rattle.std.proofs.lemmas.List.Sorted.{IsPartitionPoint-from_clause, IsPartitionedBy-ltb}
use Rattle.std.proofs.lemmas.Map.Keys.{non_decreasing_from_sorted}
use Rattle.session_view.proofs.spans.count_below.Goals as goal

pub returns-clause-below : goal.returns-clause-below
returns-clause-below c =
    let point = IsPartitionPoint-from_clause (λ u. ltb u c.args.bound) c.args.uids.now c.partition_point.result c.partition_point.ensures.partitioned (IsPartitionedBy-ltb (λ x. x) c.args.uids.now c.args.bound (non_decreasing_from_sorted c.args.uids.now c.requires)) (λ a r q k. search rules) in
    λ k lt. ltb-true _ _ (point.0 k 0 (omega arith) lt)

pub returns-clause-from : goal.returns-clause-from
returns-clause-from c =
    let point = IsPartitionPoint-from_clause (λ u. ltb u c.args.bound) c.args.uids.now c.partition_point.result c.partition_point.ensures.partitioned (IsPartitionedBy-ltb (λ x. x) c.args.uids.now c.args.bound (non_decreasing_from_sorted c.args.uids.now c.requires)) (λ a r q k. search rules) in
    λ k low lt. ltb-false _ _ (point.1 k 0 low lt)
