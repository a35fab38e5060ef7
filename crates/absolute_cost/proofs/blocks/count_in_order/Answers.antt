use Rattle.std.{proofs.Common.{sym, rules}, specs.Prelude.int_le, proofs.lemmas.List.Sorted.IsPartitionPoint-from_clause}
use Rattle.absolute_cost.proofs.Counts.{parted, counted}
use Rattle.absolute_cost.proofs.blocks.count_in_order.Goals as goal

pub returns : goal.returns
returns c =
    sym (counted (λ x. int_le x c.args.c) c.args.values.now c.partition_point.result c.partition_point.ensures.bound
    (IsPartitionPoint-from_clause (λ x. int_le x c.args.c) c.args.values.now c.partition_point.result c.partition_point.ensures.partitioned
    (parted c.args.c c.args.values.now c.requires) (λ a r q k. search rules)))
