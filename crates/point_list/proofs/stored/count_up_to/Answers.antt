use Rattle.std.{proofs.Common.{leb, leb-true, leb-false, arith, rules}, specs.Int.{w64, cast_unsigned}, specs.List.Sorted.IsPartitionPoint}
use Rattle.std.proofs.{Common.{true, false, ℤ, ◌≡◌}, lemmas.List.Sorted.{IsPartitionPoint-from_clause, IsPartitionedBy-leb}}
use Rattle.point_list.proofs.stored.count_up_to.Goals.{After-partition_point}
use Rattle.point_list.proofs.stored.count_up_to.Goals as goal

parted : (c : After-partition_point) → IsPartitionPoint (λ (s : ℤ). leb (cast_unsigned w64 s) c.args.step ≡ true) (λ (s : ℤ). leb (cast_unsigned w64 s) c.args.step ≡ false) c.args.steps.now c.partition_point.result
parted c =
    IsPartitionPoint-from_clause (λ s. leb (cast_unsigned w64 s) c.args.step) c.args.steps.now c.partition_point.result c.partition_point.ensures.partitioned
    (IsPartitionedBy-leb (cast_unsigned w64) c.args.steps.now c.args.step c.requires) (λ a r q k. search rules)

pub returns-clause-up_to : goal.returns-clause-up_to
returns-clause-up_to c k d lt = leb-true _ _ ((parted (goal.at.returns-clause-up_to c).After-partition_point).0 k d (omega arith) lt)

pub returns-clause-rest : goal.returns-clause-rest
returns-clause-rest c k d le lt = leb-false _ _ ((parted (goal.at.returns-clause-rest c).After-partition_point).1 k d le lt)
