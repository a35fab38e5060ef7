use Rattle.std.{specs.Int.w128, proofs.lemmas.Int.to_z-of_z}
use Rattle.pelt_core.proofs.Tables.{table-of-none}
use Rattle.pelt_core.proofs.table.Table.start.Goals as goal

pub invariant_of-result : goal.invariant_of-result
invariant_of-result g c =
    simp (to_z-of_z w128 c.args.penalty c.ranges.penalty)
    (table-of-none g.C.Cost.cost_of g.met.C.Cost.merging g.met.C.Cost.in_range (g.C.Cost.positions c.fresh.result) c.fresh.ensures c.args.penalty c.in_ok-rows.rows c.requires.low c.requires.high
    (simp (to_z-of_z w128 c.args.penalty c.ranges.penalty) at c.in_ok-rows.ensures.pruned))
