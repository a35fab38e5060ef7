use Rattle.pelt_core.proofs.Tables.{table-same}
use Rattle.pelt_core.proofs.table.Table.reserve.Goals as goal

pub invariant_of-self-2 : goal.invariant_of-self-2
invariant_of-self-2 g c =
    table-same g.C.Cost.cost_of (g.C.Cost.positions c.self.inside.cost) (g.C.Cost.positions c.reserve.new.self) c.self.inside.penalty c.self.inside.rows c.reserve-2.new.self
    c.in_ok-reserve.ensures.positions c.reserve-2.ensures.same c.self.invariant
