use Rattle.std.proofs.Common.{◌≤◌, length, ap}
use Rattle.pelt_core.{specs.Seen.Tabled, proofs.Tables.first-ones}
use Rattle.pelt_core.proofs.table.Table.rewind.Goals as goal

pub invariant_of-self : goal.invariant_of-self
invariant_of-self g c =
    let fits : c.args.k ≤ length (g.C.Cost.positions c.self.inside.cost) = rw (ap (λ (t : Tabled). t.positions) c.self.view_is) c.requires in
    first-ones g.C.Cost.cost_of g.met.C.Cost.merging g.met.C.Cost.in_range c.agreeing_costs_law.ensures.table c.value_costs_law.ensures.merge c.value_costs_law.ensures.in_range
    (g.C.Cost.positions c.self.inside.cost) c.self.inside.penalty c.self.inside.rows c.self.invariant c.values_law.ensures.front c.values_law.ensures.front_limits c.args.k fits (g.C.Cost.positions c.cut_back.new.self)
    c.cut_back.ensures.positions c.cut_back-2.new.self c.cut_back-2.ensures.pruned
