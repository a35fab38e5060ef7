use Rattle.std.{proofs.Common.{◌∙◌, refl, FitsSigned, rules, arith}, specs.Int.w128, proofs.lemmas.Int.{ints, to_z-of_z}}
use Rattle.pelt_core.proofs.Tables.{certified}
use Rattle.pelt_core.proofs.table.Table.certificate.Goals as goal

pub returns : goal.returns
returns g c =
    let fits : FitsSigned w128 c.self.inside.penalty = omega (arith, ints, c.self.invariant.low, c.self.invariant.high) in
    let total_fits : FitsSigned w128 c.in_ok-best.best.total = search rules in
    certified g.C.Cost.cost_of (g.C.Cost.positions c.self.inside.cost) c.self.inside.penalty c.self.inside.rows _ c.in_ok-best.best _ c.self.view_is c.self.invariant c.in_ok-best.ensures
    c.len.ensures (to_z-of_z w128 c.self.inside.penalty fits) refl c.of.ensures (to_z-of_z w128 c.in_ok-best.best.total total_fits)
    (c.of-2.ensures ∙ c.in_ok-from_slice.ensures.items ∙ c.deref.ensures.value) (c.of-3.ensures ∙ c.in_ok-from_slice-2.ensures.items ∙ c.deref-2.ensures.value) (c.of-4.ensures ∙ c.in_ok-from_slice-3.ensures.items ∙ c.deref-3.ensures.value)
