use Rattle.std.proofs.Common.{◌≡◌, ◌≤◌, ◌*◌, ◌/◌, ◌∙◌, ap, sym, take, length, arith}
use Rattle.segment_model.specs.Values.{joined}
use Rattle.prefix_sums.specs.Prefixes.{Summed}
use Rattle.absolute_cost.proofs.{Segments.front_is, Sorted.first_values}
use Rattle.absolute_cost.proofs.absolute.AbsoluteCost.cut_back.Goals as goal

pub invariant_of-self : goal.invariant_of-self
invariant_of-self c =
    let same : c.self.inside.sums.positions ≡ c.args.self.now.positions = ap (λ (v : Summed). v.positions) c.self.view_is in
    let placed : c.args.k ≤ length c.self.inside.sums.positions = rw same c.requires in (
      c.truncate.ensures.items
          ∙ ap (take c.part-count.result.count) c.self.invariant.0
          ∙ front_is c.values_law.ensures.parts c.self.inside.sums.positions c.args.k c.part-count.result.count placed c.part-count.ensures.counted
          ∙ ap joined (sym c.cut_back.ensures.positions),
      rw (c.truncate.ensures.items, c.truncate-2.ensures.items)
          (first_values c.self.inside.values.items c.self.inside.sorted.items c.part-count.result.count (c.part-count.result.count / 32 * 32) (omega arith) (omega arith) c.self.invariant.1),
    )
