use Rattle.std.proofs.{Common.{◌<◌, ◌∙◌, arith, length, FitsSigned, w64}, lemmas.Int.to_z-of_z}
use Rattle.segment_model.specs.Values.{values_between}
use Rattle.absolute_cost.{specs.Blocks.all_of, proofs.Counts.{same_length, same_middle}}
use Rattle.absolute_cost.proofs.absolute.AbsoluteCost.centre.Goals as goal

pub returns : goal.returns
returns c =
    let fits : FitsSigned w64 c.middle.result = record { sfits = c.middle.type_inv } in
    let count = same_length (values_between c.args.self.now.positions c.args.s c.args.t) (all_of c.segment.result.head.now c.segment.result.whole.now c.segment.result.tail.now) c.segment.ensures.values in
    let some : 0 < length (values_between c.args.self.now.positions c.args.s c.args.t) = omega (arith, count, c.segment.ensures.some) in
    simp to_z-of_z (c.middle.ensures.middle ∙ same_middle (values_between c.args.self.now.positions c.args.s c.args.t) (all_of c.segment.result.head.now c.segment.result.whole.now c.segment.result.tail.now) some c.segment.ensures.values)
