use Rattle.std.{proofs.Common.{◌≡◌, ◌≤◌, ◌<◌, ◌*◌, ◌^◌, ◌∙◌, ap, arith, pos, length, FitsSigned, w64}, specs.Int.w128}
use Rattle.std.proofs.lemmas.Int.{to_z-of_z, to_z_pos, ints}
use Rattle.segment_model.specs.Values.{values_between}
use Rattle.distance_model.{specs.Distances.distances_about, proofs.Middles.distances_fit}
use Rattle.absolute_cost.{specs.Blocks.all_of, proofs.Counts.{same_length, same_distances}}
use Rattle.absolute_cost.proofs.absolute.AbsoluteCost.cost.Goals as goal

pub sum_of_distances-requires : goal.sum_of_distances-requires
sum_of_distances-requires c =
    let fits : FitsSigned w64 c.middle.result = record { sfits = c.middle.type_inv } in
    let few : distances_about c.middle.result (all_of c.segment-values.result.head.now c.segment-values.result.whole.now c.segment-values.result.tail.now) ≤ 65_536 * (2 * 10 ^ 16) = distances_fit c.middle.result (all_of c.segment-values.result.head.now c.segment-values.result.whole.now c.segment-values.result.tail.now) c.middle.ensures.small c.segment-values.ensures.small c.segment-values.ensures.few in
    simp to_z-of_z (omega (arith, few))

pub overflow_cast-result : goal.overflow_cast-result
overflow_cast-result c =
    let fits : FitsSigned w64 c.middle.result = record { sfits = c.middle.type_inv } in
    let few : distances_about c.middle.result (all_of c.segment-values.result.head.now c.segment-values.result.whole.now c.segment-values.result.tail.now) ≤ 65_536 * (2 * 10 ^ 16) = distances_fit c.middle.result (all_of c.segment-values.result.head.now c.segment-values.result.whole.now c.segment-values.result.tail.now) c.middle.ensures.small c.segment-values.ensures.small c.segment-values.ensures.few in
    let is : c.sum_of_distances.result ≡ distances_about c.middle.result (all_of c.segment-values.result.head.now c.segment-values.result.whole.now c.segment-values.result.tail.now) = simp to_z-of_z at c.sum_of_distances.ensures in
    omega (arith, ints, few, is)

pub returns : goal.returns
returns c =
    let fits : FitsSigned w64 c.middle.result = record { sfits = c.middle.type_inv } in
    let few : distances_about c.middle.result (all_of c.segment-values.result.head.now c.segment-values.result.whole.now c.segment-values.result.tail.now) ≤ 65_536 * (2 * 10 ^ 16) = distances_fit c.middle.result (all_of c.segment-values.result.head.now c.segment-values.result.whole.now c.segment-values.result.tail.now) c.middle.ensures.small c.segment-values.ensures.small c.segment-values.ensures.few in
    let is : c.sum_of_distances.result ≡ distances_about c.middle.result (all_of c.segment-values.result.head.now c.segment-values.result.whole.now c.segment-values.result.tail.now) = simp to_z-of_z at c.sum_of_distances.ensures in
    let count = same_length (values_between c.args.self.now.positions c.args.s c.args.t) (all_of c.segment-values.result.head.now c.segment-values.result.whole.now c.segment-values.result.tail.now) c.segment-values.ensures.values in
    let some : 0 < length (values_between c.args.self.now.positions c.args.s c.args.t) = omega (arith, count, c.segment-values.ensures.some) in
    to_z_pos w128 c.sum_of_distances.result (omega (arith, few, is))
    ∙ ap (λ n. pos n) is
    ∙ ap (λ m. pos (distances_about m (all_of c.segment-values.result.head.now c.segment-values.result.whole.now c.segment-values.result.tail.now))) c.middle.ensures.middle
    ∙ same_distances (values_between c.args.self.now.positions c.args.s c.args.t) (all_of c.segment-values.result.head.now c.segment-values.result.whole.now c.segment-values.result.tail.now) some c.segment-values.ensures.values
