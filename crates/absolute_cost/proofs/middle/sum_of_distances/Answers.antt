use Rattle.std.proofs.{Common.{◌≡◌, ◌+◌, FitsSigned, w64, arith}, lemmas.Int.to_z-of_z}
use Rattle.distance_model.specs.Distances.{distances_about}
use Rattle.absolute_cost.{specs.Blocks.all_of, proofs.Counts.{parts_fit, two_fit, three_add}, proofs.middle.sum_of_distances.Goals.After-distances_in-3}
use Rattle.absolute_cost.proofs.middle.sum_of_distances.Goals as goal

pub distances_in-requires : goal.distances_in-requires
distances_in-requires c = let fits : FitsSigned w64 c.args.c = c.ranges.c in simp to_z-of_z (parts_fit c.args.c c.args.pieces.head.now c.args.pieces.whole.now c.args.pieces.tail.now c.requires).0

pub distances_in-requires-2 : goal.distances_in-requires-2
distances_in-requires-2 c = let fits : FitsSigned w64 c.args.c = c.ranges.c in simp to_z-of_z (parts_fit c.args.c c.args.pieces.head.now c.args.pieces.whole.now c.args.pieces.tail.now c.requires).1

pub distances_in-requires-3 : goal.distances_in-requires-3
distances_in-requires-3 c = let fits : FitsSigned w64 c.args.c = c.ranges.c in simp to_z-of_z (parts_fit c.args.c c.args.pieces.head.now c.args.pieces.whole.now c.args.pieces.tail.now c.requires).2

pub overflow_add-result : goal.overflow_add-result
overflow_add-result c =
    let fits : FitsSigned w64 c.args.c = c.ranges.c in
    let two = two_fit c.args.c c.args.pieces.head.now c.args.pieces.whole.now c.args.pieces.tail.now c.requires c.distances_in.result c.distances_in-2.result
    (simp to_z-of_z at c.distances_in.ensures) (simp to_z-of_z at c.distances_in-2.ensures) in
    omega (arith, two)

-- the sum of all three
whole : (c : After-distances_in-3) → c.distances_in.result + c.distances_in-2.result + c.distances_in-3.result ≡ distances_about c.args.c (all_of c.args.pieces.head.now c.args.pieces.whole.now c.args.pieces.tail.now)
whole c =
    let fits : FitsSigned w64 c.args.c = c.ranges.c in
    three_add c.args.c c.args.pieces.head.now c.args.pieces.whole.now c.args.pieces.tail.now c.distances_in.result c.distances_in-2.result c.distances_in-3.result
    (simp to_z-of_z at c.distances_in.ensures) (simp to_z-of_z at c.distances_in-2.ensures) (simp to_z-of_z at c.distances_in-3.ensures)

pub overflow_add-result-2 : goal.overflow_add-result-2
overflow_add-result-2 c = let all = whole (goal.at.overflow_add-result-2 c).After-distances_in-3 in omega (arith, all, c.requires)

pub returns : goal.returns
returns c = whole (goal.at.returns c).After-distances_in-3
