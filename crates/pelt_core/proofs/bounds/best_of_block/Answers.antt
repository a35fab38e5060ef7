use Rattle.std.{proofs.Common.{◌*◌, ◌<◌, length, FitsSigned, refl, arith}, specs.Int.w128, proofs.lemmas.Int.to_z-of_z}
use Rattle.segment_model.specs.Values.{cost_between}
use Rattle.pelt_core.proofs.Search.{looked-next}
use Rattle.pelt_core.proofs.bounds.best_of_block.Goals as goal

pub loop-i-preserved : goal.loop-i-preserved
loop-i-preserved g c =
    let made = c.last_total.ensures in
    let total = rw c.from.ensures at made.total in
    let made_fits : FitsSigned w128 c.last_total.result = record { sfits = c.last_total.type_inv } in
    let new_fits : FitsSigned w128 c.lower_of-low.result = record { sfits = c.lower_of-low.type_inv } in
    let inside : c.loop-i.i < length c.args.candidates.now = omega (arith, c.loop-i-test.true, c.min-i-end.ensures) in
    let if_here = simp to_z-of_z at c.better-best.ensures.here in
    let if_best = simp to_z-of_z at c.better-best.ensures.best in
    let kept = c.lower_of-low.ensures.kept in
    let at_here = simp to_z-of_z at c.lower_of-low.ensures.here in
    let one = simp to_z-of_z at c.lower_of-low.ensures.one in
    simp to_z-of_z (looked-next (cost_between g.C.Cost.cost_of (g.C.Cost.positions c.args.cost.now)) c.args.least.now (length (g.C.Cost.positions c.args.cost.now)) c.args.candidates.now c.args.guess (256 * c.args.k) c.loop-i.i
    c.loop-i.best (record { index = c.loop-i.i; total = c.last_total.result }) c.better-best.result _ c.lower_of-low.result c.loop-i.invariant inside refl total made.low made.high
    if_here if_best kept at_here one)
