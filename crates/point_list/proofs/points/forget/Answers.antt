use Rattle.std.{proofs.Common.{◌≤◌, ℕ, length, refl, arith}, specs.Arc.arc_value, proofs.lemmas.Grind.common_steps}
use Rattle.point_list.proofs.Joined.{front-take}
use Rattle.point_list.proofs.points.forget.Goals as goal

pub returns-clause-front : goal.returns-clause-front
returns-clause-front c =
    let m : ℕ = c.blocks_before-kept.result in
    let within : m ≤ length c.args.front.now.items = omega (arith, c.blocks_before-kept.ensures.within, c.len.ensures, c.args.front.now.ok.0) in
    rw c.truncate.ensures.items (front-take arc_value m c.args.front.now.items c.args.positions.now c.args.positions.now c.requires.front within refl)

pub returns-clause-below : goal.returns-clause-below
returns-clause-below c i d lt = grind (arith, common_steps)
