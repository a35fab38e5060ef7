use Rattle.std.{proofs.Common.{inr, FitsSigned, arith}, specs.Int.w128, proofs.lemmas.Int.{ints, to_z-of_z}}
use Rattle.cost_certificate.proofs.blocks.passes.Goals as goal

pub returns-then-needs_no_look : goal.returns-then-needs_no_look
returns-then-needs_no_look c holds =
    let low = c.requires.total_low in
    let high = c.requires.total_high in
    let watch_fits : FitsSigned w128 c.args.watch.total = omega (arith, ints, low, high) in
    let b_fits : FitsSigned w128 c.args.tables.now.penalty = omega (arith, ints, c.args.tables.now.low, c.args.tables.now.high) in
    let enough = simp to_z-of_z at (c.needs_no_look.ensures.total c.if-needs_no_look.true) in
    let cost = c.args.tables.now.costs c.args.watch.at c.args.from c.requires.before c.requires.placed in
    inr (c.needs_no_look.ensures.reach c.if-needs_no_look.true, omega arith, omega (arith, ints, cost.0, enough))

pub returns : goal.returns
returns c holds =
    let floor = c.floor_at.ensures in
    let floor_low = floor.low in
    let floor_high = floor.high in
    let floor_fits : FitsSigned w128 c.floor_at.result = record { sfits = c.floor_at.type_inv } in
    let b_fits : FitsSigned w128 c.args.tables.now.penalty = omega (arith, ints, c.args.tables.now.low, c.args.tables.now.high) in
    let enough = simp to_z-of_z at (c.needs_no_look-2.ensures.total holds) in
    inr (c.needs_no_look-2.ensures.reach holds, omega arith, omega (arith, ints, floor.total, enough))
