use Rattle.std.{proofs.Common.{FitsSigned, arith}, specs.Int.w128, proofs.lemmas.Int.{ints, to_z-of_z}}
use Rattle.cost_certificate.proofs.Needs.{told, closed}
use Rattle.cost_certificate.proofs.blocks.is_told.Goals as goal

pub returns-then-is_closed : goal.returns-then-is_closed
returns-then-is_closed c holds =
    let is = c.is_closed.ensures.0 c.if-is_closed.true in
    closed c.args.tables.now c.args.s c.args.from c.args.end is.0 is.1

pub returns : goal.returns
returns c holds =
    let made = c.made_from.ensures in
    let made_fits : FitsSigned w128 c.made_from.result = record { sfits = c.made_from.type_inv } in
    let b_fits : FitsSigned w128 c.args.tables.now.penalty = omega (arith, ints, c.args.tables.now.low, c.args.tables.now.high) in
    let need_low = c.requires.need.low in
    let need_high = c.requires.need.high in
    let need_fits : FitsSigned w128 c.args.need.total = omega (arith, ints, need_low, need_high) in
    let enough = simp to_z-of_z at (c.needs_no_look.ensures.total holds) in
    told c.args.tables.now c.args.need c.args.s c.args.from c.args.end c.made_from.result c.requires.placed (omega (arith, c.if-s-from.false)) c.requires.need
    made.total enough (c.needs_no_look.ensures.reach holds) (c.is_open_behind.ensures.0 c.if-not-is_open_behind.false)
