use Rattle.std.{proofs.Common.{FitsSigned, arith}, specs.Int.w128, proofs.lemmas.Int.{ints, to_z-of_z}}
use Rattle.cost_certificate.proofs.Watches.{closed-more, open-more}
use Rattle.cost_certificate.proofs.blocks.next_watch.Goals as goal

pub returns-then-is_closed-clause-watch : goal.returns-then-is_closed-clause-watch
returns-then-is_closed-clause-watch c =
    closed-more c.args.tables.now c.args.start c.args.watch c.args.s
    (c.is_closed.ensures.0 c.if-is_closed.true) c.requires.watch

pub returns-clause-watch : goal.returns-clause-watch
returns-clause-watch c =
    let made = c.made_from.ensures in
    let fits : FitsSigned w128 c.made_from.result = record { sfits = c.made_from.type_inv } in
    let low = c.requires.watch.low in
    let high = c.requires.watch.high in
    let watch_fits : FitsSigned w128 c.args.watch.total = omega (arith, ints, low, high) in
    let total = simp to_z-of_z at c.watch_with.ensures.total in
    let until = c.watch_with.ensures.until in
    open-more c.args.tables.now c.args.start c.args.watch c.watch_with.result c.args.s c.made_from.result c.requires.below c.requires.watch
    made.total made.low made.high total.0 total.1 total.2 until.0 until.1 c.watch_with.ensures.open c.watch_with.ensures.at
