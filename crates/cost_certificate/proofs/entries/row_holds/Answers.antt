use Rattle.std.{proofs.Common.{FitsSigned, rules, arith}, specs.Int.w128, proofs.lemmas.Int.ints}
use Rattle.cost_certificate.proofs.entries.row_holds.Goals as goal

pub returns : goal.returns
returns c =
    let low = c.args.tables.now.low in
    let high = c.args.tables.now.high in
    let fits : FitsSigned w128 c.args.tables.now.penalty = omega (arith, ints, low, high) in
    search rules
