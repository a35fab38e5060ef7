use Rattle.std.{proofs.Common.{FitsSigned, rules}, specs.Int.w128, proofs.lemmas.Int.to_z-of_z}
use Rattle.cost_certificate.specs.Checks.{total_at}
use Rattle.cost_certificate.proofs.entries.order_holds.Goals as goal

pub returns : goal.returns
returns c =
    let made_fits : FitsSigned w128 c.args.made = c.ranges.made in
    let total_fits : FitsSigned w128 (total_at c.args.tables.now c.args.t) = search rules in
    let may = c.is_candidate.ensures.0 c.if-not-is_candidate.false in
    let open' = c.is_open.ensures.0 c.if-not-is_open.false in
    let told = rw c.requires.made at (simp to_z-of_z at c.no_less.ensures) in
    (λ e is opened. told.0 e, λ all. told.1 (all may open'))
