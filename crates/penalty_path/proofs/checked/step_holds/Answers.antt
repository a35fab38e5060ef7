use Rattle.std.{specs.Int.w128, proofs.lemmas.Int.to_z-of_z}
use Rattle.penalty_path.proofs.Checks.{refuted, at-true, step-range, joined-below}
use Rattle.penalty_path.proofs.checked.step_holds.Goals as goal

pub returns-then-not-is_between : goal.returns-then-not-is_between
returns-then-not-is_between c =
    let told = simp (to_z-of_z w128 c.args.from c.ranges.from, to_z-of_z w128 c.args.high c.ranges.high) at c.is_between.ensures in
    refuted c.is_between.result c.if-not-is_between.true told.1 (λ h. (h.1, joined-below c.args.high c.args.stretch.now c.args.more.now h.2))

pub returns-then-not-holds : goal.returns-then-not-holds
returns-then-not-holds c =
    refuted c.holds.result c.if-not-holds.true c.holds.ensures.1 (step-range c.args.points.now c.args.from c.args.high c.args.stretch.now c.args.more.now c.requires.range)

pub returns : goal.returns
returns c =
    let joined = simp (to_z-of_z w128 c.args.high c.ranges.high) at c.is_joined.ensures in
    let between = simp (to_z-of_z w128 c.args.from c.ranges.from, to_z-of_z w128 c.args.high c.ranges.high) at c.is_between.ensures in
    let is = c.holds.ensures.0 (at-true c.holds.result c.if-not-holds.false) in
    let begins = between.0 (at-true c.is_between.result c.if-not-is_between.false) in
    (λ e. (is.2, begins.0, joined.0 e), λ h. joined.1 h.2)
