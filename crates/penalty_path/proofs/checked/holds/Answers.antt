use Rattle.penalty_path.proofs.{Checks.{refuted, first-stands, last-stands, has-ends, of-ends, at-true}, Whole.same-cuts}
use Rattle.std.proofs.{Common.{pos, ◌≤ℤ◌, ◌^◌, arith}, lemmas.Int.ints}
use Rattle.penalty_path.proofs.checked.holds.Goals as goal

pub returns-then-not-has_ends : goal.returns-then-not-has_ends
returns-then-not-has_ends c = refuted c.has_ends.result c.if-not-has_ends.true c.has_ends.ensures.1 (has-ends c.args.points.now c.args.stretch.now)

pub returns-then-not-check : goal.returns-then-not-check
returns-then-not-check c = refuted c.check.result c.if-not-check.true c.check.ensures.1 (first-stands c.args.points.now c.args.stretch.now)

pub returns-then-not-check-2 : goal.returns-then-not-check-2
returns-then-not-check-2 c = refuted c.check-2.result c.if-not-check-2.true c.check-2.ensures.1 (last-stands c.args.points.now c.args.stretch.now)

pub returns : goal.returns
returns c =
    let known = c.points_law.ensures c.args.points.now in
    let ends = c.has_ends.ensures.0 (at-true c.has_ends.result c.if-not-has_ends.false) in
    let first = c.check.ensures.0 (at-true c.check.result c.if-not-check.false) in
    let last = c.check-2.ensures.0 (at-true c.check-2.result c.if-not-check-2.false) in
    let low : pos 0 ≤ℤ c.args.stretch.now.from = omega (arith, ints, ends, first) in
    let high : c.args.stretch.now.to ≤ℤ pos (10 ^ 36) = omega (arith, ints, ends, last) in (
      λ e. (low, high, of-ends c.args.points.now c.args.stretch.now known ends first.3 last.3 (c.same_cuts.ensures.0 e)),
      λ h. c.same_cuts.ensures.1 (same-cuts c.args.points.now known c.args.stretch.now h.2),
    )
