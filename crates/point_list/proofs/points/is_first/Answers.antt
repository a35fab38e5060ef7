use Rattle.std.proofs.Common.{◌<◌, ◌≤◌, ◌-◌, ℕ, List, length, arith}
use Rattle.segment_model.specs.Segments.{Position}
use Rattle.point_list.proofs.Places.{stands-parted, all-below, all-from, ltb-true}
use Rattle.point_list.proofs.points.is_first.Goals as goal

pub returns-then-place-eq0-clause-stands : goal.returns-then-place-eq0-clause-stands
returns-then-place-eq0-clause-stands c on =
    let items : List Position = c.args.positions.now in
    let p : Position = c.at-position.result.now in
    let within : c.args.place < length items = omega (arith, c.if-place-len.false, c.len.ensures) in
    let above : c.args.commit ≤ p.commit = omega (arith, c.if-commit.false, c.commit.ensures) in
    stands-parted c.args.commit items c.args.place (omega (arith, within))
    (λ k d le lt. absurd (omega (arith, lt, c.if-place-eq0.true)))
    (all-from c.args.commit items c.requires c.args.place p within (c.at-position.ensures p) above)

pub returns-clause-stands : goal.returns-clause-stands
returns-clause-stands c on =
    let items : List Position = c.args.positions.now in
    let commit : ℕ = c.args.commit in
    let place : ℕ = c.args.place in
    let p : Position = c.at-position.result.now in
    let q : Position = c.at-before.result.now in
    let within : place < length items = omega (arith, c.if-place-len.false, c.len.ensures) in
    let above : commit ≤ p.commit = omega (arith, c.if-commit.false, c.commit.ensures) in
    let less : c.commit-2.result < commit = ltb-true c.commit-2.result commit on in
    let below : q.commit < commit = omega (arith, less, c.commit-2.ensures) in
    stands-parted commit items place (omega (arith, within))
    (λ k d le lt. all-below commit items c.requires (place - 1) q (omega (arith, within)) (c.at-before.ensures q) below k d (omega (arith, lt)))
    (all-from commit items c.requires place p within (c.at-position.ensures p) above)
