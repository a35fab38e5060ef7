use Rattle.std.proofs.Common.{◌<◌, ◌≤◌, length, reverse, take, ◌↔◌}
use Rattle.segment_model.specs.Tables.{IsWalk}
use Rattle.cost_certificate.proofs.walk.cuts_hold.Given as goal

abbrev pub invariant-loop-left : goal.invariant-loop-left
invariant-loop-left l =
    (l.t < length l.back) × (l.left ≤ length l.cuts) × (IsWalk l.back l.t (reverse (take l.left l.cuts)) ↔ IsWalk l.back l.n (reverse l.cuts))

abbrev pub decreases-loop-left : goal.decreases-loop-left
decreases-loop-left l = l.left
