use Rattle.std.proofs.Common.{◌≡◌, ◌-◌, length}
use Rattle.journal_walk.specs.Walks.{IsAlong}
use Rattle.journal_walk.proofs.judge.ByWalkJudge.count_allowed.Given as goal

abbrev pub invariant-loop-walk : goal.invariant-loop-walk
invariant-loop-walk l = record {
  along : IsAlong l.walk;
  same : l.walk.history ≡ l.history;
}

abbrev pub decreases-loop-walk : goal.decreases-loop-walk
decreases-loop-walk l = length l.history - length l.walk.track.history
