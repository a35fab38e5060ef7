use Rattle.std.proofs.Common.{◌-◌, length}
use Rattle.history_model.specs.declared.entries.Author.TheVariants.{Bisect}
use Rattle.track_room.specs.Work.{IsUntaken}
use Rattle.bisect_workers.specs.Bisecting.{IsBisected}
use Rattle.bisect_workers.proofs.last.bisect_last.Given as goal

-- the room that is left
abbrev pub decreases-turns : goal.decreases-turns
decreases-turns g l = 1_048_576 - length l.state.track.history

-- what was asked so far was said, and nobody has taken anything
abbrev pub invariant-turns : goal.invariant-turns
invariant-turns g l = IsBisected (Bisect 1) l.test l.fn.state.track l.state.track (g.R.Runner.asked l.fn.runner) (g.R.Runner.asked l.runner) (g.R.Runner.faults l.fn.runner) (g.R.Runner.faults l.runner)
    × IsUntaken l.state
