use Rattle.std.proofs.Common.{◌≡◌, map, take}
use Rattle.track_reports.specs.Lines.{named_by}
use Rattle.track_reports.proofs.told.all_named.Given as goal

-- the changes so far
abbrev pub invariant-loop-change : goal.invariant-loop-change
invariant-loop-change l = l.made ≡ map (named_by l.commits) (take l.change-index l.changes)
