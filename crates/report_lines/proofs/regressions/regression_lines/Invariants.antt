use Rattle.std.proofs.Common.{◌≡◌, take}
use Rattle.track_model.specs.Reports.{numbered}
use Rattle.report_lines.specs.NumberedLines.{followed_line}
use Rattle.report_lines.proofs.regressions.regression_lines.Given as goal

-- the lines of those so far
abbrev pub invariant-loop-i : goal.invariant-loop-i
invariant-loop-i l = l.lines ≡ numbered (followed_line l.commits) 1 (take l.i l.regressions)
