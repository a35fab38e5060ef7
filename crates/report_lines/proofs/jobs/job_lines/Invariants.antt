use Rattle.std.proofs.Common.{◌≡◌, take}
use Rattle.track_model.specs.Reports.{numbered}
use Rattle.report_lines.specs.NumberedLines.{told_line}
use Rattle.report_lines.proofs.jobs.job_lines.Given as goal

-- the lines of those so far
abbrev pub invariant-loop-i : goal.invariant-loop-i
invariant-loop-i l = l.lines ≡ numbered (told_line l.commits) 1 (take l.i l.jobs)
