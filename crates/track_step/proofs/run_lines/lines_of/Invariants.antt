use Rattle.std.proofs.Common.{◌≡◌, map, take}
use Rattle.track_step.specs.Lines.{line_of}
use Rattle.track_step.proofs.run_lines.lines_of.Given as goal

-- the lines of the runs so far
abbrev pub invariant-loop-stored : goal.invariant-loop-stored
invariant-loop-stored l = l.lines.items ≡ map (line_of l.commits) (take l.stored-index l.runs)
