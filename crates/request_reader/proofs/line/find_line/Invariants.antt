use Rattle.std.proofs.Common.{◌-◌, length}
use Rattle.request_reader.specs.Filling.{HasGained}
use Rattle.request_reader.proofs.line.find_line.Given as goal

abbrev pub invariant-loop-end : goal.invariant-loop-end
invariant-loop-end g l = HasGained g.S.Source l.initial.lines l.lines l.initial.source l.source

abbrev pub decreases-loop-end : goal.decreases-loop-end
decreases-loop-end g l = 4_097 - length l.lines.kept
