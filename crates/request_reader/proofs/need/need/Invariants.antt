use Rattle.std.proofs.Common.{◌-◌, length}
use Rattle.request_reader.specs.Filling.{HasGained}
use Rattle.request_reader.proofs.need.need.Given as goal

abbrev pub invariant-loop-enough : goal.invariant-loop-enough
invariant-loop-enough g l = HasGained g.S.Source l.initial.lines l.lines l.initial.source l.source

abbrev pub decreases-loop-enough : goal.decreases-loop-enough
decreases-loop-enough g l = l.total - length l.lines.kept
