use Rattle.std.proofs.Common.{◌-◌, ◌≡◌, length}
use Rattle.audit_command.specs.Reading.{HasRead}
use Rattle.audit_command.proofs.reading.read_one.Given as goal

abbrev pub invariant-loop-count : goal.invariant-loop-count
invariant-loop-count g l = HasRead g.I.Source l.initial.input l.input l.text.items l.room × (length l.buffer ≡ 65_536)

abbrev pub decreases-loop-count : goal.decreases-loop-count
decreases-loop-count g l = l.room - length l.text.items
